-- The ring between two stages, once both have ended: what was sent and received over it, and what is left.
use Rattle.std.specs.Prelude.{◌≡◌, [], ◌++◌}
use Rattle.pnm_stages.specs.Rings.{sent, received, known_items, IsPair}
use Rattle.pnm_flow.specs.declared.chain.Link.{Link}

-- the two ends are those of one ring: what was sent is what was received, and then what is left
pub record IsWhole (link : Link) : Type 0 where
  pub one_ring : IsPair link.producer link.consumer
  pub in_order : sent link.producer ≡ received link.consumer ++ known_items link.consumer

-- nothing is left
abbrev pub IsDrained : Link → Type 0
IsDrained link = known_items link.consumer ≡ []
