-- The picked image, from pamchannel(1): a PAM image of planes of the image, in the order in which they are named. Its
-- tuple type is the one that is named.
use Rattle.std.specs.Prelude.{◌≤◌, ◌<◌, ℕ, ◌+◌, ◌-◌, ◌*◌, List, length, map, slice_index, All, Result}
use Rattle.std.specs.Prelude.{Err, if◌then◌else◌, nat_lt, true, [], ◌∷◌}
use Rattle.std.specs.List.{flat_map, range_with_len, list_all}
use Rattle.pnm_image.specs.declared.limits.TheConstants.{MAX_DEPTH}
use Rattle.pnm_image.specs.declared.shape.Kind.TheVariants.{Pam}
use Rattle.pnm_image.specs.declared.shape.Shape.{Shape}
use Rattle.pnm_image.specs.Heads.{HeadValue, IsTupleType}
use Rattle.pnm_image.specs.Images.{Image, sample_at}
use Rattle.pnm_tools.specs.declared.fault.ToolFault.{ToolFault}
use Rattle.pnm_tools.specs.declared.fault.ToolFault.TheVariants.{ChannelOutside}
use Rattle.pnm_tools.specs.ToolLimits.{within_limits}
use Rattle.pnm_tools.specs.Meaning.{Meaning, RowRule}

-- the numbers of the planes, from 0, and the tuple type of what is picked
pub record Picks : Type 0 where
  pub numbers : List ℕ
  pub tuple_type : List ℕ

abbrev pub picks : List ℕ → List ℕ → Picks
picks numbers tuple_type = record { numbers = numbers; tuple_type = tuple_type }

-- as many planes as an image has at most, each numbered as one of those
pub record IsLawfulPick (picks : Picks) : Type 0 where
  pub some : 1 ≤ length picks.numbers
  pub not_many : length picks.numbers ≤ MAX_DEPTH
  pub in_range : All (λ number. number ≤ MAX_DEPTH - 1) picks.numbers
  pub tuple_type : IsTupleType picks.tuple_type

abbrev pub picked_head_value : Picks → HeadValue → HeadValue
picked_head_value picks head =
    record { shape = record head.shape { kind = Pam; depth = length picks.numbers }; tuple_type = picks.tuple_type }

-- refused where the image has no plane of one of the numbers
abbrev pub picked_head : Picks → HeadValue → Result HeadValue ToolFault
picked_head picks head =
    if list_all (λ number. nat_lt number head.shape.depth) picks.numbers then within_limits
    (picked_head_value picks head)
    else Err ChannelOutside

abbrev pub picked_sample : Picks → Image → ℕ → ℕ → ℕ → ℕ
picked_sample picks i x y p = sample_at i x y (slice_index picks.numbers p)

-- the planes that are picked of a row whose samples are numbers
abbrev pub picked_samples : List ℕ → Shape → List ℕ → List ℕ
picked_samples numbers s row = flat_map (λ x. map (λ number. slice_index row (x * s.depth + number)) numbers)
    (range_with_len 0 s.width)

-- a row of an image of this shape
abbrev pub picked_row : Picks → Shape → List ℕ → List ℕ
picked_row picks s row = picked_samples picks.numbers s row

-- an image of this shape has the planes
abbrev pub HasPlanes : Picks → Shape → Type 0
HasPlanes picks s = All (λ number. number < s.depth) picks.numbers

abbrev pub picking : Picks → Meaning
picking picks = record {
  lawful = IsLawfulPick picks;
  row_wise = true;
  head = picked_head picks;
  sample = picked_sample picks;
}

abbrev pub picked_row_rule : Picks → RowRule
picked_row_rule picks = record { row_answer = λ s y row. picked_row picks s row ∷ []; end_answer = λ s rows. [] }
