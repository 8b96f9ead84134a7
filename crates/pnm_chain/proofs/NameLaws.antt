-- The names of tools and options, one after another.
use Rattle.pnm_chain.proofs.Words.{◌≡◌, Bool, true, false, Option, Some, refl, option_or}
use Rattle.std.specs.Prelude.{if◌then◌else◌}

-- what is tried after a test is tried where the test fails
pub tried_after : {T : Type 0} (test : Bool) (named : T) (before after : Option T)
    → option_or (if test then Some named else before) after ≡ (if test then Some named else option_or before after)
tried_after true named before after = refl
tried_after false named before after = refl
