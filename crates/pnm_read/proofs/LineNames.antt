-- The names of lines, one after another.
use Rattle.pnm_read.proofs.Words.{◌≡◌, ℕ, ◌==◌, Bool, true, false, Option, Some, List, [], ◌∷◌, ◌<◌, length, codes, get_or, refl, arith, option_or, unwrap_or}
use Rattle.pnm_read.proofs.Words.{bytes_eq, Width, Height, Depth, Maxval, Number, TupleType, End, Unknown, name_of}
use Rattle.std.specs.Prelude.{if◌then◌else◌}
use Rattle.pnm_read.specs.PamLines.{kind_of_token}

-- what is tried after a test is tried where the test fails
pub tried_after : {T : Type 0} (test : Bool) (named : T) (before after : Option T)
    → option_or (if test then Some named else before) after ≡ (if test then Some named else option_or before after)
tried_after true named before after = refl
tried_after false named before after = refl

pub tried_last : {T : Type 0} (test : Bool) (named last : T) (before : Option T)
    → unwrap_or (if test then Some named else before) last ≡ (if test then named else unwrap_or before last)
tried_last true named last before = refl
tried_last false named last before = refl

-- a token that is neither empty nor a comment is one of the names, or unknown
pub kind_named : (token : List ℕ) → 0 < length token → get_or token 0 0 == 35 ≡ false → kind_of_token token
    ≡ (if bytes_eq (name_of Width) token then Number Width else if bytes_eq (name_of Height) token then Number Height
    else if bytes_eq (name_of Depth) token then Number Depth else if bytes_eq (name_of Maxval) token then Number Maxval
    else if bytes_eq (codes "TUPLTYPE") token then TupleType else if bytes_eq (codes "ENDHDR") token then End else Unknown)
unfolding kind_of_token
kind_named [] some plain = absurd (omega arith)
kind_named (b ∷ text) some plain = rw plain refl
