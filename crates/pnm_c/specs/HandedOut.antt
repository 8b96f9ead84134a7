-- Results that lie in memory which C frees.
use Rattle.std.specs.Prelude.{◌≡◌, ◌⊎◌, ℕ, vec_len}
use Rattle.std.specs.declared.vec.Vec.{Vec}
use Rattle.std.specs.declared.alloc.Global.{Global}
use denote.RawPtr.{null_ptr}
use Rattle.pnm_c.specs.declared.bytes.Bytes.{Bytes}

abbrev pub IsNothing : Bytes → Type 0
IsNothing bytes = (bytes.at ≡ null_ptr) × (bytes.length ≡ 0)

-- the pointer and the length are those of the vector, or null and 0 where it holds nothing
abbrev pub IsHandedOut : Vec ℕ Global → Bytes → Type 0
IsHandedOut written bytes = ((vec_len written ≡ 0) × IsNothing bytes)
    ⊎ ((bytes.at ≡ written.ptr) × (bytes.length ≡ vec_len written))
