-- Where no byte is held after a fill, the input has ended.
use Rattle.pnm_read.proofs.Words.{◌≡◌, ℕ, true, inl, inr, List, [], ◌∷◌, length, None, slice_get, sym, ap, arith, BufferedReader, held_of, HoldsEnough}

-- there is no first byte
pub none_held : (bytes : List ℕ) {held : List ℕ} → bytes ≡ held → None ≡ slice_get bytes 0 → held ≡ []
none_held [] is none = sym is
none_held (b ∷ bytes) is none = absurd cc

pub end_seen : {R : Type 0} (input : BufferedReader R) → HoldsEnough 1 input → held_of input ≡ [] → input.ended ≡ true
end_seen input (inl enough) none = absurd (omega (arith, ap (λ (l : List ℕ). length l) none))
end_seen input (inr ended) none = ended
