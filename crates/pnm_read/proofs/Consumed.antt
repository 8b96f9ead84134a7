-- What a reader has given in turns that follow one another.
use Rattle.pnm_read.proofs.Words.{ℕ, List, [], ◌++◌, Option, Some, None, refl, sym, ap, ◌∙◌, append_assoc, Consumes}

pub consumes_nothing : (a : Option (List ℕ)) → Consumes a a []
consumes_nothing None = tt
consumes_nothing (Some xs) = refl

pub consumes_then : (a b c : Option (List ℕ)) (bs cs : List ℕ) → Consumes a b bs → Consumes b c cs → Consumes a c (bs ++ cs)
consumes_then None b c bs cs p q = tt
consumes_then (Some xs) None c bs cs p q = absurd p
consumes_then (Some xs) (Some ys) None bs cs p q = absurd q
consumes_then (Some xs) (Some ys) (Some zs) bs cs p q = p ∙ ap (λ (l : List ℕ). bs ++ l) q ∙ sym (append_assoc bs cs zs)
