use Rattle.pnm_read.proofs.Words.{Bor, ◌≡◌, ◌⊎◌, inl, inr, ℕ, List, [], ◌∷◌, ap, arith, common_steps}
use Rattle.pnm_read.proofs.fields.Fields.add_tuple_type.Goals.{then-is_empty-2, else-is_empty-2}
use Rattle.pnm_read.proofs.fields.Fields.add_tuple_type.Goals as goal

joined : goal.returns
joined c = grind (arith, common_steps)

pub returns : goal.returns
returns c =
    let now : Bor (List ℕ) → List ℕ = λ blank. blank.now in
    let _blank : (now c.if-is_empty-2.blank ≡ []) ⊎ (now c.if-is_empty-2.blank ≡ 32 ∷ []) = elim c.if-is_empty-2.branch [
      | then-is_empty-2 w ↦ inl (ap now w.blank-is)
      | else-is_empty-2 w ↦ inr (ap now w.blank-is)
    ] in
    joined c
