use Rattle.pnm_io_loop.proofs.Words.{inr, sym, ◌∙◌, arith, false≢true, leb-false}
use Rattle.pnm_io_loop.proofs.io_loop.may_send.Goals as goal
use Rattle.pnm_io_loop.proofs.io_loop.may_send.Goals.{then-is_over, else-is_over}

-- more images were sent than taken
pub returns-else-images-clause-no : goal.returns-else-images-clause-no
returns-else-images-clause-no g c = λ no. elim c.if-is_over.branch [
  | then-is_over w ↦ absurd (false≢true (sym c.if-images.false ∙ w.value-is ∙ w.if-is_over.true))
  | else-is_over w ↦
      let more = leb-false w.images.result w.images-else-is_over.result (sym w.value-is ∙ c.if-images.false) in
      inr (sym c.is_over-then-not-is_over.ensures ∙ w.if-is_over.false, omega (arith, more, w.images.ensures, w.images-else-is_over.ensures))
]
