use Rattle.pnm_samples.proofs.Words.{◌≡◌, ◌∙◌, ℕ, List, [], get_or, take, ap, arith, rows_of_bytes, all_pixels}
use Rattle.pnm_samples.proofs.BitRowLaws.{first_of_none, first_of_rows}
use Rattle.pnm_samples.proofs.bit_rows.BitRows.into_first.Goals.{then-self-gt0, else-self-gt0}
use Rattle.pnm_samples.proofs.bit_rows.BitRows.into_first.Goals as goal

pub returns : goal.returns
returns c =
    let x = c.self.inside in
    let first : take c.if-self-gt0.count (all_pixels x.bytes.items) ≡ get_or (rows_of_bytes x.count x.each x.bytes.items) 0 [] = elim c.if-self-gt0.branch [
      | then-self-gt0 w ↦ first_of_rows x.count x.bytes.items (omega (arith, w.if-self-gt0.true)) w.count-is
      | else-self-gt0 w ↦ first_of_none x.count x.each x.bytes.items (omega (arith, w.if-self-gt0.false)) w.count-is
    ] in
    c.new.ensures ∙ first ∙ ap (λ (l : List (List ℕ)). get_or l 0 []) c.self.view_is
