use Rattle.pnm_transpose.proofs.Words.{◌≡◌, ◌<◌, ◌+◌, ◌*◌, ◌∙◌, ℕ, ap, arith, ordered_rows_in}
use Rattle.pnm_transpose.proofs.FlatRowsLaws.{rows_pushed, samples_added}
use Rattle.pnm_transpose.proofs.flat_rows.FlatRows.push_rows.Goals.{else-self-gt0-via-then-self-gt0+else-self-each, else-self-gt0-via-else-self-gt0}
use Rattle.pnm_transpose.proofs.flat_rows.FlatRows.push_rows.Goals as goal

pub invariant_of-self-2 : goal.invariant_of-self-2
invariant_of-self-2 g c =
    let x = c.self.inside in
    let alike : 0 < x.count → x.each ≡ c.args.each = λ some. elim c.else-self-gt0.branch [
      | else-self-gt0-via-then-self-gt0+else-self-each w ↦ omega (arith, w.if-self-each.false)
      | else-self-gt0-via-else-self-gt0 w ↦ absurd (omega (arith, some, w.if-self-gt0.false))
    ] in
    samples_added x.count x.each c.args.count c.args.each x.samples.items c.args.samples.now c.self.invariant alike
    c.in_ok-extend_from_slice.ensures.items c.requires ∙ ap (λ (n : ℕ). n * c.args.each) (omega (arith, c.in-Some.ensures))

pub returns-clause-added : goal.returns-clause-added
returns-clause-added g c =
    let x = c.self.inside in
    let alike : 0 < x.count → x.each ≡ c.args.each = λ some. elim c.else-self-gt0.branch [
      | else-self-gt0-via-then-self-gt0+else-self-each w ↦ omega (arith, w.if-self-each.false)
      | else-self-gt0-via-else-self-gt0 w ↦ absurd (omega (arith, some, w.if-self-gt0.false))
    ] in
    let total : c.in-Some.total ≡ x.count + c.args.count = omega (arith, c.in-Some.ensures) in
    ap (λ (n : ℕ). ordered_rows_in x.is_reversed n c.args.each c.extend_from_slice.new.self.items) total
    ∙ rows_pushed x.count x.each c.args.count c.args.each x.samples.items c.args.samples.now
    c.if-self.false c.self.view_is c.self.invariant alike c.in_ok-extend_from_slice.ensures.items
