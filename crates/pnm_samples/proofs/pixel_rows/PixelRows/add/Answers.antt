use Rattle.pnm_samples.proofs.Words.{◌≡◌, ◌<◌, ◌+◌, ◌*◌, ◌++◌, ◌∙◌, ℕ, List, length, take, drop, refl, ap, arith, drop_at, length-append, take_at, bytes_for}
use Rattle.pnm_samples.proofs.Words.{ordered_rows, rows_of_bytes}
use Rattle.pnm_samples.proofs.PixelRowsLaws.{bytes_added, rows_pushed}
use Rattle.pnm_samples.proofs.pixel_rows.PixelRows.add.Goals.{else-self-gt0-via-then-self-gt0+else-self-each, else-self-gt0-via-else-self-gt0}
use Rattle.pnm_samples.proofs.pixel_rows.PixelRows.add.Goals as goal

pub invariant_of-self-2 : goal.invariant_of-self-2
invariant_of-self-2 c =
    let x = c.self.inside in
    let alike : 0 < x.count → x.each ≡ c.args.each = λ some. elim c.else-self-gt0.branch [
      | else-self-gt0-via-then-self-gt0+else-self-each w ↦ omega (arith, w.if-self-each.false)
      | else-self-gt0-via-else-self-gt0 w ↦ absurd (omega (arith, some, w.if-self-gt0.false))
    ] in
    ap length c.in_ok-extend_from_slice.ensures.items ∙ length-append x.bytes.items c.args.bytes.now
    ∙ ap (λ (n : ℕ). length x.bytes.items + n) c.requires
    ∙ bytes_added x.count x.each c.args.count c.args.each c.self.invariant alike
    ∙ ap (λ (n : ℕ). n * bytes_for c.args.each) (omega (arith, c.in-Some.ensures))

pub returns-clause-added : goal.returns-clause-added
returns-clause-added c =
    let x = c.self.inside in
    let alike : 0 < x.count → x.each ≡ c.args.each = λ some. elim c.else-self-gt0.branch [
      | else-self-gt0-via-then-self-gt0+else-self-each w ↦ omega (arith, w.if-self-each.false)
      | else-self-gt0-via-else-self-gt0 w ↦ absurd (omega (arith, some, w.if-self-gt0.false))
    ] in
    let total : c.in-Some.total ≡ x.count + c.args.count = omega (arith, c.in-Some.ensures) in
    let new = c.extend_from_slice.new.self.items in
    let items : new ≡ x.bytes.items ++ c.args.bytes.now = c.in_ok-extend_from_slice.ensures.items in
    ap (λ (n : ℕ). ordered_rows x.is_reversed n c.args.each new) total
    ∙ rows_pushed x.count x.each c.args.count c.args.each new c.if-self.false c.self.view_is c.self.invariant alike
    (ap (take (length x.bytes.items)) items ∙ take_at x.bytes.items c.args.bytes.now (length x.bytes.items) refl)
    (ap (λ (l : List ℕ). rows_of_bytes c.args.count c.args.each (drop (length x.bytes.items) l)) items
    ∙ ap (rows_of_bytes c.args.count c.args.each) (drop_at x.bytes.items c.args.bytes.now (length x.bytes.items) refl))
