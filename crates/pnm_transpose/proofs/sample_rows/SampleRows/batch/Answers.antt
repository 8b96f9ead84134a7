use Rattle.pnm_transpose.proofs.Words.{◌≡◌, ℕ, List, [], reverse, ap, sym, subst, ◌∙◌, row_lists, strip_lists, rows_width}
use Rattle.std.proofs.Common.{IfOk}
use Rattle.pnm_transpose.proofs.BitColumnLaws.{batch_of_byte}
use Rattle.pnm_transpose.proofs.StripLaws.{kept_alone}
use Rattle.pnm_transpose.proofs.sample_rows.SampleRows.batch.Goals as goal

pub returns-in_ok-columns-in-Bits-clause-made : goal.returns-in_ok-columns-in-Bits-clause-made
returns-in_ok-columns-in-Bits-clause-made c =
    let kept : List (List ℕ) = row_lists c.args.self.now in
    let none : strip_lists c.args.self.now ≡ [] = ap strip_lists c.in-Bits.is in
    let within = c.requires.bits (ap rows_width c.in-Bits.is) in
    let same = sym (ap row_lists c.in-Bits.is) in
    subst (λ (columns : List (List ℕ)). IfOk c.last_first.result (λ batch. batch.items ≡ columns)) (batch_of_byte within c.requires.reach.each_row same
    c.in_ok-columns-in-Bits.ensures
    ∙ ap reverse (kept_alone c.args.rows_first c.args.depth c.args.first c.args.count (strip_lists c.args.self.now) kept none)) c.last_first.ensures.made
