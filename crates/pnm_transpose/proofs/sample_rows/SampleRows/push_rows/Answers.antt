use Rattle.pnm_transpose.proofs.Words.{◌∙◌, ap, length, refl, sym, slice_lists, row_lists}
use Rattle.pnm_transpose.proofs.SampleRowLaws.{none_is_added, rows_are_added, rows_are_lent}
use Rattle.pnm_transpose.proofs.sample_rows.SampleRows.push_rows.Goals as goal
use Rattle.pnm_transpose.proofs.sample_rows.SampleRows.push_rows.Goals.{in-Bits-Bits+in_ok-push_rows-in-Bits-Bits}
use Rattle.pnm_transpose.proofs.sample_rows.SampleRows.push_rows.Goals.{in-Bytes-Bytes+in_ok-push_rows-in-Bytes-Bytes}
use Rattle.pnm_transpose.proofs.sample_rows.SampleRows.push_rows.Goals.{in-Words-Words+in_ok-push_rows-in-Words-Words}
use Rattle.pnm_transpose.proofs.sample_rows.SampleRows.push_rows.Goals.{in_default, in_default-2, in_default-3}

pub returns-clause-added : goal.returns-clause-added
returns-clause-added c =
    let rows = c.args.rows.now in
    let count = c.count.result in
    let each = c.row_length-each.result in
    let lent = c.as_slice.ensures.rows each c.row_length-each.ensures.each in
    elim c.match-self.branch [
      | in-Bits-Bits+in_ok-push_rows-in-Bits-Bits w ↦ rows_are_added c.args.self.now c.match-self.self w.result-is (ap row_lists w.in-Bits-Bits.is-0)
          (ap row_lists w.self-is)
          (ap (slice_lists (length rows) each) (sym w.in-Bits-Bits.is-1) ∙ lent) w.in_ok-push_rows-in-Bits-Bits.ensures.added
      | in-Bytes-Bytes+in_ok-push_rows-in-Bytes-Bytes w ↦ rows_are_added c.args.self.now c.match-self.self w.result-is (ap row_lists w.in-Bytes-Bytes.is-0)
          (ap row_lists w.self-is)
          (rows_are_lent each w.in-Bytes-Bytes.bytes.now c.count.ensures.rows w.in-Bytes-Bytes.is-1 refl lent) w.in_ok-push_rows-in-Bytes-Bytes.ensures.added
      | in-Words-Words+in_ok-push_rows-in-Words-Words w ↦ rows_are_added c.args.self.now c.match-self.self w.result-is (ap row_lists w.in-Words-Words.is-0)
          (ap row_lists w.self-is)
          (rows_are_lent each w.in-Words-Words.words.now c.count.ensures.rows w.in-Words-Words.is-1 refl lent) w.in_ok-push_rows-in-Words-Words.ensures.added
      | in_default w ↦ none_is_added _ w.result-is
      | in_default-2 w ↦ none_is_added _ w.result-is
      | in_default-3 w ↦ none_is_added _ w.result-is
    ]
