use Rattle.pnm_write.proofs.Words.{◌≤◌, ◌∙◌, All, ap, sym, subst, row_length, Raw, row_bytes, WriteCall}
use Rattle.pnm_write.proofs.RowsLaws.{as_one_of_cut, rows_as_one, long_rows, range_of_rows}
use Rattle.pnm_write.proofs.rows.write_as_one.Goals as goal

pub write_samples-requires : goal.write_samples-requires
write_samples-requires g c =
    let s = c.args.shape in
    let rows = c.args.rows.now in
    let long = long_rows s rows c.requires.rows in
    let all = as_one_of_cut (row_length s) c.in-Bytes.bytes.now (c.in-Bytes.ensures.rows (row_length s) long) (c.in-Bytes.ensures.whole (row_length s) long) in
    record {
      range = subst (All (λ sample. sample ≤ s.maxval)) (sym all) (range_of_rows s rows c.requires.rows);
      spare = tt;
    }

pub returns-in-Bytes : goal.returns-in-Bytes
returns-in-Bytes g c =
    let s = c.args.shape in
    let rows = c.args.rows.now in
    let long = long_rows s rows c.requires.rows in
    let all = as_one_of_cut (row_length s) c.in-Bytes.bytes.now (c.in-Bytes.ensures.rows (row_length s) long) (c.in-Bytes.ensures.whole (row_length s) long) in
    subst (WriteCall g.W.BytesOut.held g.W.BytesOut.failures g.W.BytesOut.same c.args.writer.now c.write_samples.new.writer c.write_samples.result)
    (ap (row_bytes Raw s) all ∙ rows_as_one s rows c.requires.rows c.requires.whole) c.write_samples.ensures

pub write_samples-requires-in-Words : goal.write_samples-requires-in-Words
write_samples-requires-in-Words g c =
    let s = c.args.shape in
    let rows = c.args.rows.now in
    let long = long_rows s rows c.requires.rows in
    let all = as_one_of_cut (row_length s) c.in-Words.words.now (c.in-Words.ensures.rows (row_length s) long) (c.in-Words.ensures.whole (row_length s) long) in
    record {
      range = subst (All (λ sample. sample ≤ s.maxval)) (sym all) (range_of_rows s rows c.requires.rows);
      spare = tt;
    }

pub returns-in-Words : goal.returns-in-Words
returns-in-Words g c =
    let s = c.args.shape in
    let rows = c.args.rows.now in
    let long = long_rows s rows c.requires.rows in
    let all = as_one_of_cut (row_length s) c.in-Words.words.now (c.in-Words.ensures.rows (row_length s) long) (c.in-Words.ensures.whole (row_length s) long) in
    subst (WriteCall g.W.BytesOut.held g.W.BytesOut.failures g.W.BytesOut.same c.args.writer.now c.write_samples-in-Words.new.writer
    c.write_samples-in-Words.result) (ap (row_bytes Raw s) all ∙ rows_as_one s rows c.requires.rows c.requires.whole) c.write_samples-in-Words.ensures
