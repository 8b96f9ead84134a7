use Rattle.pnm_write.proofs.Words.{◌≡◌, ◌∙◌, ℕ, List, refl, ap, sym, subst, rules, flat_map, row_length, sample_width_of, Form, Raw, SampleWidth, Bits, Shape}
use Rattle.pnm_write.proofs.Words.{bytes_in, packed_bytes, AreWholeBytes, rows_bytes, WriteCall}
use Rattle.pnm_write.proofs.RowsLaws.{long_rows}
use Rattle.pnm_write.proofs.rows.write_rows.Goals as goal

-- the bytes of rows of bits are those of the rows
bytes_of_bits : {form : Form} (s : Shape) {p : SampleWidth} {bytes : List ℕ} {bits rows : List (List ℕ)} → form ≡ Raw → p ≡ Bits
    → p ≡ sample_width_of s.kind s.maxval → bytes ≡ flat_map packed_bytes bits → bits ≡ rows → bytes ≡ rows_bytes form s rows
bytes_of_bits s {rows} raw width is packed same =
    packed ∙ ap (flat_map packed_bytes) same ∙ ap (λ (q : SampleWidth). flat_map (bytes_in q) rows) (sym width ∙ is)
    ∙ ap (λ (f : Form). rows_bytes f s rows) (sym raw)

pub returns-in-Raw-Bits-Bits : goal.returns-in-Raw-Bits-Bits
returns-in-Raw-Bits-Bits g c =
    let rows = c.args.rows.now in
    subst (WriteCall g.W.BytesOut.held g.W.BytesOut.failures g.W.BytesOut.same c.args.writer.now c.write_all.new.writer c.write_all.result)
    (bytes_of_bits c.args.shape c.in-Raw-Bits-Bits.is-0 c.in-Raw-Bits-Bits.is-1 c.of-sample_width.ensures c.parts.ensures.bytes
    (c.in-Raw-Bits-Bits.ensures.rows (row_length c.args.shape) (long_rows c.args.shape rows c.requires))) (record {
      written = c.write_all.ensures.written;
      failed = c.write_all.ensures.failed;
      count = c.write_all.ensures.count;
      same_device = c.write_all.ensures.same_device;
    })

pub returns-then-has_whole_samples : goal.returns-then-has_whole_samples
returns-then-has_whole_samples g c =
    let raw : c.args.form ≡ Raw = search rules in
    subst (λ (form : Form). WriteCall g.W.BytesOut.held g.W.BytesOut.failures g.W.BytesOut.same c.args.writer.now c.write_as_one.new.writer
    c.write_as_one.result (rows_bytes form c.args.shape c.args.rows.now)) (sym raw) c.write_as_one.ensures

pub write_as_one-requires-clause-rows : goal.write_as_one-requires-clause-rows
write_as_one-requires-clause-rows g c = c.requires

pub write_as_one-requires-clause-whole : goal.write_as_one-requires-clause-whole
write_as_one-requires-clause-whole g c =
    subst (λ (p : SampleWidth). AreWholeBytes p (row_length c.args.shape)) c.of-sample_width.ensures
    (c.if-has_whole_samples.ensures refl (row_length c.args.shape))
