use Rattle.pnm_write.proofs.Words.{◌≡◌, ◌∙◌, List, ℕ, take, refl, ap, sym, subst, all_pixels, ArePacked, AreBytes, HasWhiteSpare, slice_samples, packed_view}
use Rattle.pnm_write.proofs.Words.{sample_width_of, SampleWidth, Bits, packed_bytes, bytes_in, WriteCall}
use Rattle.pnm_write.proofs.row.write_raw.Goals as goal

-- the bytes that are written are those of the row's pixels
bytes_of_pixels : {p : SampleWidth} {count : ℕ} {written bytes samples : List ℕ} → samples ≡ take count (all_pixels bytes) → ArePacked count bytes
    → written ≡ bytes → AreBytes written → Bits ≡ p → written ≡ bytes_in p samples
bytes_of_pixels {count} {written} {samples} is spare same fit width =
    packed_view count written (take count (all_pixels written)) (subst (ArePacked count) (sym same) spare) fit refl
    ∙ ap (λ (l : List ℕ). packed_bytes (take count (all_pixels l))) same ∙ ap packed_bytes (sym is)
    ∙ ap (λ (q : SampleWidth). bytes_in q samples) width

pub returns-in-Bits-Bits : goal.returns-in-Bits-Bits
returns-in-Bits-Bits g c =
    let row = c.args.row in
    subst (WriteCall g.W.BytesOut.held g.W.BytesOut.failures g.W.BytesOut.same c.args.writer.now c.write_all.new.writer c.write_all.result)
    (bytes_of_pixels (ap slice_samples c.in-Bits-Bits.is-1) (subst HasWhiteSpare c.in-Bits-Bits.is-1 c.requires.spare) c.bytes_of.ensures.same
    c.bytes_of.ensures.fit c.in-Bits-Bits.ensures) (record {
      written = c.write_all.ensures.written;
      failed = c.write_all.ensures.failed;
      count = c.write_all.ensures.count;
      same_device = c.write_all.ensures.same_device;
    })
