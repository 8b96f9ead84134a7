use Rattle.pnm_write.proofs.Words.{◌≡◌, ◌≤◌, ◌<◌, ◌^◌, ◌∙◌, All, List, ℕ, map, take, sym, ap, subst, arith, rules, map-id, All-weaker, Kind, Bit, HasWhiteSpare}
use Rattle.pnm_write.proofs.Words.{slice_samples, all_pixels, plain_row_text, WriteCall}
use Rattle.pnm_write.proofs.PlainLaws.{row_of_numbers}
use Rattle.pnm_write.proofs.plain.write_lines.Goals as goal

-- the pixels that are written are the row's
row_of_pixels : {kind : Kind} (count : ℕ) (bytes : List ℕ) {samples : List ℕ} → kind ≡ Bit → samples ≡ take count (all_pixels bytes)
    → plain_row_text Bit (take count (all_pixels bytes)) ≡ plain_row_text kind samples
row_of_pixels count bytes {samples} is same = ap (plain_row_text Bit) (sym same) ∙ ap (λ (k : Kind). plain_row_text k samples) (sym is)

-- the numbers of a row are below a bound of all numbers
numbers_of_row : (maxval : ℕ) {numbers samples : List ℕ} → samples ≡ numbers → maxval < 2 ^ 32 → All (λ sample. sample ≤ maxval) samples
    → All (λ number. number < 2 ^ 64) (map (λ n. n) numbers)
numbers_of_row maxval {numbers} {samples} is low range =
    subst (All (λ number. number < 2 ^ 64)) (is ∙ sym (map-id numbers))
    (All-weaker (λ sample. sample ≤ maxval) (λ number. number < 2 ^ 64) (λ n h. omega arith) samples range)

pub write_pixels-requires : goal.write_pixels-requires
write_pixels-requires g c =
    let packed = subst HasWhiteSpare c.in-Bit-Bits.is-1 c.requires.spare in
    omega (arith, packed.enough)

pub returns-in-Bit-Bits : goal.returns-in-Bit-Bits
returns-in-Bit-Bits g c =
    subst (WriteCall g.W.BytesOut.held g.W.BytesOut.failures g.W.BytesOut.same c.args.writer.now c.write_pixels.new.writer c.write_pixels.result)
    (row_of_pixels c.in-Bit-Bits.count c.in-Bit-Bits.bytes.now c.in-Bit-Bits.is-0 (ap slice_samples c.in-Bit-Bits.is-1)) c.write_pixels.ensures

pub write_numbers-requires : goal.write_numbers-requires
write_numbers-requires g c = numbers_of_row c.args.shape.maxval (ap slice_samples c.in-Gray-Bytes.is-1) (omega arith) c.requires.range

pub returns-in-Gray-Bytes : goal.returns-in-Gray-Bytes
returns-in-Gray-Bytes g c =
    let is : c.args.shape.kind ≡ Bit → ⊥ = search rules in
    subst (WriteCall g.W.BytesOut.held g.W.BytesOut.failures g.W.BytesOut.same c.args.writer.now c.write_numbers.new.writer c.write_numbers.result)
    (row_of_numbers c.args.shape.kind is (map-id c.in-Gray-Bytes.bytes.now ∙ sym (ap slice_samples c.in-Gray-Bytes.is-1))) c.write_numbers.ensures

pub write_numbers-requires-in-Gray-Words : goal.write_numbers-requires-in-Gray-Words
write_numbers-requires-in-Gray-Words g c = numbers_of_row c.args.shape.maxval (ap slice_samples c.in-Gray-Words.is-1) (omega arith) c.requires.range

pub returns-in-Gray-Words : goal.returns-in-Gray-Words
returns-in-Gray-Words g c =
    let is : c.args.shape.kind ≡ Bit → ⊥ = search rules in
    subst (WriteCall g.W.BytesOut.held g.W.BytesOut.failures g.W.BytesOut.same c.args.writer.now
    c.write_numbers-in-Gray-Words.new.writer c.write_numbers-in-Gray-Words.result) (row_of_numbers c.args.shape.kind is
    (map-id c.in-Gray-Words.words.now ∙ sym (ap slice_samples c.in-Gray-Words.is-1))) c.write_numbers-in-Gray-Words.ensures
