use Rattle.pnm_read.proofs.Words.{◌≡◌, ◌*◌, ◌∙◌, ℕ, List, All, length, ap, sym, subst, bytes_for, rows_of_bytes, length_of_rows, SampleWidth, AreRowsWithin}
use Rattle.pnm_read.proofs.Words.{cut_rows, AreBytesWithin, FitsBytes, rows_held, units_in_row, length_of_bits}
use Rattle.pnm_read.proofs.RowsTogether.{are_bytes, bits_are_rows, bits_within, bytes_are_rows, cut_within}
use Rattle.pnm_read.proofs.held_rows.rows_of.Goals as goal

pub new-requires : goal.new-requires
new-requires c =
    let raster = c.args.raster.now in
    let s = raster.shape in
    let count = c.args.count in
    let each = c.row_length-each.result in
    let bytes = c.args.bytes.items in
    let fits = subst (λ (p : SampleWidth). FitsBytes p s) c.in-Bits.is c.requires.fits in
    let size : length bytes ≡ count * bytes_for each = c.requires.size
    ∙ ap (λ (n : ℕ). count * n) (raster.count ∙ ap (λ (p : SampleWidth). units_in_row p s) c.in-Bits.is ∙ sym fits
    ∙ ap bytes_for (sym c.row_length-each.ensures)) in
    let rows = rows_of_bytes count each bytes in
    record {
      some = c.requires.some;
      whole = (
        ap (λ (l : List (List ℕ)). length l) c.new-bits.ensures ∙ length_of_rows count each bytes,
        subst (λ (l : List (List ℕ)). All (λ (row : List ℕ). length row ≡ each) l) (sym c.new-bits.ensures) (length_of_bits count each bytes size),
      );
      within = subst (AreRowsWithin 1) (sym c.new-bits.ensures) (bits_within count each bytes);
    }

pub new-requires-in-Bytes : goal.new-requires-in-Bytes
new-requires-in-Bytes c =
    let raster = c.args.raster.now in
    let s = raster.shape in
    let count = c.args.count in
    let each = c.row_length-each.result in
    let bytes = c.args.bytes.items in
    let is = are_bytes raster.sample_width s c.requires.fits c.in-Bytes.is in
    let size : length bytes ≡ count * each = c.requires.size
    ∙ ap (λ (n : ℕ). count * n) (raster.count ∙ ap (λ (p : SampleWidth). units_in_row p s) is ∙ sym c.row_length-each.ensures) in
    record {
      some = c.requires.some;
      whole = size;
      within = cut_within count each s.maxval bytes (subst (λ (p : SampleWidth). AreBytesWithin p s.maxval bytes) is c.requires.within);
    }

pub returns-in-Bits : goal.returns-in-Bits
returns-in-Bits c =
    let raster = c.args.raster.now in
    let s = raster.shape in
    let bytes = c.args.bytes.items in
    let fits = subst (λ (p : SampleWidth). FitsBytes p s) c.in-Bits.is c.requires.fits in
    c.new.ensures ∙ c.new-bits.ensures ∙ ap (λ (n : ℕ). rows_of_bytes c.args.count n bytes) c.row_length-each.ensures
    ∙ bits_are_rows s c.args.count bytes fits ∙ ap (λ (p : SampleWidth). rows_held p s c.args.count bytes) (sym c.in-Bits.is)

pub returns-in-Bytes : goal.returns-in-Bytes
returns-in-Bytes c =
    let raster = c.args.raster.now in
    let s = raster.shape in
    let bytes = c.args.bytes.items in
    let is = are_bytes raster.sample_width s c.requires.fits c.in-Bytes.is in
    c.new-in-Bytes.ensures ∙ ap (λ (n : ℕ). cut_rows c.args.count n bytes) c.row_length-each.ensures ∙ bytes_are_rows s c.args.count bytes
    ∙ ap (λ (p : SampleWidth). rows_held p s c.args.count bytes) (sym is)
