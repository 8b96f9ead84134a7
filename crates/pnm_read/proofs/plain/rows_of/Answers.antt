use Rattle.pnm_read.proofs.Words.{◌≡◌, ◌*◌, ℕ, List, All, length, sym, ap, subst, ◌∙◌, arith, length-cut_rows, WordRows, Bits, Bytes, Words, AreRowsWithin}
use Rattle.pnm_read.proofs.Words.{lengths_of_lists}
use Rattle.pnm_samples.specs.Cuts.{cut_rows}
use Rattle.pnm_read.proofs.PlainRows.{samples_fit}
use Rattle.pnm_read.proofs.RowsTogether.{cut_within}
use Rattle.pnm_read.proofs.plain.rows_of.Goals as goal

pub new-requires-clause-whole : goal.new-requires-clause-whole
new-requires-clause-whole c =
    let count = c.args.count in
    let each = c.row_length-each.result in
    let size : length c.args.samples.items ≡ count * each = c.requires.size ∙ ap (λ (n : ℕ). count * n) (sym c.row_length-each.ensures) in
    let is : c.in-Ok.rows ≡ cut_rows count each c.args.samples.items = c.in-Ok.ensures ∙ ap (cut_rows count each) c.as_slice.ensures.value in
    subst (λ (l : List (List ℕ)). (length l ≡ count) × All (λ (row : List ℕ). length row ≡ each) l) (sym is)
    (length-cut_rows count each c.args.samples.items, lengths_of_lists count each (WordRows c.args.samples) size)

pub new-requires-clause-within : goal.new-requires-clause-within
new-requires-clause-within c =
    let raster = c.args.raster.now in
    let count = c.args.count in
    let each = c.row_length-each.result in
    let is : c.in-Ok.rows ≡ cut_rows count each c.args.samples.items = c.in-Ok.ensures ∙ ap (cut_rows count each) c.as_slice.ensures.value in
    subst (AreRowsWithin 1) (sym is) (cut_within count each 1 c.args.samples.items
    (samples_fit raster.shape.kind raster.shape.maxval 1 c.args.samples.items c.in-Bits.is raster.samples (λ e. omega (arith, e)) c.requires.within))

pub new-requires-in-Bytes-clause-within : goal.new-requires-in-Bytes-clause-within
new-requires-in-Bytes-clause-within c =
    let raster = c.args.raster.now in
    let maxval = raster.shape.maxval in
    let count = c.args.count in
    let each = c.row_length-each.result in
    subst (λ (l : List ℕ). AreRowsWithin maxval (cut_rows count each l)) (sym (c.in-Ok-words_to_bytes.ensures ∙ c.as_slice-in-Bytes.ensures.value))
    (cut_within count each maxval c.args.samples.items
    (samples_fit raster.shape.kind maxval maxval c.args.samples.items c.in-Bytes.is raster.samples (λ e. omega (arith, e.0)) c.requires.within))

pub new-requires-in-Words-clause-within : goal.new-requires-in-Words-clause-within
new-requires-in-Words-clause-within c =
    let raster = c.args.raster.now in
    let maxval = raster.shape.maxval in
    cut_within c.args.count c.row_length-each.result maxval c.args.samples.items
    (samples_fit raster.shape.kind maxval maxval c.args.samples.items c.in-Words.is raster.samples (λ e. omega (arith, e)) c.requires.within)
