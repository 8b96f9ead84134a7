use Rattle.std.proofs.Common.{◌≡◌, ◌∙◌, ◌*◌, ap, length, subst, sym}
use Rattle.std.proofs.lemmas.Result.{IfOk-weaker}
use Rattle.pnm_samples.specs.Cuts.{cut_rows}
use Rattle.pnm_image.specs.HeldRows.{AreSliceRows, slice_lists}
use Rattle.pnm_image.proofs.HeldRowLaws.{words_of_rows}
use Rattle.pnm_image.proofs.rows.RowSlice.to_words.Goals as goal

pub returns-in_ok-to_bytes-in-Bits-clause-whole : goal.returns-in_ok-to_bytes-in-Bits-clause-whole
returns-in_ok-to_bytes-in-Bits-clause-whole c = λ count each are.
    let rows = c.in-Bits.rows.now in
    let known = subst (AreSliceRows count each) c.in-Bits.is are in
    let samples = c.as_slice.ensures.value ∙ c.in_ok-to_bytes-in-Bits.ensures in
    IfOk-weaker c.bytes_to_words.result (λ words. words.items ≡ c.as_slice.result.now) (λ words. length words.items ≡ count * each)
    (λ words is. (words_of_rows count each rows words.items known.0 known.1 (is ∙ samples)).0) c.bytes_to_words.ensures

pub returns-in_ok-to_bytes-in-Bits-clause-rows : goal.returns-in_ok-to_bytes-in-Bits-clause-rows
returns-in_ok-to_bytes-in-Bits-clause-rows c = λ count each are.
    let rows = c.in-Bits.rows.now in
    let known = subst (AreSliceRows count each) c.in-Bits.is are in
    let samples = c.as_slice.ensures.value ∙ c.in_ok-to_bytes-in-Bits.ensures in
    let same = ap (slice_lists count each) (sym c.in-Bits.is) in
    IfOk-weaker c.bytes_to_words.result (λ words. words.items ≡ c.as_slice.result.now)
    (λ words. cut_rows count each words.items ≡ slice_lists count each c.args.self)
    (λ words is. (words_of_rows count each rows words.items known.0 known.1 (is ∙ samples)).1 ∙ same) c.bytes_to_words.ensures
