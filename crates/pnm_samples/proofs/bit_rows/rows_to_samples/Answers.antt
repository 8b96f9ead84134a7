use Rattle.pnm_samples.proofs.Words.{◌≡◌, ◌≤◌, ◌+◌, ◌-◌, ◌*◌, ◌∙◌, ℕ, length, take, drop, refl, ap, ap₂, arith, take_at, put_mid, same_len_mid, mid_len}
use Rattle.pnm_samples.proofs.Words.{row_bytes, bytes_for}
use Rattle.pnm_samples.proofs.BitRowLaws.{length_of_row_bytes, row_within}
use Rattle.pnm_samples.proofs.BitRowsMade.{samples_of_row_more, samples_of_all}
use Rattle.pnm_samples.proofs.PixelLaws.{length-all_pixels}
use Rattle.pnm_samples.proofs.bit_rows.rows_to_samples.Goals as goal

pub loop-row-preserved : goal.loop-row-preserved
loop-row-preserved c =
    let l = c.loop-row in
    let each = c.args.each in
    let size = bytes_for each in
    let row = l.row in
    let bytes = c.args.bytes.now in
    let before = c.deref_mut.result.now in
    let stored = c.store_row.new.samples in
    let step : c.div_ceil-size.result ≡ size = omega (arith, c.div_ceil-size.ensures) in
    let from : row * c.div_ceil-size.result ≡ row * size = ap (λ (k : ℕ). row * k) step in
    let end : (row + 1) * c.div_ceil-size.result ≡ row * size + size = ap (λ (k : ℕ). (row + 1) * k) step ∙ omega arith in
    let many : (row + 1) * c.div_ceil-size.result - row * c.div_ceil-size.result ≡ size = omega (arith, from, end) in
    let lent = take ((row + 1) * c.div_ceil-size.result - row * c.div_ceil-size.result) (drop (row * c.div_ceil-size.result) bytes) in
    let given : lent ≡ row_bytes size row bytes =
    ap₂ (λ (n k : ℕ). take n (drop k bytes)) many from in
    let same : length before ≡ length l.samples.items = ap length c.deref_mut.ensures.value in
    let within = row_within c.args.count each row (c.args.count * each) refl (omega arith) in
    let buffer : row * each + 8 * c.div_ceil-size.result ≤ length before = omega (arith, same, l.invariant.0, within, step, c.in-Some.ensures) in
    let long = length_of_row_bytes size row bytes (row_within c.args.count size row (length bytes) c.requires (omega arith)) in
    let wide : length stored ≡ 8 * c.div_ceil-size.result =
    omega (arith, ap length c.store_row.ensures, length-all_pixels lent, ap length given, long, step) in
    let n = row * each + 8 * c.div_ceil-size.result - row * each in
    let part = put_mid (row * each) n before stored in
    let kept : length part ≡ length before = same_len_mid (row * each) n before stored
    (omega (arith, wide, mid_len (row * each) (row * each + 8 * c.div_ceil-size.result) before buffer)) in
    let whole = take_at part _ l.samples.len (kept ∙ c.deref_mut.ensures.len) in (
      omega (arith, ap length whole, kept, same, l.invariant.0),
      ap (take ((row + 1) * each)) whole
          ∙ samples_of_row_more c.args.count each row n bytes before (omega arith) given c.requires (omega (arith, buffer))
          (ap (take (row * each)) c.deref_mut.ensures.value ∙ l.invariant.1) c.store_row.ensures,
    )

pub returns : goal.returns
returns c =
    c.truncate.ensures.items
    ∙ samples_of_all c.args.count c.args.each c.loop-row.row c.in-Some.total c.args.bytes.now c.loop-row.samples.items (omega arith) (omega arith)
    (omega (arith, c.in-Some.ensures)) c.loop-row.invariant.1
