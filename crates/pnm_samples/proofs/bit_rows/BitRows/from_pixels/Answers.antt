use Rattle.pnm_samples.proofs.Words.{◌≡◌, ◌≤◌, ◌+◌, ◌-◌, ◌*◌, ◌∙◌, ℕ, length, take, drop, sym, ap, ap₂, subst, arith, length-drop, length-take, take_all}
use Rattle.pnm_samples.proofs.Words.{with_items_is, with_items, put_mid, same_len_mid, mid_len, bytes_for, packed_bytes}
use Rattle.pnm_samples.proofs.BitRowLaws.{row_within}
use Rattle.pnm_samples.proofs.BitRowsMade.{AreFilled, IsPacked, one_more_filled, rows_are_packed, rows_of_packed}
use Rattle.pnm_samples.proofs.PackLaws.{length-packed_bytes}
use Rattle.pnm_samples.proofs.bit_rows.BitRows.from_pixels.Goals as goal

pub loop-row-preserved : goal.loop-row-preserved
loop-row-preserved c =
    let row = c.loop-row.row in
    let each = c.args.each in
    let pixels = c.args.pixels.now in
    let now = c.as_mut_slice.result.now in
    let part = c.pack.new.buffer in
    let size = c.div_ceil-size.result in
    let step : size ≡ bytes_for each = omega (arith, c.div_ceil-size.ensures) in
    let before : AreFilled (IsPacked each pixels) row c.args.count (bytes_for each) now =
    subst (AreFilled (IsPacked each pixels) row c.args.count (bytes_for each)) (sym c.as_mut_slice.ensures.value) c.loop-row.invariant in
    let place : row * size ≡ row * bytes_for each = ap (λ (k : ℕ). row * k) step in
    let end : (row + 1) * size ≡ row * bytes_for each + bytes_for each = ap (λ (k : ℕ). (row + 1) * k) step ∙ omega arith in
    let wide : (row + 1) * size - row * size ≡ bytes_for each = omega (arith, place, end) in
    let room = row_within c.args.count (bytes_for each) row (length now) before.long (omega arith) in
    let inside = row_within c.args.count each row (length pixels) c.requires.whole (omega arith) in
    let given : (row + 1) * each - row * each ≡ each = omega arith in
    let samples : take ((row + 1) * each - row * each) (drop (row * each) pixels) ≡ take each (drop (row * each) pixels) =
    ap (λ (k : ℕ). take k (drop (row * each) pixels)) given in
    let count : length (take each (drop (row * each) pixels)) ≡ each =
    omega (arith, length-take each (drop (row * each) pixels), length-drop (row * each) pixels, inside) in
    let long : length part ≡ bytes_for each = omega (
      arith,
      c.pack.auto.buffer,
      length-take ((row + 1) * size - row * size) (drop (row * size) now),
      length-drop (row * size) now,
      room,
      wide,
      place,
    ) in
    let bytes : take c.pack.result part ≡ packed_bytes (take each (drop (row * each) pixels)) = c.pack.ensures.bytes ∙ ap packed_bytes samples in
    let all : length part ≤ c.pack.result =
    omega (arith, long, ap length bytes, length-take c.pack.result part, length-packed_bytes (take each (drop (row * each) pixels)), count) in
    let made : IsPacked each pixels row part = sym (take_all c.pack.result part all) ∙ bytes in
    let ws = put_mid (row * size) ((row + 1) * size - row * size) now part in
    let kept : length ws ≡ length now = same_len_mid (row * size) ((row + 1) * size - row * size) now part
    (omega (arith, long, wide, mid_len (row * size) ((row + 1) * size) now (omega (arith, end, room)))) in
    let stored : (with_items c.loop-row.bytes ws).items ≡ ws = with_items_is c.loop-row.bytes ws (kept ∙ c.as_mut_slice.ensures.len) in
    one_more_filled part before (omega arith) long (stored ∙ ap₂ (λ (n k : ℕ). put_mid k n now part) wide place) made

pub invariant_of-result : goal.invariant_of-result
invariant_of-result c =
    rows_are_packed c.args.count c.args.each c.loop-row.row c.args.pixels.now c.loop-row.bytes.items c.requires.whole c.requires.pixels (omega arith)
    c.loop-row.invariant

pub returns : goal.returns
returns c =
    rows_of_packed c.args.count c.args.each c.loop-row.row c.args.pixels.now c.loop-row.bytes.items c.requires.whole c.requires.pixels (omega arith)
    c.loop-row.invariant
