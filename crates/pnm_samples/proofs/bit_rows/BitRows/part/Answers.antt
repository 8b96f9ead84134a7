use Rattle.pnm_samples.proofs.Words.{◌≡◌, ◌≤◌, ◌<◌, IfOk, ◌+◌, ◌-◌, ◌*◌, ◌∙◌, ℕ, List, [], get_or, length, take, drop, sym, ap, ap₂, subst, arith, length-drop}
use Rattle.pnm_samples.proofs.Words.{length-take, with_items_is, with_items, put_mid, same_len_mid, mid_len, row_bytes, bytes_for, all_pixels}
use Rattle.pnm_samples.proofs.BitRowLaws.{counted, length_of_row_bytes, row_within}
use Rattle.pnm_samples.proofs.BitRowParts.{whole_rows}
use Rattle.pnm_samples.proofs.BitRowsMade.{AreFilled, HasPixels, one_more_filled, part_fits, part_is, row_of_rows}
use Rattle.pnm_samples.proofs.PixelRowLaws.{run_of_row}
use Rattle.pnm_samples.proofs.bit_rows.BitRows.part.Goals as goal

pub overflow_mul-count : goal.overflow_mul-count
overflow_mul-count c =
    let x = c.self.inside in
    let size : c.div_ceil-size.result ≡ bytes_for c.args.each = omega (arith, c.div_ceil-size.ensures) in
    let all : c.args.count * c.div_ceil-size.result ≡ c.args.count * bytes_for c.args.each = ap (λ (k : ℕ). c.args.count * k) size in
    let fits = part_fits x.count x.each c.args.top c.args.count c.args.left c.args.each x.bytes.items c.self.view_is c.self.invariant.enough
    c.requires.rows c.requires.pixels in
    omega (arith, fits, all, x.bytes.ok.0)

pub overflow_mul-start : goal.overflow_mul-start
overflow_mul-start c =
    let x = c.self.inside in
    let row = c.args.top + c.loop-row.row in
    let lies = row_of_rows x.count x.each row x.bytes.items c.args.self.now c.self.view_is c.self.invariant.enough (omega arith) in
    let within = row_within x.count (bytes_for x.each) row (length x.bytes.items) c.self.invariant.enough lies.0 in
    let size : c.div_ceil-apart.result ≡ bytes_for x.each = omega (arith, c.div_ceil-apart.ensures) in
    let from : c.args.top * c.div_ceil-apart.result + c.loop-row.row * c.div_ceil-apart.result ≡ row * bytes_for x.each =
    ap (λ (k : ℕ). c.args.top * k + c.loop-row.row * k) size ∙ counted c.args.top c.loop-row.row (bytes_for x.each) in
    omega (arith, within, from, x.bytes.ok.0)

pub overflow_mul-start-in-loop-row : goal.overflow_mul-start-in-loop-row
overflow_mul-start-in-loop-row c =
    let x = c.self.inside in
    let row = c.args.top + c.loop-row.row in
    let lies = row_of_rows x.count x.each row x.bytes.items c.args.self.now c.self.view_is c.self.invariant.enough (omega arith) in
    let within = row_within x.count (bytes_for x.each) row (length x.bytes.items) c.self.invariant.enough lies.0 in
    let size : c.div_ceil-apart.result ≡ bytes_for x.each = omega (arith, c.div_ceil-apart.ensures) in
    let from : c.args.top * c.div_ceil-apart.result + c.loop-row.row * c.div_ceil-apart.result ≡ row * bytes_for x.each =
    ap (λ (k : ℕ). c.args.top * k + c.loop-row.row * k) size ∙ counted c.args.top c.loop-row.row (bytes_for x.each) in
    omega (arith, within, from, x.bytes.ok.0)

pub overflow_add-start : goal.overflow_add-start
overflow_add-start c =
    let x = c.self.inside in
    let row = c.args.top + c.loop-row.row in
    let lies = row_of_rows x.count x.each row x.bytes.items c.args.self.now c.self.view_is c.self.invariant.enough (omega arith) in
    let within = row_within x.count (bytes_for x.each) row (length x.bytes.items) c.self.invariant.enough lies.0 in
    let size : c.div_ceil-apart.result ≡ bytes_for x.each = omega (arith, c.div_ceil-apart.ensures) in
    let from : c.args.top * c.div_ceil-apart.result + c.loop-row.row * c.div_ceil-apart.result ≡ row * bytes_for x.each =
    ap (λ (k : ℕ). c.args.top * k + c.loop-row.row * k) size ∙ counted c.args.top c.loop-row.row (bytes_for x.each) in
    omega (arith, within, from, x.bytes.ok.0)

pub overflow_add-from : goal.overflow_add-from
overflow_add-from c =
    let x = c.self.inside in
    let row = c.args.top + c.loop-row.row in
    let lies = row_of_rows x.count x.each row x.bytes.items c.args.self.now c.self.view_is c.self.invariant.enough (omega arith) in
    let within = row_within x.count (bytes_for x.each) row (length x.bytes.items) c.self.invariant.enough lies.0 in
    let size : c.div_ceil-apart.result ≡ bytes_for x.each = omega (arith, c.div_ceil-apart.ensures) in
    let from : c.args.top * c.div_ceil-apart.result + c.loop-row.row * c.div_ceil-apart.result ≡ row * bytes_for x.each =
    ap (λ (k : ℕ). c.args.top * k + c.loop-row.row * k) size ∙ counted c.args.top c.loop-row.row (bytes_for x.each) in
    omega (arith, within, from, size, x.bytes.ok.0)

pub slice_bounds-from-end : goal.slice_bounds-from-end
slice_bounds-from-end c =
    let x = c.self.inside in
    let row = c.args.top + c.loop-row.row in
    let lies = row_of_rows x.count x.each row x.bytes.items c.args.self.now c.self.view_is c.self.invariant.enough (omega arith) in
    let within = row_within x.count (bytes_for x.each) row (length x.bytes.items) c.self.invariant.enough lies.0 in
    let size : c.div_ceil-apart.result ≡ bytes_for x.each = omega (arith, c.div_ceil-apart.ensures) in
    let from : c.args.top * c.div_ceil-apart.result + c.loop-row.row * c.div_ceil-apart.result ≡ row * bytes_for x.each =
    ap (λ (k : ℕ). c.args.top * k + c.loop-row.row * k) size ∙ counted c.args.top c.loop-row.row (bytes_for x.each) in
    omega (arith, within, from, size, ap length c.deref.ensures.value)

pub fill_run-requires-clause-run : goal.fill_run-requires-clause-run
fill_run-requires-clause-run c =
    let x = c.self.inside in
    let row = c.args.top + c.loop-row.row in
    let lies = row_of_rows x.count x.each row x.bytes.items c.args.self.now c.self.view_is c.self.invariant.enough (omega arith) in
    let within = row_within x.count (bytes_for x.each) row (length x.bytes.items) c.self.invariant.enough lies.0 in
    let size : c.div_ceil-apart.result ≡ bytes_for x.each = omega (arith, c.div_ceil-apart.ensures) in
    let from : c.args.top * c.div_ceil-apart.result + c.loop-row.row * c.div_ceil-apart.result ≡ row * bytes_for x.each =
    ap (λ (k : ℕ). c.args.top * k + c.loop-row.row * k) size ∙ counted c.args.top c.loop-row.row (bytes_for x.each) in
    let start = c.args.top * c.div_ceil-apart.result + c.loop-row.row * c.div_ceil-apart.result in
    let count : start + c.div_ceil-apart.result - start ≡ bytes_for x.each = omega (arith, size) in
    let lent : take (start + c.div_ceil-apart.result - start) (drop start c.deref.result.now) ≡ row_bytes (bytes_for x.each) row x.bytes.items =
    ap₂ (λ (n k : ℕ). take n (drop k c.deref.result.now)) count from ∙ ap (row_bytes (bytes_for x.each) row) c.deref.ensures.value in
    omega (arith, c.requires.pixels row (omega arith), lies.1, ap length lent, length_of_row_bytes (bytes_for x.each) row x.bytes.items within)

pub fill_run-requires-clause-fits : goal.fill_run-requires-clause-fits
fill_run-requires-clause-fits c =
    let x = c.self.inside in
    let row = c.args.top + c.loop-row.row in
    let lies = row_of_rows x.count x.each row x.bytes.items c.args.self.now c.self.view_is c.self.invariant.enough (omega arith) in
    omega (arith, c.requires.pixels row (omega arith), lies.1)

pub loop-row-preserved : goal.loop-row-preserved
loop-row-preserved c =
    let x = c.self.inside in
    let row = c.args.top + c.loop-row.row in
    let lies = row_of_rows x.count x.each row x.bytes.items c.args.self.now c.self.view_is c.self.invariant.enough (omega arith) in
    let within = row_within x.count (bytes_for x.each) row (length x.bytes.items) c.self.invariant.enough lies.0 in
    let size : c.div_ceil-apart.result ≡ bytes_for x.each = omega (arith, c.div_ceil-apart.ensures) in
    let from : c.args.top * c.div_ceil-apart.result + c.loop-row.row * c.div_ceil-apart.result ≡ row * bytes_for x.each =
    ap (λ (k : ℕ). c.args.top * k + c.loop-row.row * k) size ∙ counted c.args.top c.loop-row.row (bytes_for x.each) in
    let start = c.args.top * c.div_ceil-apart.result + c.loop-row.row * c.div_ceil-apart.result in
    let count : start + c.div_ceil-apart.result - start ≡ bytes_for x.each = omega (arith, size) in
    let lent : take (start + c.div_ceil-apart.result - start) (drop start c.deref.result.now) ≡ row_bytes (bytes_for x.each) row x.bytes.items =
    ap₂ (λ (n k : ℕ). take n (drop k c.deref.result.now)) count from ∙ ap (row_bytes (bytes_for x.each) row) c.deref.ensures.value in
    let inside : c.args.left + c.args.each ≤ x.each = omega (arith, c.requires.pixels row (omega arith), lies.1) in
    let made = c.fill_run.ensures ∙ ap (λ (l : List ℕ). take c.args.each (drop c.args.left (all_pixels l))) lent
    ∙ run_of_row (row_bytes (bytes_for x.each) row x.bytes.items) c.args.left c.args.each x.each inside lies.2 in
    let r = c.loop-row.row in
    let now = c.as_mut_slice.result.now in
    let part = c.fill_run.new.buffer in
    let each = c.args.each in
    let taken = r * c.div_ceil-size.result in
    let step : c.div_ceil-size.result ≡ bytes_for each = omega (arith, c.div_ceil-size.ensures) in
    let place : taken ≡ r * bytes_for each = ap (λ (k : ℕ). r * k) step in
    let end : (r + 1) * c.div_ceil-size.result ≡ r * bytes_for each + bytes_for each = ap (λ (k : ℕ). (r + 1) * k) step ∙ omega arith in
    let wide : (r + 1) * c.div_ceil-size.result - taken ≡ bytes_for each = omega (arith, place, end) in
    let holds = HasPixels each (λ (k : ℕ). take each (drop c.args.left (get_or c.args.self.now (c.args.top + k) []))) in
    let before : AreFilled holds r c.args.count (bytes_for each) now =
    subst (AreFilled holds r c.args.count (bytes_for each)) (sym c.as_mut_slice.ensures.value) c.loop-row.invariant in
    let room = row_within c.args.count (bytes_for each) r (length now) before.long (omega arith) in
    let long : length part ≡ bytes_for each = omega (
      arith,
      c.fill_run.auto.buffer,
      length-take ((r + 1) * c.div_ceil-size.result - taken) (drop taken now),
      length-drop taken now,
      room,
      wide,
      place,
    ) in
    let ws = put_mid taken ((r + 1) * c.div_ceil-size.result - taken) now part in
    let kept : length ws ≡ length now = same_len_mid taken ((r + 1) * c.div_ceil-size.result - taken) now part
    (omega (arith, long, wide, mid_len taken ((r + 1) * c.div_ceil-size.result) now (omega (arith, end, room)))) in
    let stored : (with_items c.loop-row.bytes ws).items ≡ ws = with_items_is c.loop-row.bytes ws (kept ∙ c.as_mut_slice.ensures.len) in
    one_more_filled part before (omega arith) long (stored ∙ ap₂ (λ (n k : ℕ). put_mid k n now part) wide place) made

pub returns-then-each-self : goal.returns-then-each-self
returns-then-each-self c =
    let x = c.self.inside in
    let wide : (k : ℕ) → k < length c.args.self.now → length (get_or c.args.self.now k []) ≤ c.args.each = λ k lt.
    omega (arith, c.if-each-self.true, (row_of_rows x.count x.each k x.bytes.items c.args.self.now c.self.view_is c.self.invariant.enough lt).1) in
    subst (λ (l : List (List ℕ)). IfOk c.copy_rows.result (λ part. part ≡ l))
    (whole_rows c.args.top c.args.count c.args.each c.args.self.now c.if-left-eq0.true c.requires.rows wide) c.copy_rows.ensures

pub returns : goal.returns
returns c =
    c.new.ensures
    ∙ part_is c.args.top c.args.count c.args.left c.args.each c.loop-row.row c.loop-row.bytes.items c.args.self.now c.requires.rows (omega arith)
    c.loop-row.invariant
