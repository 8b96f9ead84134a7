use Rattle.pnm_samples.proofs.Words.{◌≡◌, ◌<◌, ◌+◌, ◌-◌, ◌*◌, ◌∙◌, ℕ, List, [], get_or, length, take, drop, sym, ap, ap₂, subst, arith, row_bytes, bytes_for}
use Rattle.pnm_samples.proofs.Words.{all_pixels, ArePacked}
use Rattle.pnm_samples.proofs.BitRowLaws.{pixels_of_row, row_within}
use Rattle.pnm_samples.proofs.PixelRowsLaws.{length_of_rows}
use Rattle.pnm_samples.proofs.bit_rows.BitRows.row.Goals as goal

pub overflow_mul-start : goal.overflow_mul-start
overflow_mul-start c =
    let x = c.self.inside in
    let below : c.args.at < x.count = omega (arith, length_of_rows x.count x.each x.bytes.items, ap length c.self.view_is, c.requires) in
    let within = row_within x.count (bytes_for x.each) c.args.at (length x.bytes.items) c.self.invariant.enough below in
    let size : c.div_ceil-size.result ≡ bytes_for x.each = omega (arith, c.div_ceil-size.ensures) in
    let from : c.args.at * c.div_ceil-size.result ≡ c.args.at * bytes_for x.each = ap (λ (k : ℕ). c.args.at * k) size in
    omega (arith, within, from, size, x.bytes.ok.0)

pub overflow_add-result : goal.overflow_add-result
overflow_add-result c =
    let x = c.self.inside in
    let below : c.args.at < x.count = omega (arith, length_of_rows x.count x.each x.bytes.items, ap length c.self.view_is, c.requires) in
    let within = row_within x.count (bytes_for x.each) c.args.at (length x.bytes.items) c.self.invariant.enough below in
    let size : c.div_ceil-size.result ≡ bytes_for x.each = omega (arith, c.div_ceil-size.ensures) in
    let from : c.args.at * c.div_ceil-size.result ≡ c.args.at * bytes_for x.each = ap (λ (k : ℕ). c.args.at * k) size in
    omega (arith, within, from, size, x.bytes.ok.0)

pub slice_bounds-result-end : goal.slice_bounds-result-end
slice_bounds-result-end c =
    let x = c.self.inside in
    let below : c.args.at < x.count = omega (arith, length_of_rows x.count x.each x.bytes.items, ap length c.self.view_is, c.requires) in
    let within = row_within x.count (bytes_for x.each) c.args.at (length x.bytes.items) c.self.invariant.enough below in
    let size : c.div_ceil-size.result ≡ bytes_for x.each = omega (arith, c.div_ceil-size.ensures) in
    let from : c.args.at * c.div_ceil-size.result ≡ c.args.at * bytes_for x.each = ap (λ (k : ℕ). c.args.at * k) size in
    omega (arith, within, from, size, ap length c.deref.ensures.value)

pub returns-clause-pixels : goal.returns-clause-pixels
returns-clause-pixels c =
    let x = c.self.inside in
    let below : c.args.at < x.count = omega (arith, length_of_rows x.count x.each x.bytes.items, ap length c.self.view_is, c.requires) in
    let within = row_within x.count (bytes_for x.each) c.args.at (length x.bytes.items) c.self.invariant.enough below in
    let size : c.div_ceil-size.result ≡ bytes_for x.each = omega (arith, c.div_ceil-size.ensures) in
    let from : c.args.at * c.div_ceil-size.result ≡ c.args.at * bytes_for x.each = ap (λ (k : ℕ). c.args.at * k) size in
    let start = c.args.at * c.div_ceil-size.result in
    let count : start + c.div_ceil-size.result - start ≡ bytes_for x.each = omega (arith, size) in
    let lent : take (start + c.div_ceil-size.result - start) (drop start c.deref.result.now) ≡ row_bytes (bytes_for x.each) c.args.at x.bytes.items =
    ap₂ (λ (n k : ℕ). take n (drop k c.deref.result.now)) count from ∙ ap (row_bytes (bytes_for x.each) c.args.at) c.deref.ensures.value in
    ap (λ (l : List ℕ). take x.each (all_pixels l)) lent ∙ pixels_of_row x.count x.each c.args.at x.bytes.items below
    ∙ ap (λ (l : List (List ℕ)). get_or l c.args.at []) c.self.view_is

pub returns-clause-packed : goal.returns-clause-packed
returns-clause-packed c =
    let x = c.self.inside in
    let below : c.args.at < x.count = omega (arith, length_of_rows x.count x.each x.bytes.items, ap length c.self.view_is, c.requires) in
    let within = row_within x.count (bytes_for x.each) c.args.at (length x.bytes.items) c.self.invariant.enough below in
    let size : c.div_ceil-size.result ≡ bytes_for x.each = omega (arith, c.div_ceil-size.ensures) in
    let from : c.args.at * c.div_ceil-size.result ≡ c.args.at * bytes_for x.each = ap (λ (k : ℕ). c.args.at * k) size in
    let start = c.args.at * c.div_ceil-size.result in
    let count : start + c.div_ceil-size.result - start ≡ bytes_for x.each = omega (arith, size) in
    let lent : take (start + c.div_ceil-size.result - start) (drop start c.deref.result.now) ≡ row_bytes (bytes_for x.each) c.args.at x.bytes.items =
    ap₂ (λ (n k : ℕ). take n (drop k c.deref.result.now)) count from ∙ ap (row_bytes (bytes_for x.each) c.args.at) c.deref.ensures.value in
    subst (ArePacked x.each) (sym lent) (c.self.invariant.packed c.args.at below)
