use Rattle.pnm_samples.proofs.Words.{◌≡◌, ◌+◌, ◌*◌, ◌-◌, ◌∙◌, ℕ, List, length, take, drop, ap, ap₂, arith, bytes_for}
use Rattle.pnm_samples.proofs.BitRowLaws.{counted}
use Rattle.pnm_samples.proofs.BitRowParts.{copied_are_packed, rows_copied, rows_lie}
use Rattle.pnm_samples.proofs.bit_rows.BitRows.copy_rows.Goals as goal

pub overflow_mul-start : goal.overflow_mul-start
overflow_mul-start c =
    let x = c.self.inside in
    let size : c.div_ceil-size.result ≡ bytes_for x.each = omega (arith, c.div_ceil-size.ensures) in
    let l = rows_lie x.count x.each c.args.top c.args.count x.bytes.items c.self.view_is c.self.invariant.enough c.requires size in
    omega (arith, l.0, l.1, counted c.args.top c.args.count c.div_ceil-size.result, x.bytes.ok.0)

pub overflow_mul-count : goal.overflow_mul-count
overflow_mul-count c =
    let x = c.self.inside in
    let size : c.div_ceil-size.result ≡ bytes_for x.each = omega (arith, c.div_ceil-size.ensures) in
    let l = rows_lie x.count x.each c.args.top c.args.count x.bytes.items c.self.view_is c.self.invariant.enough c.requires size in
    omega (arith, l.0, l.1, counted c.args.top c.args.count c.div_ceil-size.result, x.bytes.ok.0)

pub overflow_add-start : goal.overflow_add-start
overflow_add-start c =
    let x = c.self.inside in
    let size : c.div_ceil-size.result ≡ bytes_for x.each = omega (arith, c.div_ceil-size.ensures) in
    let l = rows_lie x.count x.each c.args.top c.args.count x.bytes.items c.self.view_is c.self.invariant.enough c.requires size in
    omega (arith, l.0, l.1, counted c.args.top c.args.count c.div_ceil-size.result, x.bytes.ok.0)

pub slice_bounds-from_slice-end : goal.slice_bounds-from_slice-end
slice_bounds-from_slice-end c =
    let x = c.self.inside in
    let size : c.div_ceil-size.result ≡ bytes_for x.each = omega (arith, c.div_ceil-size.ensures) in
    let l = rows_lie x.count x.each c.args.top c.args.count x.bytes.items c.self.view_is c.self.invariant.enough c.requires size in
    omega (arith, l.0, l.1, counted c.args.top c.args.count c.div_ceil-size.result, ap length c.deref.ensures.value)

pub invariant_of-result : goal.invariant_of-result
invariant_of-result c =
    let x = c.self.inside in
    let size : c.div_ceil-size.result ≡ bytes_for x.each = omega (arith, c.div_ceil-size.ensures) in
    let many : c.args.top * c.div_ceil-size.result + c.args.count * c.div_ceil-size.result - c.args.top * c.div_ceil-size.result
    ≡ c.args.count * bytes_for x.each =
    ap (λ (k : ℕ). c.args.top * k + c.args.count * k - c.args.top * k) size ∙ omega arith in
    let from : c.args.top * c.div_ceil-size.result ≡ c.args.top * bytes_for x.each = ap (λ (k : ℕ). c.args.top * k) size in
    let copy : c.in_ok-bytes.bytes.items ≡ take (c.args.count * bytes_for x.each) (drop (c.args.top * bytes_for x.each) x.bytes.items) =
    c.in_ok-bytes.ensures.items ∙ ap₂ (λ (n k : ℕ). take n (drop k c.deref.result.now)) many from
    ∙ ap (λ (l : List ℕ). take (c.args.count * bytes_for x.each) (drop (c.args.top * bytes_for x.each) l)) c.deref.ensures.value in
    copied_are_packed x.count x.each c.args.top c.args.count x.bytes.items c.in_ok-bytes.bytes.items c.args.self.now c.self.invariant
    c.self.view_is c.requires copy

pub returns : goal.returns
returns c =
    let x = c.self.inside in
    let size : c.div_ceil-size.result ≡ bytes_for x.each = omega (arith, c.div_ceil-size.ensures) in
    let many : c.args.top * c.div_ceil-size.result + c.args.count * c.div_ceil-size.result - c.args.top * c.div_ceil-size.result
    ≡ c.args.count * bytes_for x.each =
    ap (λ (k : ℕ). c.args.top * k + c.args.count * k - c.args.top * k) size ∙ omega arith in
    let from : c.args.top * c.div_ceil-size.result ≡ c.args.top * bytes_for x.each = ap (λ (k : ℕ). c.args.top * k) size in
    let copy : c.in_ok-bytes.bytes.items ≡ take (c.args.count * bytes_for x.each) (drop (c.args.top * bytes_for x.each) x.bytes.items) =
    c.in_ok-bytes.ensures.items ∙ ap₂ (λ (n k : ℕ). take n (drop k c.deref.result.now)) many from
    ∙ ap (λ (l : List ℕ). take (c.args.count * bytes_for x.each) (drop (c.args.top * bytes_for x.each) l)) c.deref.ensures.value in
    rows_copied x.count x.each c.args.top c.args.count x.bytes.items c.in_ok-bytes.bytes.items c.args.self.now c.self.invariant
    c.self.view_is c.requires copy
