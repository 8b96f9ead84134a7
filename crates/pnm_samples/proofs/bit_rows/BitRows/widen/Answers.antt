use Rattle.pnm_samples.proofs.Words.{◌≡◌, ◌≤◌, ◌+◌, ◌-◌, ◌*◌, ◌∙◌, ℕ, List, length, take, drop, map, sym, ap, ap₂, subst, mul-le-mul, arith, common_steps}
use Rattle.pnm_samples.proofs.Words.{length-drop, length-take, row_bytes, bytes_for, rows_of_bytes, all_pixels}
use Rattle.pnm_samples.proofs.BitRowLaws.{row_within}
use Rattle.pnm_samples.proofs.BitRowsMade.{bytes_of_wide, length_of_wide, one_more_copied, pixels_of_wide, rows_widened, wide_enough}
use Rattle.pnm_samples.proofs.RepeatLaws.{repeated}
use Rattle.pnm_samples.proofs.bit_rows.BitRows.widen.Goals as goal

pub new-requires : goal.new-requires
new-requires c =
    let x = c.self.inside in
    let times = c.args.times in
    let each = c.in-Some-Some.each in
    let apart = c.in-Some-Some.apart in
    let wide = c.into_bytes-wide.result.items in
    let copied : c.in_ok-from_slice.field-0.items ≡ x.bytes.items = grind (arith, common_steps) in
    let number : c.in-Some.pixels ≡ length x.bytes.items * 8 = omega (arith, c.in-Some.ensures) in
    let whole : each ≡ x.each * times = omega (arith, c.in-Some-Some.ensures) in
    let fits : c.div_ceil.result ≡ bytes_for x.each = omega (arith, c.div_ceil.ensures) in
    let of : apart ≡ c.div_ceil.result * times = omega (arith, c.in-Some-Some.ensures') in
    let row_size : apart ≡ bytes_for x.each * times = of ∙ ap (λ (k : ℕ). k * times) fits in
    let size : c.div_ceil-size.result ≡ bytes_for each = omega (arith, c.div_ceil-size.ensures) in
    let long : length wide ≡ x.count * apart = length_of_wide times c.in-Some.pixels x.bytes.items c.in_ok-from_slice.field-0.items c.new-pixels.result
    c.in_ok-repeat.field-0 wide number copied c.new-pixels.ensures c.in_ok-repeat.ensures c.into_bytes-wide.ensures.pixels c.into_bytes-wide.ensures.packed
    ∙ bytes_of_wide x.count x.each times c.self.invariant.enough row_size in
    let as_size : apart ≡ bytes_for each = omega (arith, size) in
    long ∙ ap (λ (k : ℕ). x.count * k) as_size

pub returns-then-apart-size : goal.returns-then-apart-size
returns-then-apart-size c =
    let x = c.self.inside in
    let times = c.args.times in
    let each = c.in-Some-Some.each in
    let apart = c.in-Some-Some.apart in
    let wide = c.into_bytes-wide.result.items in
    let copied : c.in_ok-from_slice.field-0.items ≡ x.bytes.items = grind (arith, common_steps) in
    let number : c.in-Some.pixels ≡ length x.bytes.items * 8 = omega (arith, c.in-Some.ensures) in
    let whole : each ≡ x.each * times = omega (arith, c.in-Some-Some.ensures) in
    let fits : c.div_ceil.result ≡ bytes_for x.each = omega (arith, c.div_ceil.ensures) in
    let of : apart ≡ c.div_ceil.result * times = omega (arith, c.in-Some-Some.ensures') in
    let row_size : apart ≡ bytes_for x.each * times = of ∙ ap (λ (k : ℕ). k * times) fits in
    let size : c.div_ceil-size.result ≡ bytes_for each = omega (arith, c.div_ceil-size.ensures) in
    let long : length wide ≡ x.count * apart = length_of_wide times c.in-Some.pixels x.bytes.items c.in_ok-from_slice.field-0.items c.new-pixels.result
    c.in_ok-repeat.field-0 wide number copied c.new-pixels.ensures c.in_ok-repeat.ensures c.into_bytes-wide.ensures.pixels c.into_bytes-wide.ensures.packed
    ∙ bytes_of_wide x.count x.each times c.self.invariant.enough row_size in
    let pixels : all_pixels wide ≡ repeated times (all_pixels x.bytes.items) = pixels_of_wide times c.in-Some.pixels x.bytes.items
    c.in_ok-from_slice.field-0.items c.new-pixels.result c.in_ok-repeat.field-0 wide number copied c.new-pixels.ensures c.in_ok-repeat.ensures
    c.into_bytes-wide.ensures.pixels c.into_bytes-wide.ensures.packed in
    let as_size : apart ≡ bytes_for each = omega (arith, size) in
    c.new.ensures ∙ ap (λ (k : ℕ). rows_of_bytes x.count k wide) whole
    ∙ rows_widened times x.count x.each apart x.bytes.items wide pixels row_size wide
    (λ row lt. ap (λ (k : ℕ). take (bytes_for (x.each * times)) (drop (row * k) wide)) (sym (as_size ∙ ap bytes_for whole)))
    ∙ ap (map (repeated times)) c.self.view_is

pub overflow_mul-self-inside : goal.overflow_mul-self-inside
overflow_mul-self-inside c =
    let x = c.self.inside in
    let times = c.args.times in
    let each = c.in-Some-Some.each in
    let apart = c.in-Some-Some.apart in
    let wide = c.into_bytes-wide.result.items in
    let copied : c.in_ok-from_slice.field-0.items ≡ x.bytes.items = grind (arith, common_steps) in
    let number : c.in-Some.pixels ≡ length x.bytes.items * 8 = omega (arith, c.in-Some.ensures) in
    let whole : each ≡ x.each * times = omega (arith, c.in-Some-Some.ensures) in
    let fits : c.div_ceil.result ≡ bytes_for x.each = omega (arith, c.div_ceil.ensures) in
    let of : apart ≡ c.div_ceil.result * times = omega (arith, c.in-Some-Some.ensures') in
    let row_size : apart ≡ bytes_for x.each * times = of ∙ ap (λ (k : ℕ). k * times) fits in
    let size : c.div_ceil-size.result ≡ bytes_for each = omega (arith, c.div_ceil-size.ensures) in
    let long : length wide ≡ x.count * apart = length_of_wide times c.in-Some.pixels x.bytes.items c.in_ok-from_slice.field-0.items c.new-pixels.result
    c.in_ok-repeat.field-0 wide number copied c.new-pixels.ensures c.in_ok-repeat.ensures c.into_bytes-wide.ensures.pixels c.into_bytes-wide.ensures.packed
    ∙ bytes_of_wide x.count x.each times c.self.invariant.enough row_size in
    let narrow : c.div_ceil-size.result ≤ apart = wide_enough x.each times row_size (size ∙ ap bytes_for whole) in
    let most : x.count * c.div_ceil-size.result ≤ x.count * apart =
    mul-le-mul {n₁ = x.count} {m₁ = c.div_ceil-size.result} {n₂ = x.count} {m₂ = apart} (omega arith) narrow in
    omega (arith, most, long, c.into_bytes-wide.result.ok.0)

pub overflow_mul-start : goal.overflow_mul-start
overflow_mul-start c =
    let x = c.self.inside in
    let times = c.args.times in
    let each = c.in-Some-Some.each in
    let apart = c.in-Some-Some.apart in
    let wide = c.into_bytes-wide.result.items in
    let copied : c.in_ok-from_slice.field-0.items ≡ x.bytes.items = grind (arith, common_steps) in
    let number : c.in-Some.pixels ≡ length x.bytes.items * 8 = omega (arith, c.in-Some.ensures) in
    let whole : each ≡ x.each * times = omega (arith, c.in-Some-Some.ensures) in
    let fits : c.div_ceil.result ≡ bytes_for x.each = omega (arith, c.div_ceil.ensures) in
    let of : apart ≡ c.div_ceil.result * times = omega (arith, c.in-Some-Some.ensures') in
    let row_size : apart ≡ bytes_for x.each * times = of ∙ ap (λ (k : ℕ). k * times) fits in
    let size : c.div_ceil-size.result ≡ bytes_for each = omega (arith, c.div_ceil-size.ensures) in
    let long : length wide ≡ x.count * apart = length_of_wide times c.in-Some.pixels x.bytes.items c.in_ok-from_slice.field-0.items c.new-pixels.result
    c.in_ok-repeat.field-0 wide number copied c.new-pixels.ensures c.in_ok-repeat.ensures c.into_bytes-wide.ensures.pixels c.into_bytes-wide.ensures.packed
    ∙ bytes_of_wide x.count x.each times c.self.invariant.enough row_size in
    let row = c.loop-row.row in
    let within = row_within x.count apart row (length wide) long (omega arith) in
    omega (arith, within, c.into_bytes-wide.result.ok.0)

pub overflow_add-start : goal.overflow_add-start
overflow_add-start c =
    let x = c.self.inside in
    let times = c.args.times in
    let each = c.in-Some-Some.each in
    let apart = c.in-Some-Some.apart in
    let wide = c.into_bytes-wide.result.items in
    let copied : c.in_ok-from_slice.field-0.items ≡ x.bytes.items = grind (arith, common_steps) in
    let number : c.in-Some.pixels ≡ length x.bytes.items * 8 = omega (arith, c.in-Some.ensures) in
    let whole : each ≡ x.each * times = omega (arith, c.in-Some-Some.ensures) in
    let fits : c.div_ceil.result ≡ bytes_for x.each = omega (arith, c.div_ceil.ensures) in
    let of : apart ≡ c.div_ceil.result * times = omega (arith, c.in-Some-Some.ensures') in
    let row_size : apart ≡ bytes_for x.each * times = of ∙ ap (λ (k : ℕ). k * times) fits in
    let size : c.div_ceil-size.result ≡ bytes_for each = omega (arith, c.div_ceil-size.ensures) in
    let long : length wide ≡ x.count * apart = length_of_wide times c.in-Some.pixels x.bytes.items c.in_ok-from_slice.field-0.items c.new-pixels.result
    c.in_ok-repeat.field-0 wide number copied c.new-pixels.ensures c.in_ok-repeat.ensures c.into_bytes-wide.ensures.pixels c.into_bytes-wide.ensures.packed
    ∙ bytes_of_wide x.count x.each times c.self.invariant.enough row_size in
    let narrow : c.div_ceil-size.result ≤ apart = wide_enough x.each times row_size (size ∙ ap bytes_for whole) in
    let row = c.loop-row.row in
    let within = row_within x.count apart row (length wide) long (omega arith) in
    omega (arith, within, narrow, c.into_bytes-wide.result.ok.0)

pub slice_bounds-extend_from_slice-end : goal.slice_bounds-extend_from_slice-end
slice_bounds-extend_from_slice-end c =
    let x = c.self.inside in
    let times = c.args.times in
    let each = c.in-Some-Some.each in
    let apart = c.in-Some-Some.apart in
    let wide = c.into_bytes-wide.result.items in
    let copied : c.in_ok-from_slice.field-0.items ≡ x.bytes.items = grind (arith, common_steps) in
    let number : c.in-Some.pixels ≡ length x.bytes.items * 8 = omega (arith, c.in-Some.ensures) in
    let whole : each ≡ x.each * times = omega (arith, c.in-Some-Some.ensures) in
    let fits : c.div_ceil.result ≡ bytes_for x.each = omega (arith, c.div_ceil.ensures) in
    let of : apart ≡ c.div_ceil.result * times = omega (arith, c.in-Some-Some.ensures') in
    let row_size : apart ≡ bytes_for x.each * times = of ∙ ap (λ (k : ℕ). k * times) fits in
    let size : c.div_ceil-size.result ≡ bytes_for each = omega (arith, c.div_ceil-size.ensures) in
    let long : length wide ≡ x.count * apart = length_of_wide times c.in-Some.pixels x.bytes.items c.in_ok-from_slice.field-0.items c.new-pixels.result
    c.in_ok-repeat.field-0 wide number copied c.new-pixels.ensures c.in_ok-repeat.ensures c.into_bytes-wide.ensures.pixels c.into_bytes-wide.ensures.packed
    ∙ bytes_of_wide x.count x.each times c.self.invariant.enough row_size in
    let narrow : c.div_ceil-size.result ≤ apart = wide_enough x.each times row_size (size ∙ ap bytes_for whole) in
    let row = c.loop-row.row in
    let within = row_within x.count apart row (length wide) long (omega arith) in
    omega (arith, within, narrow, ap length c.deref.ensures.value)

pub loop-row-preserved : goal.loop-row-preserved
loop-row-preserved c =
    let x = c.self.inside in
    let times = c.args.times in
    let each = c.in-Some-Some.each in
    let apart = c.in-Some-Some.apart in
    let wide = c.into_bytes-wide.result.items in
    let copied : c.in_ok-from_slice.field-0.items ≡ x.bytes.items = grind (arith, common_steps) in
    let number : c.in-Some.pixels ≡ length x.bytes.items * 8 = omega (arith, c.in-Some.ensures) in
    let whole : each ≡ x.each * times = omega (arith, c.in-Some-Some.ensures) in
    let fits : c.div_ceil.result ≡ bytes_for x.each = omega (arith, c.div_ceil.ensures) in
    let of : apart ≡ c.div_ceil.result * times = omega (arith, c.in-Some-Some.ensures') in
    let row_size : apart ≡ bytes_for x.each * times = of ∙ ap (λ (k : ℕ). k * times) fits in
    let size : c.div_ceil-size.result ≡ bytes_for each = omega (arith, c.div_ceil-size.ensures) in
    let long : length wide ≡ x.count * apart = length_of_wide times c.in-Some.pixels x.bytes.items c.in_ok-from_slice.field-0.items c.new-pixels.result
    c.in_ok-repeat.field-0 wide number copied c.new-pixels.ensures c.in_ok-repeat.ensures c.into_bytes-wide.ensures.pixels c.into_bytes-wide.ensures.packed
    ∙ bytes_of_wide x.count x.each times c.self.invariant.enough row_size in
    let narrow : c.div_ceil-size.result ≤ apart = wide_enough x.each times row_size (size ∙ ap bytes_for whole) in
    let row = c.loop-row.row in
    let within = row_within x.count apart row (length wide) long (omega arith) in
    let start = row * apart in
    let count : start + c.div_ceil-size.result - start ≡ bytes_for each = omega (arith, size) in
    let lent : take (start + c.div_ceil-size.result - start) (drop start c.deref.result.now) ≡ take (bytes_for each) (drop start wide) =
    ap₂ (λ (n : ℕ) (l : List ℕ). take n (drop start l)) count c.deref.ensures.value in
    one_more_copied (λ (k : ℕ). take (bytes_for each) (drop (k * apart) wide)) row (bytes_for each) c.loop-row.bytes.items
    (take (start + c.div_ceil-size.result - start) (drop start c.deref.result.now)) _ c.loop-row.invariant lent
    (omega (arith, ap length lent, length-take (bytes_for each) (drop start wide), length-drop start wide, within, narrow, size))
    c.in_ok-extend_from_slice.ensures.items

pub new-requires-2 : goal.new-requires-2
new-requires-2 c =
    let all : c.loop-row.row ≡ c.self.inside.count = omega arith in
    c.loop-row.invariant.long ∙ ap (λ (k : ℕ). k * bytes_for c.in-Some-Some.each) all

pub returns : goal.returns
returns c =
    let x = c.self.inside in
    let times = c.args.times in
    let each = c.in-Some-Some.each in
    let apart = c.in-Some-Some.apart in
    let wide = c.into_bytes-wide.result.items in
    let copied : c.in_ok-from_slice.field-0.items ≡ x.bytes.items = grind (arith, common_steps) in
    let number : c.in-Some.pixels ≡ length x.bytes.items * 8 = omega (arith, c.in-Some.ensures) in
    let whole : each ≡ x.each * times = omega (arith, c.in-Some-Some.ensures) in
    let fits : c.div_ceil.result ≡ bytes_for x.each = omega (arith, c.div_ceil.ensures) in
    let of : apart ≡ c.div_ceil.result * times = omega (arith, c.in-Some-Some.ensures') in
    let row_size : apart ≡ bytes_for x.each * times = of ∙ ap (λ (k : ℕ). k * times) fits in
    let size : c.div_ceil-size.result ≡ bytes_for each = omega (arith, c.div_ceil-size.ensures) in
    let long : length wide ≡ x.count * apart = length_of_wide times c.in-Some.pixels x.bytes.items c.in_ok-from_slice.field-0.items c.new-pixels.result
    c.in_ok-repeat.field-0 wide number copied c.new-pixels.ensures c.in_ok-repeat.ensures c.into_bytes-wide.ensures.pixels c.into_bytes-wide.ensures.packed
    ∙ bytes_of_wide x.count x.each times c.self.invariant.enough row_size in
    let pixels : all_pixels wide ≡ repeated times (all_pixels x.bytes.items) = pixels_of_wide times c.in-Some.pixels x.bytes.items
    c.in_ok-from_slice.field-0.items c.new-pixels.result c.in_ok-repeat.field-0 wide number copied c.new-pixels.ensures c.in_ok-repeat.ensures
    c.into_bytes-wide.ensures.pixels c.into_bytes-wide.ensures.packed in
    let all : c.loop-row.row ≡ x.count = omega arith in
    let new = c.loop-row.bytes.items in
    c.new-2.ensures ∙ ap (λ (k : ℕ). rows_of_bytes x.count k new) whole
    ∙ rows_widened times x.count x.each apart x.bytes.items wide pixels row_size new
    (λ row lt. subst (λ (k : ℕ). row_bytes (bytes_for k) row new ≡ take (bytes_for k) (drop (row * apart) wide)) whole
    (c.loop-row.invariant.rows row (omega (arith, lt, all))))
    ∙ ap (map (repeated times)) c.self.view_is
