use Rattle.pnm_samples.proofs.Words.{◌≡◌, ◌+◌, ◌*◌, ◌∙◌, ℕ, List, length, take, drop, refl, ap, arith, common_steps, with_items, bytes_for, rows_of_bytes}
use Rattle.pnm_samples.proofs.Words.{all_pixels}
use Rattle.pnm_samples.proofs.BitRowLaws.{counted}
use Rattle.pnm_samples.proofs.BitRowParts.{rows_lie}
use Rattle.pnm_samples.proofs.BitRowsMade.{part_fits, row_of_rows}
use Rattle.pnm_samples.proofs.RunLaws.{kept_runs, length_of_kept}
use Rattle.pnm_samples.proofs.bit_rows.BitRows.keep_part.Goals as goal

pub overflow_mul-start : goal.overflow_mul-start
overflow_mul-start c =
    let x = c.self.inside in
    let apart : c.div_ceil-apart.result ≡ bytes_for x.each = omega (arith, c.div_ceil-apart.ensures) in
    let l = rows_lie x.count x.each c.args.top c.args.count x.bytes.items c.self.view_is c.self.invariant.enough c.requires.rows apart in
    omega (arith, l.0, l.1, x.bytes.ok.0)

pub move_runs-requires-clause-rows : goal.move_runs-requires-clause-rows
move_runs-requires-clause-rows c =
    let x = c.self.inside in
    let apart : c.div_ceil-apart.result ≡ bytes_for x.each = omega (arith, c.div_ceil-apart.ensures) in
    let l = rows_lie x.count x.each c.args.top c.args.count x.bytes.items c.self.view_is c.self.invariant.enough c.requires.rows apart in
    omega (arith, l.1, counted c.args.top c.args.count c.div_ceil-apart.result, ap length c.as_mut_slice.ensures.value)

pub move_runs-requires-clause-within : goal.move_runs-requires-clause-within
move_runs-requires-clause-within c some =
    let x = c.self.inside in
    let lies = row_of_rows x.count x.each c.args.top x.bytes.items c.args.self.now c.self.view_is c.self.invariant.enough
    (omega (arith, c.requires.rows, some)) in
    let inside = c.requires.pixels c.args.top (omega (arith, c.requires.rows, some)) in
    omega (arith, inside, lies.1, c.div_ceil-apart.ensures)

pub move_runs-requires-clause-fits : goal.move_runs-requires-clause-fits
move_runs-requires-clause-fits c some =
    let x = c.self.inside in
    let lies = row_of_rows x.count x.each c.args.top x.bytes.items c.args.self.now c.self.view_is c.self.invariant.enough
    (omega (arith, c.requires.rows, some)) in
    let inside = c.requires.pixels c.args.top (omega (arith, c.requires.rows, some)) in
    omega (arith, inside, lies.1, c.self.ranges)

pub overflow_mul-count : goal.overflow_mul-count
overflow_mul-count c =
    let x = c.self.inside in
    let size : c.div_ceil-size.result ≡ bytes_for c.args.each = omega (arith, c.div_ceil-size.ensures) in
    let fits = part_fits x.count x.each c.args.top c.args.count c.args.left c.args.each x.bytes.items c.self.view_is c.self.invariant.enough
    c.requires.rows c.requires.pixels in
    omega (arith, fits, ap (λ (k : ℕ). c.args.count * k) size, x.bytes.ok.0)

pub clear_spare_of_each-requires : goal.clear_spare_of_each-requires
clear_spare_of_each-requires c =
    let x = c.self.inside in
    let size : c.div_ceil-size.result ≡ bytes_for c.args.each = omega (arith, c.div_ceil-size.ensures) in
    let same : length c.move_runs.new.bytes ≡ length x.bytes.items = omega (arith, c.move_runs.auto.bytes, ap length c.as_mut_slice.ensures.value) in
    let moved : (with_items x.bytes c.move_runs.new.bytes).items ≡ c.move_runs.new.bytes = grind (arith, common_steps) in
    let kept : c.as_mut_slice-2.result.now ≡ take (c.args.count * bytes_for c.args.each) c.move_runs.new.bytes =
    c.as_mut_slice-2.ensures.value ∙ c.truncate.ensures.items ∙ ap (take (c.args.count * c.div_ceil-size.result)) moved
    ∙ ap (λ (k : ℕ). take (c.args.count * k) c.move_runs.new.bytes) size in
    length_of_kept x.count x.each c.args.top c.args.count c.args.left c.args.each x.bytes.items c.move_runs.new.bytes c.as_mut_slice-2.result.now
    c.args.self.now c.self.view_is c.self.invariant.enough c.requires.rows c.requires.pixels same kept

pub returns : goal.returns
returns c =
    let x = c.self.inside in
    let size : c.div_ceil-size.result ≡ bytes_for c.args.each = omega (arith, c.div_ceil-size.ensures) in
    let apart : c.div_ceil-apart.result ≡ bytes_for x.each = omega (arith, c.div_ceil-apart.ensures) in
    let start : ℕ = c.args.top * c.div_ceil-apart.result in
    let same : length c.move_runs.new.bytes ≡ length x.bytes.items = omega (arith, c.move_runs.auto.bytes, ap length c.as_mut_slice.ensures.value) in
    let moved : (with_items x.bytes c.move_runs.new.bytes).items ≡ c.move_runs.new.bytes = grind (arith, common_steps) in
    let kept : c.as_mut_slice-2.result.now ≡ take (c.args.count * bytes_for c.args.each) c.move_runs.new.bytes =
    c.as_mut_slice-2.ensures.value ∙ c.truncate.ensures.items ∙ ap (take (c.args.count * c.div_ceil-size.result)) moved
    ∙ ap (λ (k : ℕ). take (c.args.count * k) c.move_runs.new.bytes) size in
    let last : (with_items c.truncate.new.self c.clear_spare_of_each.new.bytes).items ≡ c.clear_spare_of_each.new.bytes = grind (arith, common_steps) in
    ap (rows_of_bytes c.args.count c.args.each) last ∙ c.clear_spare_of_each.ensures.same
    ∙ kept_runs x.count x.each c.args.top c.args.count c.args.left c.args.each x.bytes.items c.move_runs.new.bytes c.as_mut_slice-2.result.now
    c.args.self.now c.self.view_is c.self.invariant.enough c.requires.rows c.requires.pixels same kept start c.div_ceil-apart.result apart refl
    (λ row lt.
    c.move_runs.ensures row lt
    ∙ ap (λ (l : List ℕ). take c.args.each (drop c.args.left (all_pixels (drop (start + row * c.div_ceil-apart.result) l)))) c.as_mut_slice.ensures.value)
