use Rattle.pnm_samples.proofs.Words.{◌≡◌, ◌+◌, ◌-◌, ◌*◌, ◌∙◌, ℕ, List, length, take, drop, refl, ap, ap₂, arith, put_mid, row_bytes, bytes_for, all_pixels}
use Rattle.pnm_samples.proofs.BitRowLaws.{all_packed, none_changed, one_more_changed, row_within, rows_kept, whole_are_packed}
use Rattle.pnm_samples.proofs.bit_rows.clear_spare_of_each.Goals as goal

pub returns-then-each-eq0-clause-packed : goal.returns-then-each-eq0-clause-packed
returns-then-each-eq0-clause-packed c = whole_are_packed c.args.count c.args.each c.args.bytes.now (omega arith) c.requires

pub loop-row-init : goal.loop-row-init
loop-row-init c = none_changed (λ (l : List ℕ). take c.args.each (all_pixels l)) c.args.count c.args.each c.args.bytes.now c.args.bytes.now refl

pub loop-row-preserved : goal.loop-row-preserved
loop-row-preserved c =
    let size = bytes_for c.args.each in
    let row = c.loop-row.row in
    let now = c.loop-row.bytes in
    let from = row * c.div_ceil-size.result in
    let step : c.div_ceil-size.result ≡ size = omega (arith, c.div_ceil-size.ensures) in
    let place : from ≡ row * size = ap (λ (k : ℕ). row * k) step in
    let end : (row + 1) * c.div_ceil-size.result ≡ row * size + size = ap (λ (k : ℕ). (row + 1) * k) step ∙ omega arith in
    let within = row_within c.args.count size row (length now) (c.loop-row.invariant.long ∙ c.requires) (omega arith) in
    let count : (row + 1) * c.div_ceil-size.result - from ≡ size = omega (arith, place, end) in
    let given : take ((row + 1) * c.div_ceil-size.result - from) (drop from now) ≡ row_bytes size row now =
    ap₂ (λ (n k : ℕ). take n (drop k now)) count place in
    one_more_changed (λ (l : List ℕ). take c.args.each (all_pixels l)) row c.args.count c.args.each size c.args.bytes.now now c.clear_spare.new.bytes _
    c.loop-row.invariant (omega arith)
    c.requires refl
    (c.clear_spare.ensures.spare.enough)
    (ap₂ (λ (n k : ℕ). put_mid k n now c.clear_spare.new.bytes) count place)
    (c.clear_spare.ensures.kept ∙ ap (λ (l : List ℕ). take c.args.each (all_pixels l)) given)
    c.clear_spare.ensures.spare

pub returns-clause-same : goal.returns-clause-same
returns-clause-same c =
    rows_kept c.args.count c.args.each c.args.bytes.now c.loop-row.bytes (λ row lt. c.loop-row.invariant.changed row (omega (arith, lt)))

pub returns-clause-packed : goal.returns-clause-packed
returns-clause-packed c =
    all_packed (λ (l : List ℕ). take c.args.each (all_pixels l)) c.loop-row.row c.args.count c.args.each c.args.bytes.now c.loop-row.bytes
    c.loop-row.invariant (omega arith) c.requires
