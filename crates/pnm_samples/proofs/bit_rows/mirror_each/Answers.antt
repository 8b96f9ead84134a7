use Rattle.pnm_samples.proofs.Words.{◌≡◌, ◌+◌, ◌-◌, ◌*◌, ◌∙◌, ℕ, List, take, drop, reverse, refl, sym, ap, ap₂, subst, arith, put_mid, row_bytes, bytes_for}
use Rattle.pnm_samples.proofs.Words.{all_pixels, ArePacked}
use Rattle.pnm_samples.proofs.BitRowLaws.{all_changed, all_packed, none_changed, one_more_changed}
use Rattle.pnm_samples.proofs.bit_rows.mirror_each.Goals as goal

pub mirror_row-requires : goal.mirror_row-requires
mirror_row-requires c =
    let size = bytes_for c.args.each in
    let row = c.loop-row.row in
    let now = c.loop-row.bytes in
    let from = row * c.div_ceil-size.result in
    let step : c.div_ceil-size.result ≡ size = omega (arith, c.div_ceil-size.ensures) in
    let place : from ≡ row * size = ap (λ (k : ℕ). row * k) step in
    let end : (row + 1) * c.div_ceil-size.result ≡ row * size + size = ap (λ (k : ℕ). (row + 1) * k) step ∙ omega arith in
    let count : (row + 1) * c.div_ceil-size.result - from ≡ size = omega (arith, place, end) in
    let given : take ((row + 1) * c.div_ceil-size.result - from) (drop from now) ≡ row_bytes size row now =
    ap₂ (λ (n k : ℕ). take n (drop k now)) count place in
    subst (ArePacked c.args.each) (sym (given ∙ c.loop-row.invariant.left row (omega arith))) (c.requires.packed row (omega arith))

pub loop-row-init : goal.loop-row-init
loop-row-init c = none_changed (λ (row : List ℕ). reverse (take c.args.each (all_pixels row))) c.args.count c.args.each c.args.bytes.now c.args.bytes.now refl

pub loop-row-preserved : goal.loop-row-preserved
loop-row-preserved c =
    let size = bytes_for c.args.each in
    let row = c.loop-row.row in
    let now = c.loop-row.bytes in
    let from = row * c.div_ceil-size.result in
    let step : c.div_ceil-size.result ≡ size = omega (arith, c.div_ceil-size.ensures) in
    let place : from ≡ row * size = ap (λ (k : ℕ). row * k) step in
    let end : (row + 1) * c.div_ceil-size.result ≡ row * size + size = ap (λ (k : ℕ). (row + 1) * k) step ∙ omega arith in
    let count : (row + 1) * c.div_ceil-size.result - from ≡ size = omega (arith, place, end) in
    let given : take ((row + 1) * c.div_ceil-size.result - from) (drop from now) ≡ row_bytes size row now =
    ap₂ (λ (n k : ℕ). take n (drop k now)) count place in
    one_more_changed (λ (row : List ℕ). reverse (take c.args.each (all_pixels row))) row c.args.count c.args.each size c.args.bytes.now now
    c.mirror_row.new.bytes _ c.loop-row.invariant (omega arith)
    c.requires.enough refl c.mirror_row.ensures.packed.enough
    (ap₂ (λ (n k : ℕ). put_mid k n now c.mirror_row.new.bytes) count place)
    (c.mirror_row.ensures.turned ∙ ap (λ (l : List ℕ). reverse (take c.args.each (all_pixels l))) given)
    c.mirror_row.ensures.packed

pub returns-clause-turned : goal.returns-clause-turned
returns-clause-turned c = all_changed reverse c.loop-row.invariant (omega arith)

pub returns-clause-packed : goal.returns-clause-packed
returns-clause-packed c =
    all_packed (λ (row : List ℕ). reverse (take c.args.each (all_pixels row))) c.loop-row.row c.args.count c.args.each c.args.bytes.now c.loop-row.bytes
    c.loop-row.invariant (omega arith) c.requires.enough
