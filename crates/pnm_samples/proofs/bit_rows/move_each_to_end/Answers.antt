use Rattle.pnm_samples.proofs.Words.{◌≡◌, ◌+◌, ◌-◌, ◌*◌, ◌%◌, ◌∙◌, ◌++◌, ℕ, List, length, take, drop, replicate, refl, sym, ap, ap₂, arith, put_mid, row_bytes}
use Rattle.pnm_samples.proofs.Words.{bytes_for, all_pixels}
use Rattle.pnm_samples.proofs.BitRowLaws.{all_packed, length_of_row_bytes, none_changed, one_more_changed, row_within, whole_are_packed}
use Rattle.pnm_samples.proofs.BitRowsMade.{moved_is_packed, moved_row, none_moved}
use Rattle.pnm_samples.proofs.bit_rows.move_each_to_end.Goals as goal

pub returns-then-spare-eq0-clause-moved : goal.returns-then-spare-eq0-clause-moved
returns-then-spare-eq0-clause-moved c = λ row lt.
    let bytes = c.args.bytes.now in
    let size = bytes_for c.args.each in
    let within = row_within c.args.count size row (length bytes) c.requires.size lt in
    none_moved c.args.each (row_bytes size row bytes) (omega (arith, c.spare_of-spare.ensures)) (length_of_row_bytes size row bytes within)

pub returns-then-spare-eq0-clause-packed : goal.returns-then-spare-eq0-clause-packed
returns-then-spare-eq0-clause-packed c =
    whole_are_packed c.args.count c.args.each c.args.bytes.now (omega (arith, c.spare_of-spare.ensures)) c.requires.size

pub loop-row-init : goal.loop-row-init
loop-row-init c =
    none_changed (λ (row : List ℕ). drop ((8 - c.args.each % 8) % 8) (all_pixels row)) c.args.count c.args.each c.args.bytes.now c.args.bytes.now refl

pub loop-row-preserved : goal.loop-row-preserved
loop-row-preserved c =
    let each = c.args.each in
    let size = bytes_for each in
    let row = c.loop-row.row in
    let now = c.loop-row.bytes in
    let part = c.move_to_end.new.bytes in
    let spare = c.spare_of-spare.result in
    let from = row * c.div_ceil-size.result in
    let step : c.div_ceil-size.result ≡ size = omega (arith, c.div_ceil-size.ensures) in
    let place : from ≡ row * size = ap (λ (k : ℕ). row * k) step in
    let end : (row + 1) * c.div_ceil-size.result ≡ row * size + size = ap (λ (k : ℕ). (row + 1) * k) step ∙ omega arith in
    let within = row_within c.args.count size row (length now) (c.loop-row.invariant.long ∙ c.requires.size) (omega arith) in
    let count : (row + 1) * c.div_ceil-size.result - from ≡ size = omega (arith, place, end) in
    let given : take ((row + 1) * c.div_ceil-size.result - from) (drop from now) ≡ row_bytes size row now =
    ap₂ (λ (n k : ℕ). take n (drop k now)) count place in
    let long : length (row_bytes size row now) ≡ size = length_of_row_bytes size row now within in
    let is : spare ≡ (8 - each % 8) % 8 = c.spare_of-spare.ensures in
    let white : take spare (all_pixels (row_bytes size row now)) ≡ replicate spare 1 =
    ap₂ (λ (k : ℕ) (l : List ℕ). take k (all_pixels l)) is (c.loop-row.invariant.left row (omega arith))
    ∙ c.requires.white row (omega arith) ∙ ap (λ (k : ℕ). replicate k 1) (sym is) in
    let moved = λ (rest : List ℕ) (parts : all_pixels (row_bytes size row now) ≡ replicate spare 1 ++ rest).
    c.move_to_end.ensures rest (ap all_pixels given ∙ parts) in
    let packs = moved_is_packed each spare (row_bytes size row now) part long is white moved in
    one_more_changed (λ (l : List ℕ). drop ((8 - each % 8) % 8) (all_pixels l)) row c.args.count each size c.args.bytes.now now part _ c.loop-row.invariant
    (omega arith) c.requires.size refl packs.enough
    (ap₂ (λ (n k : ℕ). put_mid k n now part) count place)
    (moved_row each spare (row_bytes size row now) part long is white moved ∙ ap (λ (k : ℕ). drop k (all_pixels (row_bytes size row now))) is)
    packs

pub returns-clause-moved : goal.returns-clause-moved
returns-clause-moved c = λ row lt. c.loop-row.invariant.changed row (omega (arith, lt))

pub returns-clause-packed : goal.returns-clause-packed
returns-clause-packed c =
    all_packed (λ (row : List ℕ). drop ((8 - c.args.each % 8) % 8) (all_pixels row)) c.loop-row.row c.args.count c.args.each c.args.bytes.now c.loop-row.bytes
    c.loop-row.invariant (omega arith) c.requires.size
