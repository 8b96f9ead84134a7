use Rattle.pnm_samples.proofs.Words.{◌≡◌, ◌+◌, ◌*◌, ◌-◌, ◌/◌, ◌<◌, ◌++◌, List, ℕ, length, drop, replicate, refl, ap₂, arith, pos_of_ne-zero, sym, ◌∙◌}
use Rattle.pnm_samples.proofs.Words.{drop-replicate, eqb-false, common_steps}
use Rattle.pnm_samples.proofs.PackLaws.{groups_step, last_step}
use Rattle.pnm_samples.proofs.packing.pack.Goals as goal

pub loop-i-preserved : goal.loop-i-preserved
loop-i-preserved c =
    groups_step c.loop-i.i (8 * c.loop-i.i + 8 - 8 * c.loop-i.i) c.args.samples.now c.loop-i.buffer c.loop-i.invariant (omega arith)
    (omega arith) c.packed_byte.ensures

pub returns-clause-bytes : goal.returns-clause-bytes
returns-clause-bytes c =
    let rest : List ℕ = c.split_at.result.1.now in
    let last : List ℕ = c.copy_from_slice.new.self ++ drop (length rest) (replicate 8 1) in
    let some : 0 < length rest = pos_of_ne-zero (eqb-false (length rest) 0 (sym c.is_empty.ensures ∙ c.if-is_empty.false)) in
    let filled : last ≡ rest ++ replicate (8 - length rest) 1 =
    ap₂ (λ (a b : List ℕ). a ++ b) c.copy_from_slice.ensures.after (drop-replicate (length rest) 8 1) in
    let whole : c.loop-i.i ≡ length c.args.samples.now / 8 = omega arith in
    let below : length c.args.samples.now / 8 < length c.loop-i.buffer = omega (arith, c.split_at.ensures.back_len) in
    last_step (8 - length rest) c.args.samples.now c.loop-i.buffer whole
    c.loop-i.invariant below refl c.split_at.ensures.back some filled c.packed_byte-2.ensures

pub packed_byte-requires-2 : goal.packed_byte-requires-2
packed_byte-requires-2 c = grind (arith, common_steps)

pub slice_bounds-packed_byte-end-2 : goal.slice_bounds-packed_byte-end-2
slice_bounds-packed_byte-end-2 c = grind (arith, common_steps)
