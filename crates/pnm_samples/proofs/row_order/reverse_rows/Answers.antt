use Rattle.pnm_samples.proofs.Words.{◌≡◌, ◌+◌, ◌-◌, ◌*◌, refl, arith}
use Rattle.pnm_samples.proofs.RowOrderLaws.{all_swapped, swap_more}
use Rattle.pnm_samples.proofs.row_order.reverse_rows.Goals as goal

pub loop-row-preserved : goal.loop-row-preserved
loop-row-preserved g c =
    let row = c.loop-row.row in
    let each = c.args.each in
    let size : (row * each + each) - row * each ≡ each = omega arith in
    swap_more c.args.count row c.args.samples.now c.requires
    (omega arith) c.loop-row.invariant refl size refl c.split_at_mut-front.ensures.front c.split_at_mut-front.ensures.back
    c.swap_with_slice.ensures.after c.swap_with_slice.ensures.other_after

pub returns : goal.returns
returns g c = all_swapped c.args.count c.args.each c.loop-row.row c.args.samples.now c.loop-row.invariant (omega arith)
