use Rattle.pnm_row_tools.proofs.Words.{ℕ, ◌+◌, ◌*◌, refl, arith}
use Rattle.pnm_row_tools.proofs.EachRowLaws.{all_moved, none_moved, part_moved}
use Rattle.pnm_row_tools.proofs.cut.move_parts.Goals as goal

pub loop-i-init : goal.loop-i-init
loop-i-init g c = none_moved (c.args.parts.top * c.args.parts.row_length) c.args.parts.first c.args.parts.kept c.args.parts.row_length c.args.samples.now

pub loop-i-preserved : goal.loop-i-preserved
loop-i-preserved g c =
    let p = c.args.parts in
    let from : ℕ = p.top * p.row_length + c.loop-i.i * p.row_length + p.first in
    part_moved p.count c.copy_down.ensures refl refl refl c.requires.within c.loop-i-test.true c.requires.rows c.loop-i.invariant

pub returns : goal.returns
returns g c =
    let p = c.args.parts in
    all_moved p.count (omega (arith, c.loop-i-test.false, c.loop-i.auto.i-end)) c.loop-i.invariant
