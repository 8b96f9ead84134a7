use Rattle.pnm_transpose.proofs.Words.{◌<◌, ◌≤◌, ◌+◌, ◌*◌, length, ap, arith, common_steps}
use Rattle.pnm_transpose.proofs.StripLaws.{next_columns, reach_more}
use Rattle.pnm_transpose.proofs.strip.strip_of.Goals as goal

pub add_columns-requires-clause-rows : goal.add_columns-requires-clause-rows
add_columns-requires-clause-rows g c =
    let lent = c.as_mut_slice.result.now in
    let within : c.loop-first.first + length lent ≤ c.args.width =
    omega (arith, ap length c.as_mut_slice.ensures.value, c.truncate.new.self.ok.0, c.truncate.ensures.len) in
    reach_more c.loop-first.first (length lent) c.args.width c.args.depth c.args.rows.now within c.requires.rows

pub loop-first-preserved : goal.loop-first-preserved
loop-first-preserved g c =
    let count = c.len-first.result in
    let some : 0 < count = omega (arith, c.loop-first.invariant.2, c.loop-first.columns.ok.0, c.truncate.ensures.len) in
    let within : c.loop-first.first + count ≤ c.args.width = omega (arith, c.truncate.ensures.len) in
    let h = next_columns c.args.depth c.loop-first.first count c.truncate.new.self.len (length c.args.rows.now * c.args.depth) c.args.rows.now
    c.loop-first.strip.items c.add_columns.new.strip.items c.truncate.new.self.items c.as_mut_slice.result.now c.add_columns.new.columns
    (omega arith) (omega (arith, c.truncate.new.self.ok.0)) some c.loop-first.invariant.1 c.as_mut_slice.ensures.value c.in_ok-add_columns.ensures.added
    c.add_columns.ensures.long.0 c.add_columns.ensures.long.1 in
    (within, h.0, h.1, h.2)

pub returns-clause-made : goal.returns-clause-made
returns-clause-made g c = grind (arith, common_steps)

pub add_columns-requires-clause-long : goal.add_columns-requires-clause-long
add_columns-requires-clause-long g c = grind (arith, common_steps)

pub loop-first-init : goal.loop-first-init
loop-first-init g c = grind (arith, common_steps)

pub add_columns-requires-clause-sizes : goal.add_columns-requires-clause-sizes
add_columns-requires-clause-sizes g c = grind (arith, common_steps)
