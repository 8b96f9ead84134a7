use Rattle.pnm_transpose.proofs.Words.{refl, arith, common_steps}
use Rattle.pnm_transpose.proofs.StripLaws.{columns_added}
use Rattle.pnm_transpose.proofs.strip.add_columns.Goals as goal

pub returns-clause-added : goal.returns-clause-added
returns-clause-added g c =
    columns_added c.args.first c.args.depth c.loop-column.column-index c.args.rows.now c.args.strip.now.items c.loop-column.strip.items c.put_all.new.columns
    c.args.columns.now c.put_all.new.columns
    c.requires.long c.requires.rows c.put_all.ensures refl (omega arith) c.loop-column.invariant

pub loop-column-preserved : goal.loop-column-preserved
loop-column-preserved g c = grind (arith, common_steps)

pub returns-clause-long : goal.returns-clause-long
returns-clause-long g c = grind (arith, common_steps)

pub put_all-requires-clause-rows : goal.put_all-requires-clause-rows
put_all-requires-clause-rows g c = omega arith
