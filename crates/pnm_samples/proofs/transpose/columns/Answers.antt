use Rattle.pnm_samples.proofs.Words.{rules, ◌∙◌, length, map, sym, ap, arith, map-id, YieldsList-from_vec, YieldsList-end, common_steps}
use Rattle.pnm_samples.proofs.ColumnLaws.{columns_made, pixels_of_column}
use Rattle.pnm_samples.proofs.transpose.columns.Goals as goal

pub returns : goal.returns
returns c =
    let columns = c.in_ok-columns.columns.items in
    let left = c.truncate.new.self.items in
    let made = pixels_of_column (length c.args.rows.now) in
    let given = YieldsList-from_vec {s = c.into_iter-column-iterator.result} left c.into_iter-column-iterator.ensures.into_iter_gives.0 (search rules) in
    let end = YieldsList-end given c.loop-column.yielded c.loop-column.column-iterator c.loop-column.yielded_by c.next.result c.next.new.self c.in-None.is
    c.next.ensures.steps in
    c.loop-column.invariant ∙ ap (map made) (sym (map-id c.loop-column.yielded) ∙ end.0 ∙ c.truncate.ensures.items)
    ∙ columns_made c.div_ceil.result c.args.count columns c.in_ok-columns.ensures (omega (arith, c.div_ceil.ensures)) c.requires.rows

pub loop-column-preserved : goal.loop-column-preserved
loop-column-preserved c = grind (arith, common_steps)
