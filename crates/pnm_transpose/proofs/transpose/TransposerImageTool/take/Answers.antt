use Rattle.pnm_transpose.proofs.Words.{ap, on_ok_weaker, Transform, row_lists, strip_lists, rows_width}
use Rattle.pnm_transpose.proofs.TransposeLaws.{due_while_rows_come, rows_kept}
use Rattle.pnm_transpose.proofs.transpose.TransposerImageTool.take.Goals as goal

pub returns-clause-ready : goal.returns-clause-ready
returns-clause-ready c = λ come h.
    let x = c.self.inside in
    let kept = c.add.new.self in
    on_ok_weaker c.add.result (λ keep. rows_kept x.way x.depth x.next x.columns (row_lists x.rows) x.batch.items c.args.rows c.self.view_is
    (ap (λ (t : Transform). t.rows_reversed) c.transform-last_first.ensures) c.add.ensures.sample_width keep h) c.add.ensures.kept

pub returns-clause-due : goal.returns-clause-due
returns-clause-due c =
    let x = c.self.inside in
    let kept = c.add.new.self in
    on_ok_weaker c.add.result (λ _.
    due_while_rows_come x.way x.depth (rows_width x.rows) (rows_width kept) x.next x.columns (strip_lists x.rows) (strip_lists kept)
    (row_lists x.rows) (row_lists kept) x.batch.items c.args._y c.args.rows c.self.invariant.way c.self.view_is c.requires.ready.2) c.add.ensures.kept
