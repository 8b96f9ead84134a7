use Rattle.pnm_repeat_tools.proofs.Words.{sym, ap, ◌∙◌, ToEnlarge, larger_rows}
use Rattle.pnm_repeat_tools.proofs.EnlargedRowsLaws.{answers_are}
use Rattle.pnm_repeat_tools.proofs.enlarge.EnlargerImageTool.take.Goals as goal

pub returns-clause-due : goal.returns-clause-due
returns-clause-due c =
    let w = c.args.self.now in
    ap (λ (e : ToEnlarge). larger_rows e.across e.down e.shape e.rows) c.new.ensures
    ∙ sym (answers_are w.across w.down c.args.shape c.args._y c.args.rows)
