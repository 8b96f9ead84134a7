use Rattle.pnm_row_tools.proofs.Words.{sym, ◌∙◌, arith, rows_lie}
use Rattle.pnm_row_tools.proofs.CutRowsLaws.{none_answers, some_answer}
use Rattle.pnm_row_tools.proofs.cut.CutterRowTool.rows.Goals as goal

pub returns-in_default-clause-made : goal.returns-in_default-clause-made
returns-in_default-clause-made c =
    let w = c.args.self.now in
    let s = c.args.shape in
    none_answers w.cut s c.args.y c.args.rows c.requires.ready.columns c.requires.ready.rows
    (rows_lie w.cut s w.rows (sym c.requires.ready.rows)).0 c.count.ensures.rows c.in_default.ensures.none

pub returns-clause-made : goal.returns-clause-made
returns-clause-made c =
    let w = c.args.self.now in
    let s = c.args.shape in
    let lie = rows_lie w.cut s w.rows (sym c.requires.ready.rows) in
    let among = c.in-Some.among in
    some_answer w.cut s c.args.y among.first _ c.args.rows c.requires.ready.columns c.requires.ready.rows lie.0
    c.in-Some.ensures.before (omega (arith, c.in-Some.ensures.among)) (omega (arith, c.in-Some.ensures.among, c.in-Some.ensures.behind, c.count.ensures.rows))
    ∙ sym c.keep_columns_of_rows-kept.ensures
