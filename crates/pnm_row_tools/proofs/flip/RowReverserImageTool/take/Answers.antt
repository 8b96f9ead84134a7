use Rattle.pnm_row_tools.proofs.Words.{Option, ap, sym, ◌∙◌, All-from_recursion, IsRowOf, Reversed, flattened, reversed, reversed_due, moves_rows, transform_of}
use Rattle.pnm_row_tools.proofs.Words.{reversed_moves}
use Rattle.pnm_row_tools.proofs.FlipRowsLaws.{more_kept, none_answer, rows_flattened}
use Rattle.pnm_row_tools.proofs.flip.RowReverserImageTool.take.Goals as goal

pub returns-clause-ready : goal.returns-clause-ready
returns-clause-ready c =
    λ before ready.
    let x = c.self.inside in
    let s = c.args._shape in
    more_kept c.args.self.now x.way x.blocks.items c.push.new.self.items c.args.rows before x.ended s c.self.view_is
    (ap flattened c.in_ok-push.ensures.items ∙ rows_flattened x.blocks.items c.args.rows) (All-from_recursion (IsRowOf s) c.args.rows c.requires.rows.1) ready

pub returns-clause-due : goal.returns-clause-due
returns-clause-due c =
    let x = c.self.inside in
    let w = c.args.self.now in
    let none = ap (λ (v : Reversed). v.ended) c.self.view_is ∙ c.requires.ready.2.none_given in
    let moves = ap (λ (v : Reversed). moves_rows (transform_of v.way)) (sym c.self.view_is) ∙ reversed_moves (transform_of x.way) c.self.invariant.way in
    ap (λ (ended : Option _). reversed_due (reversed x.way (flattened c.push.new.self.items) ended)) none
    ∙ sym (none_answer w.way c.args._shape c.args._y c.args.rows moves)
