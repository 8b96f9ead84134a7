use Rattle.pnm_row_tools.proofs.Words.{◌∙◌, recursion_from_All, IsRowOf}
use Rattle.pnm_row_tools.proofs.FlipRowsLaws.{block_given, rows_parted}
use Rattle.pnm_row_tools.proofs.flip.RowReverserImageTool.give.Goals as goal

pub transform_rows-requires-clause-rows : goal.transform_rows-requires-clause-rows
transform_rows-requires-clause-rows c =
    let x = c.self.inside in
    let parted = rows_parted c.pop.new.self.items c.in-Some-pop.kept c.in-Some.is c.self.invariant.rows c.in-Some-pop.ensures.items in
    recursion_from_All (IsRowOf c.in-Some.shape) c.in-Some-pop.kept parted.0

pub invariant_of-self-in_err-turned : goal.invariant_of-self-in_err-turned
invariant_of-self-in_err-turned c =
    let x = c.self.inside in
    let parted = rows_parted c.pop.new.self.items c.in-Some-pop.kept c.in-Some.is c.self.invariant.rows c.in-Some-pop.ensures.items in
    record { way = c.self.invariant.way; rows = parted.1 }

pub invariant_of-self-2 : goal.invariant_of-self-2
invariant_of-self-2 c =
    let x = c.self.inside in
    let parted = rows_parted c.pop.new.self.items c.in-Some-pop.kept c.in-Some.is c.self.invariant.rows c.in-Some-pop.ensures.items in
    record { way = c.self.invariant.way; rows = parted.1 }

pub returns-clause-due : goal.returns-clause-due
returns-clause-due c =
    let x = c.self.inside in
    block_given x.way c.pop.new.self.items c.in-Some-pop.kept
    c.self.view_is c.in-Some.is c.transform.ensures c.in-Some-pop.ensures.items (c.once.ensures ∙ c.in_ok-turned.ensures)
