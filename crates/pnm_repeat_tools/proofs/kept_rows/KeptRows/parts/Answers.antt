use Rattle.pnm_repeat_tools.proofs.Words.{◌∙◌, ap, length, sym, length_of_lists}
use Rattle.pnm_repeat_tools.proofs.KeptRowLaws.{lent_rows, lent_whole}
use Rattle.pnm_repeat_tools.proofs.kept_rows.KeptRows.parts.Goals as goal

pub returns-clause-rows : goal.returns-clause-rows
returns-clause-rows c = λ each long.
    let r = c.self.inside in
    c.as_slice.ensures.lists r.count each ∙ lent_rows r.count r.row_length each r.held c.self.invariant c.self.view_is long

pub returns-clause-whole : goal.returns-clause-whole
returns-clause-whole c = λ each long.
    let r = c.self.inside in
    c.as_slice.ensures.whole r.count each (lent_whole r.count r.row_length each r.held c.self.invariant c.self.view_is long)

pub returns-clause-count : goal.returns-clause-count
returns-clause-count c =
    let r = c.self.inside in
    sym (length_of_lists r.count r.row_length r.held c.self.invariant) ∙ ap length c.self.view_is
