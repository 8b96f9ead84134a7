use Rattle.pnm_image.specs.Parts.{end_messages}
use Rattle.pnm_image.specs.Rows.{row_messages, rows_list}
use Rattle.pnm_image.proofs.Places.{leads_on, leads_nowhere}
use Rattle.pnm_image.proofs.place.Place.after_rest.Goals as goal

pub returns-in-Some : goal.returns-in-Some
returns-in-Some c =
    leads_on c.args.self.now c.in-Some.behind (row_messages (rows_list c.args.rows.now)) (end_messages c.args.ends_image) c.after_end.result
    c.in-Some.ensures c.after_end.ensures

pub returns-in-None : goal.returns-in-None
returns-in-None c =
    leads_nowhere c.args.self.now (row_messages (rows_list c.args.rows.now)) (end_messages c.args.ends_image) c.in-None.ensures
