use Rattle.pnm_row_tools.proofs.Words.{Bool, [], ◌∷◌, if◌then◌else◌, map, ap, sym, subst, ◌∙◌, map-id, not-false, not-true, All-from_recursion, AreRowsWithin}
use Rattle.pnm_row_tools.proofs.Words.{IsRowOf, Transform, Flip, mirrored_row, transform_of, transformed_row, row_stays, HoldsRows}
use Rattle.pnm_row_tools.proofs.FlipRowsLaws.{as_long, mirrored_rows_within, rows_turned}
use Rattle.pnm_row_tools.proofs.HeldRowsLaws.{length_of_shape, rows_of_shape}
use Rattle.pnm_row_tools.proofs.EachRowLaws.{each_answered}
use Rattle.pnm_row_tools.proofs.flip.RowFlipperRowTool.rows.Goals as goal

pub mirror_rows-requires-clause-rows : goal.mirror_rows-requires-clause-rows
mirror_rows-requires-clause-rows c =
    let parts = c.into_parts-held in
    rows_of_shape c.args.shape parts.result.1 parts.result.2 parts.result.0 parts.ensures.some parts.ensures.whole parts.ensures.rows c.requires.rows.1

-- so many rows of as many samples as they had, each mirrored
mirrored : (c : goal.In_ok-mirrored) → HoldsRows c.into_parts-held.result.1 c.into_parts-held.result.2 c.in_ok-mirrored.mirrored
    (map (mirrored_row c.args.shape) c.args.rows)
mirrored c =
    let parts = c.into_parts-held in
    let s = c.args.shape in
    let is = length_of_shape s parts.result.1 parts.result.2 parts.result.0 parts.ensures.some parts.ensures.whole parts.ensures.rows c.requires.rows.1 in
    let made = as_long (map (mirrored_row s)) s parts.result.1 parts.result.0 c.in_ok-mirrored.mirrored is c.in_ok-mirrored.ensures in
    (made.0, made.1 ∙ ap (map (mirrored_row s)) (sym parts.ensures.rows))

pub new-requires-clause-whole : goal.new-requires-clause-whole
new-requires-clause-whole c = (mirrored c).0

pub new-requires-clause-within : goal.new-requires-clause-within
new-requires-clause-within c =
    let s = c.args.shape in
    subst (AreRowsWithin s.maxval) (sym (mirrored c).1) (mirrored_rows_within s c.args.rows (All-from_recursion (IsRowOf s) c.args.rows c.requires.rows.1))

pub returns-then-not-transform-clause-made : goal.returns-then-not-transform-clause-made
returns-then-not-transform-clause-made c =
    let way = c.args.self.now in
    let s = c.args.shape in
    each_answered (Flip way) s (λ row. row) c.args._y c.args.rows (λ k row from to.
    row_stays way s k row c.requires.ready.stays
    ∙ ap (λ (t : Transform). transformed_row t s row ∷ []) (sym (c.transform.ensures ∙ ap transform_of c.self.view_is))
    ∙ ap (λ (reversed : Bool). (if reversed then mirrored_row s row else row) ∷ []) (not-true c.transform.result.columns_reversed c.if-not-transform.true))
    ∙ map-id c.args.rows

pub returns-clause-made : goal.returns-clause-made
returns-clause-made c =
    rows_turned c.args.self.now c.args.shape c.args._y c.args.rows c.requires.ready.stays
    (ap (λ (t : Transform). t.columns_reversed) (sym (c.transform.ensures ∙ ap transform_of c.self.view_is)) ∙ not-false c.transform.result.columns_reversed
    c.if-not-transform.false) (c.new.ensures ∙ (mirrored c.before).1)
