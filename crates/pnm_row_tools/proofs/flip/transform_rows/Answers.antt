use Rattle.pnm_row_tools.proofs.Words.{◌≤◌, All, Bool, ℕ, List, if◌then◌else◌, map, reverse, ap, sym, subst, ◌∙◌, map-id, All-from_recursion, AreRowsWithin}
use Rattle.pnm_row_tools.proofs.Words.{IsRowOf, mirrored_row, HoldsRows}
use Rattle.pnm_row_tools.proofs.FlipRowsLaws.{as_long, mirrored_rows_within}
use Rattle.pnm_row_tools.proofs.HeldRowsLaws.{length_of_shape, rows_of_shape, reversed_all, rows_within}
use Rattle.pnm_row_tools.proofs.flip.transform_rows.Goals as goal

pub turn_round-requires-clause-rows : goal.turn_round-requires-clause-rows
turn_round-requires-clause-rows c =
    let parts = c.into_parts-held in
    rows_of_shape c.args.shape parts.result.1 parts.result.2 parts.result.0 parts.ensures.some parts.ensures.whole parts.ensures.rows c.requires.rows

-- so many rows of as many samples as they had, turned round
turned : (c : goal.In_ok-turned) → HoldsRows c.into_parts-held.result.1 c.into_parts-held.result.2 c.in_ok-turned.turned
    (map (mirrored_row c.args.shape) (reverse c.args.rows))
turned c =
    let parts = c.into_parts-held in
    let s = c.args.shape in
    let f : List (List ℕ) → List (List ℕ) = λ rows. map (mirrored_row s) (reverse rows) in
    let is = length_of_shape s parts.result.1 parts.result.2 parts.result.0 parts.ensures.some parts.ensures.whole parts.ensures.rows c.requires.rows in
    let made = as_long f s parts.result.1 parts.result.0 c.in_ok-turned.turned is c.in_ok-turned.ensures in
    (made.0, made.1 ∙ ap f (sym parts.ensures.rows))

pub new-requires-clause-whole : goal.new-requires-clause-whole
new-requires-clause-whole c = (turned c).0

pub new-requires-clause-within : goal.new-requires-clause-within
new-requires-clause-within c =
    let s = c.args.shape in
    subst (AreRowsWithin s.maxval) (sym (turned c).1)
    (mirrored_rows_within s _ (reversed_all (IsRowOf s) _ (All-from_recursion (IsRowOf s) _ c.requires.rows)))

pub new-requires-else-transform-clause-within : goal.new-requires-else-transform-clause-within
new-requires-else-transform-clause-within c =
    let s = c.args.shape in
    let Within : List ℕ → Type 0 = λ row. All (λ sample. sample ≤ s.maxval) row in
    subst (AreRowsWithin s.maxval) (ap (λ (l : List (List ℕ)). reverse l) c.into_parts-held.ensures.rows ∙ sym c.reverse_order-reversed.ensures.1)
    (reversed_all Within c.args.rows (rows_within s c.args.rows c.requires.rows))

pub returns-in_ok-turned : goal.returns-in_ok-turned
returns-in_ok-turned c =
    let s = c.args.shape in
    c.new.ensures ∙ (turned c.before).1
    ∙ ap (λ (b : Bool). map (λ (row : List ℕ). if b then mirrored_row s row else row) (reverse c.args.rows)) (sym c.if-transform.true)

pub returns-else-transform : goal.returns-else-transform
returns-else-transform c =
    let parts = c.into_parts-held in
    let s = c.args.shape in
    c.new-else-transform.ensures ∙ c.reverse_order-reversed.ensures.1 ∙ ap (λ (l : List (List ℕ)). reverse l) (sym parts.ensures.rows)
    ∙ sym (map-id (reverse c.args.rows))
    ∙ ap (λ (b : Bool). map (λ (row : List ℕ). if b then mirrored_row s row else row) (reverse c.args.rows)) (sym c.if-transform.false)
