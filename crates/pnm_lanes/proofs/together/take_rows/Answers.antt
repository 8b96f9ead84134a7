use Rattle.pnm_lanes.proofs.Words.{◌≡◌, ◌≢◌, ◌<◌, ◌+◌, ◌%◌, ℕ, List, [], length, get_or, set, refl, sym, ap, subst, ◌∙◌, arith, mod_below, length-set}
use Rattle.pnm_lanes.proofs.Words.{IfNone, IfSome, Option, in_held, next_of, HasPassedRow, HasAddedRows, Held}
use Rattle.pnm_lanes.specs.declared.held.Next.TheVariants.{Row as NextRow}
use Rattle.pnm_lanes.proofs.LaneLists.{at_lane-get}
use Rattle.pnm_lanes.proofs.TogetherSteps.{passed_same, rows_passed}
use Rattle.pnm_lanes.proofs.together.take_rows.Goals as goal

-- no row came next
abbrev StaysWhole : Held → Held → Type 0
StaysWhole old new = (in_held new ≡ in_held old) × (next_of (in_held old) ≢ NextRow)

pub returns-in_default-clause-passed : goal.returns-in_default-clause-passed
returns-in_default-clause-passed c =
    let held = c.args.held.now in
    let lane : ℕ = c.args.y % length held in
    let within : lane < length held = mod_below c.args.y (length held) c.requires.some in
    let none : StaysWhole (get_or held lane c.index-held-own.result) c.take_row.new.self =
    subst (λ (o : Option (List (List ℕ))). IfNone o (StaysWhole (get_or held lane c.index-held-own.result) c.take_row.new.self)) c.in_default.is
    c.in_ok-rows.ensures.none in
    passed_same held lane c.take_row.new.self c.index-held-own.result within none.0

pub returns-in_default-clause-none : goal.returns-in_default-clause-none
returns-in_default-clause-none c below is =
    let held = c.args.held.now in
    let lane : ℕ = c.args.y % length held in
    let within : lane < length held = mod_below c.args.y (length held) c.requires.some in
    let here = at_lane-get in_held held lane c.index-held-own.result within in
    let none : StaysWhole (get_or held lane c.index-held-own.result) c.take_row.new.self =
    subst (λ (o : Option (List (List ℕ))). IfNone o (StaysWhole (get_or held lane c.index-held-own.result) c.take_row.new.self)) c.in_default.is
    c.in_ok-rows.ensures.none in
    none.1 (sym (ap next_of here) ∙ is)

pub returns-clause-passed : goal.returns-clause-passed
returns-clause-passed c =
    let held = c.args.held.now in
    let lane : ℕ = c.args.y % length held in
    let within : lane < length held = mod_below c.args.y (length held) c.requires.some in
    let first : HasPassedRow [] c.in-Some.rows (in_held (get_or held lane c.index-held-own.result)) (in_held c.take_row.new.self) =
    subst (λ (o : Option (List (List ℕ))). IfSome o (λ rows. HasPassedRow [] rows (in_held (get_or held lane c.index-held-own.result))
    (in_held c.take_row.new.self))) c.in-Some.is c.in_ok-rows.ensures.row in
    let added = subst (λ (n : ℕ). HasAddedRows n c.args.shape (c.args.y + 1) c.in-Some.rows c.add_rows.new.rows (set held lane c.take_row.new.self)
    c.add_rows.new.held) (length-set held lane c.take_row.new.self) c.in_ok-add_rows.ensures.added in
    (rows_passed held lane c.take_row.new.self c.index-held-own.result refl within (omega (arith, c.if-y-shape.false)) first added).0
