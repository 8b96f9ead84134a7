use Rattle.std.proofs.Common.{◌≡◌, ◌≤◌, ◌+◌, ◌*◌, ℕ, length, arith, subst, refl}
use Rattle.pnm_image.specs.Places.{IsRowOf}
use Rattle.pnm_image.specs.Repeats.{repeated}
use Rattle.pnm_image.proofs.Places.{rows_lead, rows_lead_nowhere, rows_lie_inside}
use Rattle.pnm_image.proofs.RepeatLaws.{each_of_repeated, each_once, length_of_repeated, repeated_some}
use Rattle.pnm_image.proofs.place.Place.after_copies.Goals as goal
use Rattle.pnm_image.proofs.place.Place.after_copies.Goals.{else-y-shape-via-then-y-shape+then-end-from+else-are_rows_of}
use Rattle.pnm_image.proofs.place.Place.after_copies.Goals.{else-y-shape-via-then-y-shape+else-end-from, else-y-shape-via-else-y-shape}

pub returns-in_default : goal.returns-in_default
returns-in_default c =
    let first = subst (λ (n : ℕ). 1 ≤ n) c.count.ensures.rows c.count.ensures.some in
    let some = repeated_some c.args.times c.args.rows.now c.requires.some first in
    λ lawful. let at = rows_lie_inside c.args.self.now (repeated c.args.times c.args.rows.now) some lawful in grind (arith, at.2, c.in_default.not-Inside)

pub overflow_cast-result : goal.overflow_cast-result
overflow_cast-result c = grind (arith, c.if-end-from.true, c.from-then-y-shape.ensures)

pub returns-then-are_rows_of : goal.returns-then-are_rows_of
returns-then-are_rows_of c =
    let s = c.in-Inside.shape in
    let y = c.in-Inside.y in
    let rows = c.args.rows.now in
    let times = c.args.times in
    let end = c.from-3.result + c.from.result * c.from-2.result in
    let many : length (repeated times rows) ≡ length rows * times = length_of_repeated times rows in
    let total : end ≡ y + length (repeated times rows) = rw (c.from.ensures, c.count.ensures.rows, c.from-2.ensures, c.from-3.ensures, many) refl in
    let below : end ≤ s.height = grind (arith, c.if-end-from.true, c.from-then-y-shape.ensures) in
    let each = each_of_repeated (IsRowOf s) times rows (c.if-are_rows_of.ensures.0 refl) in
    rw (c.in-Inside.is) (rows_lead s y end (repeated times rows) total below each)

pub returns-else-y-shape : goal.returns-else-y-shape
returns-else-y-shape c =
    let s = c.in-Inside.shape in
    let y = c.in-Inside.y in
    let rows = c.args.rows.now in
    let times = c.args.times in
    let end = c.from-3.result + c.from.result * c.from-2.result in
    let many : length (repeated times rows) ≡ length rows * times = length_of_repeated times rows in
    let total : end ≡ y + length (repeated times rows) = rw (c.from.ensures, c.count.ensures.rows, c.from-2.ensures, c.from-3.ensures, many) refl in
    let first = subst (λ (n : ℕ). 1 ≤ n) c.count.ensures.rows c.count.ensures.some in
    let some = repeated_some times rows c.requires.some first in
    rw (c.in-Inside.is)
    (rows_lead_nowhere s y end (repeated times rows) total some (λ below are.
    let once = each_once (IsRowOf s) times rows c.requires.some are in
    elim c.else-y-shape.branch [
      | else-y-shape-via-then-y-shape+then-end-from+else-are_rows_of w ↦ grind (arith, w.if-are_rows_of.ensures.1 once)
      | else-y-shape-via-then-y-shape+else-end-from w ↦ grind (arith, below, w.if-end-from.false, w.from-then-y-shape.ensures)
      | else-y-shape-via-else-y-shape w ↦ grind (arith, below, total, some, w.if-y-shape.false)
    ]))
