use Rattle.pnm_lanes.proofs.Words.{inl, inr, ℕ, List, length, sym, ap, subst, ◌∙◌, arith, cases_lt, Option, IfNone, Message, Inside, rows_list, row_messages}
use Rattle.pnm_lanes.proofs.Words.{◌≡◌, ◌≢◌, ◌+◌, ◌<◌, ◌%◌, end_messages, at_lane, in_held, next_of, HasPassed, rest_messages}
use Rattle.pnm_lanes.specs.declared.held.Next.TheVariants.{Row as NextRow}
use Rattle.pnm_lanes.proofs.TogetherSteps.{rest_passed, no_row_comes, nothing_came}
use Rattle.pnm_lanes.proofs.together.take_rest.Goals as goal

pub returns-clause-passed : goal.returns-clause-passed
returns-clause-passed c =
    let end : ℕ = c.args.y + c.count_of.result in
    let mid = c.take_rows.new.held in
    let new = c.take_image_end-ends_image.new.held in
    let ends : List Message = end_messages c.take_image_end-ends_image.result in
    subst (λ (o : Option (List (List ℕ))). HasPassed (length c.args.held.now) (Inside c.args.shape c.args.y)
    (rest_messages o c.take_image_end-ends_image.result) c.args.held.now new) (sym c.once.ensures)
    (rest_passed c.args.y end (rows_list c.in_ok-rows.rows) ends c.in_ok-rows.ensures.passed
    (omega (arith, c.count_of.ensures))
    (subst (λ (n : ℕ). HasPassed n (Inside c.args.shape end) ends mid new) c.in_ok-rows.ensures.as_many c.take_image_end-ends_image.ensures.passed))

pub returns-clause-none : goal.returns-clause-none
returns-clause-none c none_once no_end next =
    let held = c.args.held.now in
    let mid = c.take_rows.new.held in
    let y : ℕ = c.args.y in
    let none = sym c.once.ensures ∙ none_once in
    let passed = subst (λ (o : Option (List (List ℕ))). HasPassed (length held) (Inside c.args.shape y) (row_messages (rows_list o)) held mid) none
    c.in_ok-rows.ensures.passed in
    let count : c.count_of.result ≡ 0 = c.count_of.ensures ∙ ap (λ (o : Option (List (List ℕ))). length (rows_list o)) none in
    elim (cases_lt y c.args.shape.height) [
      | inl below ↦ no_row_comes held c.args.shape below (next.0 below) c.requires.some
          (subst (λ (o : Option (List (List ℕ))). IfNone o (y < c.args.shape.height → next_of (at_lane in_held held (y % length held)) ≢ NextRow)) none
          c.in_ok-rows.ensures.none below)
      | inr past ↦ nothing_came c.args.shape y (y + c.count_of.result) (length mid) held mid c.in_ok-rows.ensures.as_many (omega (arith, count))
          passed.parts (c.take_image_end-ends_image.ensures.not no_end) past (next.1 past)
    ]
