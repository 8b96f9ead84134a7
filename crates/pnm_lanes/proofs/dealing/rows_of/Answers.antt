use Rattle.pnm_lanes.proofs.Words.{◌≡◌, ◌⊎◌, inl, inr, ◌∙◌, ◌-◌, ◌≤◌, ◌<◌, [], List, ℕ, Option, ap, sym, subst, arith, length, rows_list, every}
use Rattle.pnm_lanes.proofs.DealtRows.{none_left, all_are_its, none_is_left}
use Rattle.pnm_lanes.proofs.dealing.rows_of.Goals as goal

pub returns-then-count-from-clause-rows : goal.returns-then-count-from-clause-rows
returns-then-count-from-clause-rows c =
    let past : length c.in-Some.held ≤ c.args.from = omega (arith, c.if-count-from.true, c.count-count.ensures.rows) in
    rw c.in-Some.is (sym (none_left c.args.from (c.args.lanes - 1) c.in-Some.held past))

-- a single row is taken out, or those of a single lane
pub returns-then-count-eq1-clause-rows : goal.returns-then-count-eq1-clause-rows
returns-then-count-eq1-clause-rows c =
    let some : c.args.from < length c.in-Some.held = omega (arith, c.if-count-from.false, c.count-count.ensures.rows) in
    let why : (length c.in-Some.held ≡ 1) ⊎ (c.args.lanes ≡ 1) = elim c.then-count-eq1.either [
      | inl one ↦ inl (sym c.count-count.ensures.rows ∙ one)
      | inr alone ↦ inr alone.1
    ] in
    ap rows_list c.take.ensures.value
    ∙ subst (λ (rows : Option (List (List ℕ))). rows_list rows ≡ every c.args.from (c.args.lanes - 1) (rows_list rows)) (sym c.in-Some.is)
    (all_are_its c.args.from c.args.lanes c.in-Some.held c.requires some why)

pub returns-then-count-eq1-clause-left : goal.returns-then-count-eq1-clause-left
returns-then-count-eq1-clause-left c = λ later le lt.
    let why : (length c.in-Some.held ≡ 1) ⊎ (c.args.lanes ≡ 1) = elim c.then-count-eq1.either [
      | inl one ↦ inl (sym c.count-count.ensures.rows ∙ one)
      | inr alone ↦ inr alone.1
    ] in
    ap (λ (rows : Option (List (List ℕ))). every later (c.args.lanes - 1) (rows_list rows)) c.take.ensures.after
    ∙ subst (λ (rows : Option (List (List ℕ))). [] ≡ every later (c.args.lanes - 1) (rows_list rows)) (sym c.in-Some.is)
    (none_is_left c.args.from c.args.lanes c.in-Some.held why later le lt)
