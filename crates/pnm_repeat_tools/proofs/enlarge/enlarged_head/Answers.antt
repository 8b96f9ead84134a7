use Rattle.pnm_repeat_tools.proofs.Words.{◌≡◌, ◌⊎◌, inl, inr, ◌*◌, ◌<◌, arith, head_value, Enlarge, within_limits, result_head, head_so, fault_so, MAX_SIDE}
use Rattle.pnm_repeat_tools.proofs.EnlargedHeadLaws.{enlarge_without_rows, enlarged_too_large, enlarged_head_made}
use Rattle.pnm_repeat_tools.proofs.enlarge.enlarged_head.Goals as goal
use Rattle.pnm_repeat_tools.proofs.enlarge.enlarged_head.Goals.{in_default-via-in-Some+in_default, in_default-via-in_default}

pub returns-then-shape-eq0-clause-refused : goal.returns-then-shape-eq0-clause-refused
returns-then-shape-eq0-clause-refused c =
    inl (enlarge_without_rows c.args.across c.args.down c.args.head.now c.shape-shape.ensures.shape c.if-down-ne1.true c.if-shape-eq0.true)

pub returns-in_default-clause-refused : goal.returns-in_default-clause-refused
returns-in_default-clause-refused c =
    let s = c.shape-shape.result in
    let beyond : (MAX_SIDE < s.width * c.args.across) ⊎ (MAX_SIDE < s.height * c.args.down) = elim c.in_default.branch [
      | in_default-via-in-Some+in_default w ↦ inr (omega (arith, w.in_default.ensures'))
      | in_default-via-in_default w ↦ inl (omega (arith, rw w.in_default.is-0 at c.checked_mul.ensures))
    ] in
    inl (enlarged_too_large c.args.across c.args.down c.args.head.now c.shape-shape.ensures.shape c.else-down-ne1.either beyond)

-- the head that is made is the one of the rule
made : (c : goal.After-head_within_limits) → result_head (Enlarge c.args.across c.args.down) c.args.head.now
    ≡ within_limits (head_value (record c.shape-shape.result { width = c.in-Some-Some.width; height = c.in-Some-Some.height }) c.tuple_type.result.now)
made c = enlarged_head_made c.args.across c.args.down c.args.head.now
    c.shape-shape.ensures.shape c.else-down-ne1.either c.in-Some-Some.ensures.1 c.in-Some-Some.ensures'.1 c.tuple_type.ensures

pub returns-clause-made : goal.returns-clause-made
returns-clause-made c =
    head_so (Enlarge c.args.across c.args.down) c.args.head.now
    (head_value (record c.shape-shape.result { width = c.in-Some-Some.width; height = c.in-Some-Some.height }) c.tuple_type.result.now)
    c.head_within_limits.result (made c) c.head_within_limits.ensures.made

pub returns-clause-refused : goal.returns-clause-refused
returns-clause-refused c =
    fault_so (Enlarge c.args.across c.args.down) c.args.head.now
    (head_value (record c.shape-shape.result { width = c.in-Some-Some.width; height = c.in-Some-Some.height }) c.tuple_type.result.now)
    c.head_within_limits.result (made c) c.head_within_limits.ensures.refused
