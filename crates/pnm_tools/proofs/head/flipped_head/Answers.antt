use Rattle.pnm_tools.proofs.Words.{rules, ◌≡◌, ◌⊎◌, inl, inr, true, false, ap, sym, ◌∙◌, head_value, Flip, transform_of, moves_rows, within_limits, result_head}
use Rattle.pnm_tools.proofs.HeadLaws.{head_so, fault_so}
use Rattle.pnm_tools.proofs.FlippedHeadLaws.{flip_without_rows, transformed_sizes, transformed_head_made}
use Rattle.pnm_tools.proofs.head.flipped_head.Goals as goal
use Rattle.pnm_tools.proofs.head.flipped_head.Goals.{else-not-is_row_wise-via-then-not-is_row_wise+else-shape-eq0}
use Rattle.pnm_tools.proofs.head.flipped_head.Goals.{else-not-is_row_wise-via-else-not-is_row_wise, then-transform, else-transform}

pub returns-then-shape-eq0-clause-refused : goal.returns-then-shape-eq0-clause-refused
returns-then-shape-eq0-clause-refused c =
    let moves : moves_rows (transform_of c.args.way) ≡ true = search rules in
    inl (flip_without_rows c.args.way c.args.head.now c.shape-shape.result moves c.shape-shape.ensures.shape c.if-shape-eq0.true)

-- rows stay in their places, or there are rows
order : (c : goal.After-head_within_limits) → (moves_rows (transform_of c.args.way) ≡ false) ⊎ (c.shape-shape.result.height ≡ 0 → ⊥)
order c = elim c.else-not-is_row_wise.branch [
  | else-not-is_row_wise-via-then-not-is_row_wise+else-shape-eq0 w ↦ inr w.if-shape-eq0.false
  | else-not-is_row_wise-via-else-not-is_row_wise w ↦ inl (search rules)
]

-- the sizes are those of the rule
sizes : (c : goal.After-head_within_limits) → c.if-transform.transformed ≡ transformed_sizes (transform_of c.args.way).exchanged c.shape-shape.result
sizes c = elim c.if-transform.branch [
  | then-transform w ↦
      (let exchanged : (transform_of c.args.way).exchanged ≡ true = search rules in w.transformed-is ∙ sym (ap (λ b. transformed_sizes b c.shape-shape.result)
      exchanged))
  | else-transform w ↦ (let stay : (transform_of c.args.way).exchanged ≡ false = search rules in w.transformed-is
      ∙ sym (ap (λ b. transformed_sizes b c.shape-shape.result) stay))
]

-- the head that is made is the one of the rule
made : (c : goal.After-head_within_limits) → result_head (Flip c.args.way) c.args.head.now ≡ within_limits (head_value c.if-transform.transformed
    c.tuple_type.result.now)
made c =
    transformed_head_made c.args.way c.args.head.now c.shape-shape.result c.if-transform.transformed c.tuple_type.result.now c.shape-shape.ensures.shape (order
    c)
    (sizes c) c.tuple_type.ensures c.shape-shape.ensures.sound.limits

pub returns-clause-made : goal.returns-clause-made
returns-clause-made c = head_so (Flip c.args.way) c.args.head.now (head_value c.if-transform.transformed c.tuple_type.result.now) c.head_within_limits.result
    (made c) c.head_within_limits.ensures.made

pub returns-clause-refused : goal.returns-clause-refused
returns-clause-refused c = fault_so (Flip c.args.way) c.args.head.now (head_value c.if-transform.transformed c.tuple_type.result.now)
    c.head_within_limits.result
    (made c) c.head_within_limits.ensures.refused
