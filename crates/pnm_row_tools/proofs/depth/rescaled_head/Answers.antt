use Rattle.pnm_row_tools.proofs.Words.{◌≡◌, refl, head_value, Depth, within_limits, result_head, depth_is_samplewise, changed_head_made, head_so, fault_so}
use Rattle.pnm_row_tools.proofs.depth.rescaled_head.Goals as goal

-- the head that is made is the one of the rule
made : (c : goal.After-head_within_limits) → result_head (Depth c.args.maxval) c.args.head.now
    ≡ within_limits (head_value (record c.shape-shape.result { kind = c.kind_at.result; maxval = c.args.maxval }) c.type_at.result.now)
made c =
    changed_head_made (depth_is_samplewise c.args.maxval) c.args.head.now c.shape-shape.result
    c.kind_at.result c.args.maxval c.type_at.result.now c.tuple_type.result.now c.shape-shape.ensures.shape c.kind_at.ensures refl c.type_at.ensures
    c.tuple_type.ensures c.shape-shape.ensures.sound.limits

pub returns-clause-made : goal.returns-clause-made
returns-clause-made c =
    head_so (Depth c.args.maxval) c.args.head.now
    (head_value (record c.shape-shape.result { kind = c.kind_at.result; maxval = c.args.maxval }) c.type_at.result.now) c.head_within_limits.result (made c)
    c.head_within_limits.ensures.made

pub returns-clause-refused : goal.returns-clause-refused
returns-clause-refused c =
    fault_so (Depth c.args.maxval) c.args.head.now
    (head_value (record c.shape-shape.result { kind = c.kind_at.result; maxval = c.args.maxval }) c.type_at.result.now) c.head_within_limits.result (made c)
    c.head_within_limits.ensures.refused
