use Rattle.pnm_row_tools.proofs.Words.{inl, length, refl, Pam, head_value, Channel, planes_outside, planes_inside, head_so, fault_so}
use Rattle.pnm_row_tools.proofs.channel.picked_head.Goals as goal

pub returns-then-not-are_below-clause-refused : goal.returns-then-not-are_below-clause-refused
returns-then-not-are_below-clause-refused c =
    let numbers = c.numbers-numbers in
    inl (planes_outside c.args.planes.now c.args.head.now c.shape-shape.result numbers.result.now c.are_below.result c.shape-shape.ensures.shape
    numbers.ensures c.are_below.ensures c.if-not-are_below.true)

pub returns-clause-made : goal.returns-clause-made
returns-clause-made c =
    let numbers = c.numbers-numbers in
    let count = length numbers.result.now in
    let inside = planes_inside c.args.planes.now c.args.head.now c.shape-shape.result numbers.result.now c.are_below.result count c.tuple_type.result.now
    c.shape-shape.ensures.shape numbers.ensures c.are_below.ensures c.if-not-are_below.false refl c.tuple_type.ensures in
    head_so (Channel c.args.planes.now) c.args.head.now (head_value (record c.shape-shape.result { kind = Pam; depth = count }) c.tuple_type.result.now)
    c.head_within_limits.result inside c.head_within_limits.ensures.made

pub returns-clause-refused : goal.returns-clause-refused
returns-clause-refused c =
    let numbers = c.numbers-numbers in
    let count = length numbers.result.now in
    let inside = planes_inside c.args.planes.now c.args.head.now c.shape-shape.result numbers.result.now c.are_below.result count c.tuple_type.result.now
    c.shape-shape.ensures.shape numbers.ensures c.are_below.ensures c.if-not-are_below.false refl c.tuple_type.ensures in
    fault_so (Channel c.args.planes.now) c.args.head.now (head_value (record c.shape-shape.result { kind = Pam; depth = count }) c.tuple_type.result.now)
    c.head_within_limits.result inside c.head_within_limits.ensures.refused
