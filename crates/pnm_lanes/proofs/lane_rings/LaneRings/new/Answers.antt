use Rattle.pnm_lanes.proofs.Words.{ap, length, sym, ◌≡◌, ◌≤◌, [], subst, vec_capacity, ℕ, arith}
use Rattle.pnm_lanes.proofs.MergeSteps.{made_so, unused_more, counted_more}
use Rattle.pnm_lanes.proofs.lane_rings.LaneRings.new.Goals as goal

pub loop-preserved : goal.loop-preserved
loop-preserved c =
    let sent = c.in_ok-sender in
    let made = c.in_ok-output in
    let more = unused_more c.loop.outputs.items c.loop.ends.items c.loop.inputs.items sent.sender (record { input = sent.input; output = made.output })
    made.receiver
    c.loop.invariant.0 sent.ensures.pair made.ensures.pair sent.ensures.unused.0 sent.ensures.unused.1 made.ensures.unused.0 made.ensures.unused.1 in
    let counts = c.loop.invariant.2 in
    let reserved = c.loop.invariant.3 in (
      rw (c.push_reserved.ensures.items, c.push_reserved-in-loop.ensures.items, c.push_reserved-in-loop-2.ensures.items) more,
      omega (arith, c.loop-test.true),
      (
        counted_more c.loop.outputs.items sent.sender c.push_reserved.ensures.items counts.0,
        counted_more c.loop.ends.items _ c.push_reserved-in-loop.ensures.items counts.1,
        counted_more c.loop.inputs.items made.receiver c.push_reserved-in-loop-2.ensures.items counts.2,
      ),
      (
        subst (λ (n : ℕ). c.args.lanes ≤ n) (sym c.push_reserved.ensures.capacity) reserved.0,
        subst (λ (n : ℕ). c.args.lanes ≤ n) (sym c.push_reserved-in-loop.ensures.capacity) reserved.1,
        subst (λ (n : ℕ). c.args.lanes ≤ n) (sym c.push_reserved-in-loop-2.ensures.capacity) reserved.2,
      ),
    )

pub loop-init : goal.loop-init
loop-init c =
    let no_outputs : c.in_ok-outputs.outputs.items ≡ [] = made_so (λ v. v.items ≡ []) c.with_capacity.result c.ok.ensures.value c.in_ok-outputs.was
    c.with_capacity.ensures.items in
    let no_ends : c.in_ok-ends.ends.items ≡ [] = made_so (λ v. v.items ≡ []) c.with_capacity-2.result c.ok-2.ensures.value c.in_ok-ends.was
    c.with_capacity-2.ensures.items in
    let no_inputs : c.in_ok-inputs.inputs.items ≡ [] = made_so (λ v. v.items ≡ []) c.with_capacity-3.result c.ok-3.ensures.value c.in_ok-inputs.was
    c.with_capacity-3.ensures.items in (
      rw (no_outputs, no_ends, no_inputs) tt,
      omega arith,
      (ap length no_outputs, ap length no_ends, ap length no_inputs),
      (
        made_so (λ v. c.args.lanes ≤ vec_capacity v) c.with_capacity.result c.ok.ensures.value c.in_ok-outputs.was c.with_capacity.ensures.capacity,
        made_so (λ v. c.args.lanes ≤ vec_capacity v) c.with_capacity-2.result c.ok-2.ensures.value c.in_ok-ends.was c.with_capacity-2.ensures.capacity,
        made_so (λ v. c.args.lanes ≤ vec_capacity v) c.with_capacity-3.result c.ok-3.ensures.value c.in_ok-inputs.was c.with_capacity-3.ensures.capacity,
      ),
    )

pub push_reserved-requires : goal.push_reserved-requires
push_reserved-requires c = omega (arith, c.loop.invariant.2.0, c.loop.invariant.3.0, c.loop-test.true)

pub push_reserved-requires-in-loop : goal.push_reserved-requires-in-loop
push_reserved-requires-in-loop c = omega (arith, c.loop.invariant.2.1, c.loop.invariant.3.1, c.loop-test.true)

pub push_reserved-requires-in-loop-2 : goal.push_reserved-requires-in-loop-2
push_reserved-requires-in-loop-2 c = omega (arith, c.loop.invariant.2.2, c.loop.invariant.3.2, c.loop-test.true)

pub returns-clause-reserved : goal.returns-clause-reserved
returns-clause-reserved c = (
  made_so (λ v. v.items ≡ []) c.with_capacity-4.result c.ok-4.ensures.value c.in_ok-reserved.was c.with_capacity-4.ensures.items,
  made_so (λ v. c.args.lanes ≤ vec_capacity v) c.with_capacity-4.result c.ok-4.ensures.value c.in_ok-reserved.was c.with_capacity-4.ensures.capacity,
)

pub returns-clause-unused : goal.returns-clause-unused
returns-clause-unused c = c.loop.invariant.0

pub returns-clause-count : goal.returns-clause-count
returns-clause-count c = omega (arith, c.loop.invariant.1, c.loop.invariant.2.1, c.loop-test.false)

pub returns-in_err-outputs : goal.returns-in_err-outputs
returns-in_err-outputs c = rw c.from_residual.ensures (record { unused = tt; count = tt; reserved = tt })

pub returns-in_err-ends : goal.returns-in_err-ends
returns-in_err-ends c = rw c.from_residual-in_err-ends.ensures (record { unused = tt; count = tt; reserved = tt })

pub returns-in_err-inputs : goal.returns-in_err-inputs
returns-in_err-inputs c = rw c.from_residual-in_err-inputs.ensures (record { unused = tt; count = tt; reserved = tt })

pub returns-in_err-reserved : goal.returns-in_err-reserved
returns-in_err-reserved c = rw c.from_residual-in_err-reserved.ensures (record { unused = tt; count = tt; reserved = tt })

pub returns-in_err-sender : goal.returns-in_err-sender
returns-in_err-sender c = rw c.from_residual-in_err-sender.ensures (record { unused = tt; count = tt; reserved = tt })

pub returns-in_err-output : goal.returns-in_err-output
returns-in_err-output c = rw c.from_residual-in_err-output.ensures (record { unused = tt; count = tt; reserved = tt })
