use Rattle.pnm_stages.proofs.Words.{refl, sym, ◌∙◌, sent, received, messages_in}
use Rattle.pnm_stages.specs.Rings.{known_items}
use Rattle.pnm_stages.proofs.RingSteps.{arrived, same_input, same_output, itself_input, itself_output}
use Rattle.pnm_stages.proofs.StagedSteps.{passes_nothing, passes_packet, still_sent, still_going, input_gone, output_gone, breaks_off, ends_well, ends_broken}
use Rattle.pnm_stages.proofs.stage.pass_all.Goals as goal

pub returns-in-Some-clause-ran : goal.returns-in-Some-clause-ran
returns-in-Some-clause-ran g c tool fresh = breaks_off (passes_nothing) refl (sym c.fault.ensures ∙ c.in-Some.is) c.break_off.ensures.broken fresh

pub returns-then-not-has_next-clause-ran : goal.returns-then-not-has_next-clause-ran
returns-then-not-has_next-clause-ran g c tool fresh =
    input_gone c.loop.stage c.send.result
    (still_sent c.loop.invariant.2 c.has_next.ensures.sent) (c.has_next.ensures.received, c.if-not-has_next.ensures.none refl) c.send.ensures.given
    c.send.ensures.gone c.loop.invariant.3 fresh

pub returns-then-not-pass-clause-ran : goal.returns-then-not-pass-clause-ran
returns-then-not-pass-clause-ran g c tool fresh =
    let came = arrived (messages_in c.receive_known-packet.result) c.has_next.ensures.received c.receive_known-packet.ensures.received in
    output_gone c.receive_known-packet.result c.drain_after.result
    (still_sent c.loop.invariant.2 c.has_next.ensures.sent) came c.receive_known-packet.ensures.messages c.receive_known-packet.ensures.ends
    c.if-not-pass.ensures.passed c.ending-ending.ensures c.drain_after.ensures.drained fresh

pub returns-in-Some-fault-clause-ran : goal.returns-in-Some-fault-clause-ran
returns-in-Some-fault-clause-ran g c tool fresh =
    let came = arrived (messages_in c.receive_known-packet.result) c.has_next.ensures.received c.receive_known-packet.ensures.received in
    breaks_off (passes_packet g.F.Filter.at g.F.Filter.all_given g.F.Filter.stopped c.args.stage.now c.loop.stage c.pass.new.stage
    c.receive_known-packet.result (received c.args.input.now) (received c.loop.input) (received c.receive_known-packet.new.self) (sent c.args.output.now)
    (sent c.has_next.new.output) (sent c.pass.new.output)
    (still_sent c.loop.invariant.2 c.has_next.ensures.sent) came c.receive_known-packet.ensures.messages c.receive_known-packet.ensures.ends
    c.if-not-pass.ensures.passed) c.ending-ending.ensures (sym c.fault-in-loop.ensures ∙ c.in-Some-fault.is) c.break_off-in-Some-fault.ensures.broken fresh

pub loop-preserved : goal.loop-preserved
loop-preserved g c =
    let ring = same_input c.loop.input c.has_next.new.input c.receive_known-packet.new.self c.has_next.ensures.ring c.receive_known-packet.ensures.ring in
    let came = arrived (messages_in c.receive_known-packet.result) c.has_next.ensures.received c.receive_known-packet.ensures.received in (
      same_input c.args.input.now c.loop.input c.receive_known-packet.new.self c.loop.invariant.0 ring,
      same_output c.args.output.now c.has_next.new.output c.pass.new.output
          (same_output c.args.output.now c.loop.output c.has_next.new.output c.loop.invariant.1 c.has_next.ensures.output) c.pass.ensures.output,
      still_going (passes_packet g.F.Filter.at g.F.Filter.all_given g.F.Filter.stopped c.args.stage.now c.loop.stage c.pass.new.stage
          c.receive_known-packet.result (received c.args.input.now) (received c.loop.input) (received c.receive_known-packet.new.self) (sent c.args.output.now)
          (sent c.has_next.new.output) (sent c.pass.new.output)
          (still_sent c.loop.invariant.2 c.has_next.ensures.sent) came c.receive_known-packet.ensures.messages c.receive_known-packet.ensures.ends
          c.if-not-pass.ensures.passed) (sym c.ending-ending.ensures ∙ c.in-More.is),
      (sym c.fault-in-loop.ensures ∙ c.in_default-fault.is),
    )

pub returns-in-Whole-clause-ran : goal.returns-in-Whole-clause-ran
returns-in-Whole-clause-ran g c tool fresh =
    let came = arrived (messages_in c.receive_known-packet.result) c.has_next.ensures.received c.receive_known-packet.ensures.received in
    ends_well (known_items c.receive_known-packet.new.self)
    (passes_packet g.F.Filter.at g.F.Filter.all_given g.F.Filter.stopped c.args.stage.now c.loop.stage c.pass.new.stage
    c.receive_known-packet.result (received c.args.input.now) (received c.loop.input) (received c.receive_known-packet.new.self) (sent c.args.output.now)
    (sent c.has_next.new.output) (sent c.pass.new.output)
    (still_sent c.loop.invariant.2 c.has_next.ensures.sent) came c.receive_known-packet.ensures.messages c.receive_known-packet.ensures.ends
    c.if-not-pass.ensures.passed) ((sym c.in-Whole.is) ∙ c.ending-ending.ensures) (sym c.fault-in-loop.ensures ∙ c.in_default-fault.is) fresh

pub returns-in-BrokenOff-clause-ran : goal.returns-in-BrokenOff-clause-ran
returns-in-BrokenOff-clause-ran g c tool fresh =
    let came = arrived (messages_in c.receive_known-packet.result) c.has_next.ensures.received c.receive_known-packet.ensures.received in
    ends_broken (known_items c.receive_known-packet.new.self)
    (passes_packet g.F.Filter.at g.F.Filter.all_given g.F.Filter.stopped c.args.stage.now c.loop.stage c.pass.new.stage
    c.receive_known-packet.result (received c.args.input.now) (received c.loop.input) (received c.receive_known-packet.new.self) (sent c.args.output.now)
    (sent c.has_next.new.output) (sent c.pass.new.output)
    (still_sent c.loop.invariant.2 c.has_next.ensures.sent) came c.receive_known-packet.ensures.messages c.receive_known-packet.ensures.ends
    c.if-not-pass.ensures.passed) ((sym c.in-BrokenOff.is) ∙ c.ending-ending.ensures) (sym c.fault-in-loop.ensures ∙ c.in_default-fault.is) fresh

pub loop-init : goal.loop-init
loop-init g c = (
  itself_input c.args.input.now,
  itself_output c.args.output.now,
  passes_nothing,
  (sym c.fault.ensures ∙ c.in_default.is),
)

pub returns-in-Some-clause-input : goal.returns-in-Some-clause-input
returns-in-Some-clause-input g c = c.break_off.ensures.input

pub returns-in-Some-clause-output : goal.returns-in-Some-clause-output
returns-in-Some-clause-output g c = c.break_off.ensures.output

pub returns-then-not-has_next-clause-input : goal.returns-then-not-has_next-clause-input
returns-then-not-has_next-clause-input g c =
    same_input c.args.input.now c.loop.input c.has_next.new.input c.loop.invariant.0 c.has_next.ensures.ring

pub returns-then-not-has_next-clause-output : goal.returns-then-not-has_next-clause-output
returns-then-not-has_next-clause-output g c =
    same_output c.args.output.now c.has_next.new.output c.send.new.self
    (same_output c.args.output.now c.loop.output c.has_next.new.output c.loop.invariant.1 c.has_next.ensures.output) c.send.ensures.ring

pub returns-then-not-pass-clause-input : goal.returns-then-not-pass-clause-input
returns-then-not-pass-clause-input g c =
    let ring = same_input c.loop.input c.has_next.new.input c.receive_known-packet.new.self c.has_next.ensures.ring c.receive_known-packet.ensures.ring in
    same_input c.args.input.now c.receive_known-packet.new.self c.drain_after.new.self
    (same_input c.args.input.now c.loop.input c.receive_known-packet.new.self c.loop.invariant.0 ring) c.drain_after.ensures.ring

pub returns-then-not-pass-clause-output : goal.returns-then-not-pass-clause-output
returns-then-not-pass-clause-output g c =
    same_output c.args.output.now c.has_next.new.output c.pass.new.output
    (same_output c.args.output.now c.loop.output c.has_next.new.output c.loop.invariant.1 c.has_next.ensures.output) c.pass.ensures.output

pub returns-in-Some-fault-clause-input : goal.returns-in-Some-fault-clause-input
returns-in-Some-fault-clause-input g c =
    let ring = same_input c.loop.input c.has_next.new.input c.receive_known-packet.new.self c.has_next.ensures.ring c.receive_known-packet.ensures.ring in
    same_input c.args.input.now c.receive_known-packet.new.self c.break_off-in-Some-fault.new.input
    (same_input c.args.input.now c.loop.input c.receive_known-packet.new.self c.loop.invariant.0 ring) c.break_off-in-Some-fault.ensures.input

pub returns-in-Some-fault-clause-output : goal.returns-in-Some-fault-clause-output
returns-in-Some-fault-clause-output g c =
    same_output c.args.output.now c.pass.new.output c.break_off-in-Some-fault.new.output
    (same_output c.args.output.now c.has_next.new.output c.pass.new.output
    (same_output c.args.output.now c.loop.output c.has_next.new.output c.loop.invariant.1 c.has_next.ensures.output) c.pass.ensures.output)
    c.break_off-in-Some-fault.ensures.output

pub returns-in-Whole-clause-input : goal.returns-in-Whole-clause-input
returns-in-Whole-clause-input g c =
    let ring = same_input c.loop.input c.has_next.new.input c.receive_known-packet.new.self c.has_next.ensures.ring c.receive_known-packet.ensures.ring in
    same_input c.args.input.now c.loop.input c.receive_known-packet.new.self c.loop.invariant.0 ring

pub returns-in-Whole-clause-output : goal.returns-in-Whole-clause-output
returns-in-Whole-clause-output g c =
    same_output c.args.output.now c.has_next.new.output c.pass.new.output
    (same_output c.args.output.now c.loop.output c.has_next.new.output c.loop.invariant.1 c.has_next.ensures.output) c.pass.ensures.output

pub returns-in-BrokenOff-clause-input : goal.returns-in-BrokenOff-clause-input
returns-in-BrokenOff-clause-input g c =
    let ring = same_input c.loop.input c.has_next.new.input c.receive_known-packet.new.self c.has_next.ensures.ring c.receive_known-packet.ensures.ring in
    same_input c.args.input.now c.loop.input c.receive_known-packet.new.self c.loop.invariant.0 ring

pub returns-in-BrokenOff-clause-output : goal.returns-in-BrokenOff-clause-output
returns-in-BrokenOff-clause-output g c =
    same_output c.args.output.now c.has_next.new.output c.pass.new.output
    (same_output c.args.output.now c.loop.output c.has_next.new.output c.loop.invariant.1 c.has_next.ensures.output) c.pass.ensures.output

pub receive_known-packet-requires : goal.receive_known-packet-requires
receive_known-packet-requires g c = c.if-not-has_next.ensures.some refl

pub pass-requires : goal.pass-requires
pass-requires g c = c.receive_known-packet.ensures.ends
