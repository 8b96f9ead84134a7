use Rattle.pnm_serial.proofs.Words.{◌*◌, ◌+◌, List, length, messages_in, FusedFilter, unfed_in, FusedSink, output_of, FiltersAt, FeedsThrough, FiltersBusy}
use Rattle.pnm_serial.proofs.Words.{GivesThrough}
use Rattle.pnm_serial.proofs.PassingSteps.{first_waiting}
use Rattle.pnm_serial.proofs.passing.+through.Given as goal

-- the number of stages, and whether a packet is still before the first of them
abbrev pub decreases-pass_answers : goal.decreases-pass_answers
decreases-pass_answers g l = 2 * length l.stages.now

abbrev pub decreases-feed_through : goal.decreases-feed_through
decreases-feed_through g l = 2 * length l.stages.now + 1

-- once what is left has passed, the packet has
abbrev pub invariant-feed_through-loop-alloc : goal.invariant-feed_through-loop-alloc
invariant-feed_through-loop-alloc g l =
    ((new : List (FusedFilter _)) (after : FusedSink _)
    → FeedsThrough g.F.Filter.at g.F.Filter.all_given g.F.Filter.stopped g.W.BytesOut.held g.W.BytesOut.failures l.stages (unfed_in l.unfed) new
    l.fused_sink after
    → FeedsThrough g.F.Filter.at g.F.Filter.all_given g.F.Filter.stopped g.W.BytesOut.held g.W.BytesOut.failures l.fn.stages (messages_in l.fn.packet) new
    l.fn.fused_sink after)
    × g.W.BytesOut.same (output_of l.fn.fused_sink) (output_of l.fused_sink)

abbrev pub decreases-feed_through-loop-alloc : goal.decreases-feed_through-loop-alloc
decreases-feed_through-loop-alloc g l = length (unfed_in l.unfed)

-- once what the first of them is still to give has passed through the others, all that it gives has
abbrev pub invariant-pass_answers-loop-answer : goal.invariant-pass_answers-loop-answer
invariant-pass_answers-loop-answer g l =
    ((new : List (FusedFilter _)) (after : FusedSink _)
    → GivesThrough g.W.BytesOut.held g.W.BytesOut.failures (FiltersBusy g.F.Filter.at g.F.Filter.all_given g.F.Filter.stopped l.stages)
    (FiltersAt g.F.Filter.at g.F.Filter.all_given g.F.Filter.stopped new) l.fused_sink after
    → GivesThrough g.W.BytesOut.held g.W.BytesOut.failures (FiltersBusy g.F.Filter.at g.F.Filter.all_given g.F.Filter.stopped l.fn.stages)
    (FiltersAt g.F.Filter.at g.F.Filter.all_given g.F.Filter.stopped new) l.fn.fused_sink after)
    × g.W.BytesOut.same (output_of l.fn.fused_sink) (output_of l.fused_sink)

abbrev pub decreases-pass_answers-loop-answer : goal.decreases-pass_answers-loop-answer
decreases-pass_answers-loop-answer g l = first_waiting g.F.Filter.waiting l.stages
