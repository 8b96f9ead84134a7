use Rattle.pnm_serial.proofs.Words.{◌<◌, List, length, refl, sym, subst, ◌∙◌, arith, nat_tests, Message, FeedsThrough}
use Rattle.pnm_serial.proofs.PassingSteps.{passes_on, feeds_next, drops_rest, gives_on, gives_all}
use Rattle.pnm_serial.proofs.passing.+through.Goals as goal

-- ---- feed_through

pub feed_through-returns-then-is_empty-clause-fed : goal.feed_through-returns-then-is_empty-clause-fed
feed_through-returns-then-is_empty-clause-fed g t c = passes_on c.args.stages.now (sym c.is_empty.ensures ∙ c.if-is_empty.true) assumption

pub feed_through-loop-alloc-init : goal.feed_through-loop-alloc-init
feed_through-loop-alloc-init g t c = (
  λ new after then. subst
      (λ (l : List Message). FeedsThrough g.F.Filter.at g.F.Filter.all_given g.F.Filter.stopped g.W.BytesOut.held g.W.BytesOut.failures
      c.args.stages.now l new c.args.fused_sink.now after)
      c.of-unfed.ensures then,
  g.met.W.BytesOut.same_at_once _,
)

pub feed_through-loop-alloc-preserved : goal.feed_through-loop-alloc-preserved
feed_through-loop-alloc-preserved g t c =
    let some : 0 < length c.loop-alloc.stages = grind (arith, nat_tests, c.loop-alloc.auto.stages, c.is_empty.ensures, c.if-is_empty.false) in (
      λ new after then. c.loop-alloc.invariant.0 new after (feeds_next _ _ _ _ _ c.loop-alloc.stages c.pass_answers.new.stages new _ c.index-stages-0.result
          _ _ _ c.loop-alloc.fused_sink c.pass_answers.new.fused_sink after refl some (c.feed_next.ensures.fed c.loop-alloc-test.true)
          c.pass_answers.ensures.given then),
      g.met.W.BytesOut.same_later _ _ _ c.loop-alloc.invariant.1 c.pass_answers.ensures.same_device,
    )

pub feed_through-returns-clause-fed : goal.feed_through-returns-clause-fed
feed_through-returns-clause-fed g t c =
    let some : 0 < length c.loop-alloc.stages = grind (arith, nat_tests, c.loop-alloc.auto.stages, c.is_empty.ensures, c.if-is_empty.false) in
    c.loop-alloc.invariant.0 _ _ (drops_rest g.F.Filter.at _ _ _ _ c.loop-alloc.stages _ c.index-stages-0.result c.feed_next.new.stage _ _ refl some
    (c.feed_next.ensures.dropped c.loop-alloc-test.false))

-- ---- pass_answers

pub pass_answers-loop-answer-preserved : goal.pass_answers-loop-answer-preserved
pass_answers-loop-answer-preserved g t c =
    let some : 0 < length c.loop-answer.stages = omega (arith, c.loop-answer.auto.stages, c.requires.some) in (
      λ new after then. c.loop-answer.invariant.0 new after (gives_on g.met.F.Filter.at_answers c.loop-answer.stages new c.index-stages-0.result
          c.next.new.self refl some c.in-Some.ensures.given
          c.feed_through.ensures.fed then),
      g.met.W.BytesOut.same_later _ _ _ c.loop-answer.invariant.1 c.feed_through.ensures.same_device,
    )

pub pass_answers-returns-clause-given : goal.pass_answers-returns-clause-given
pass_answers-returns-clause-given g t c = c.loop-answer.invariant.0 _ _
    (gives_all g.F.Filter.at _ _ _ _ c.loop-answer.stages _ c.index-stages-0.result c.next.new.self _ refl c.in_default.ensures.full)
