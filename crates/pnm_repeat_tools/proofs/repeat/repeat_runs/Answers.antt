use Rattle.pnm_repeat_tools.proofs.Words.{◌≡◌, ◌∙◌, arith, refl, sym, ap, append-nil}
use Rattle.pnm_repeat_tools.proofs.EnlargeRowLaws.{columns_repeated, pixel_more, column_more}
use Rattle.pnm_repeat_tools.proofs.repeat.repeat_runs.Goals as goal

pub loop-init : goal.loop-init
loop-init g c = sym (append-nil _)

pub loop-preserved : goal.loop-preserved
loop-preserved g c = pixel_more _ _ c.loop.counter c.loop.invariant c.in_ok-extend_from_slice.ensures.items

pub loop-run-preserved : goal.loop-run-preserved
loop-run-preserved g c =
    let all : c.loop.counter ≡ c.args.times = omega arith in
    column_more c.args.each c.args.samples.now c.loop-run.run _ _ c.loop-run.invariant c.loop.invariant all refl (omega arith)

pub returns-clause-made : goal.returns-clause-made
returns-clause-made g c =
    let all : c.loop-run.run ≡ c.args.count = omega arith in
    c.loop-run.invariant ∙ ap (columns_repeated c.args.times c.args.each c.args.samples.now) all
