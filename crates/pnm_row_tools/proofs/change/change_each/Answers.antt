use Rattle.pnm_row_tools.proofs.Words.{◌≤◌, ◌∙◌, ap, arith}
use Rattle.pnm_row_tools.proofs.ValueLaws.{changed_more, read_within}
use Rattle.pnm_row_tools.proofs.change.change_each.Goals as goal

pub change-requires : goal.change-requires
change-requires g c =
    c.requires.takes c.number.result
    (read_within g.W.Width.value c.args.maxval c.loop-sample.sample-index c.args.samples.now c.loop-sample.samples c.sample-item.result
    c.loop-sample.invariant.rest c.requires.range c.loop-sample-test.true c.number.ensures)

pub of_number-requires : goal.of_number-requires
of_number-requires g c =
    let low : c.number.result ≤ c.args.maxval =
    read_within g.W.Width.value c.args.maxval c.loop-sample.sample-index c.args.samples.now c.loop-sample.samples c.sample-item.result
    c.loop-sample.invariant.rest c.requires.range c.loop-sample-test.true c.number.ensures in
    omega (arith, c.change.ensures, c.requires.within c.number.result low, c.requires.most)

pub loop-sample-preserved : goal.loop-sample-preserved
loop-sample-preserved g c =
    let value = g.W.Width.value in
    changed_more c.of_number.result c.sample-item.result (omega arith) (omega arith)
    (c.of_number.ensures ∙ c.change.ensures ∙ ap (g.C.Change.changed c.args.change) c.number.ensures) c.loop-sample.invariant
