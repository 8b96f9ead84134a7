use Rattle.pnm_transpose.proofs.Words.{◌+◌, ◌∙◌, [], get_or, take, arith, take_more, row_lists, strip_lists}
use Rattle.pnm_transpose.proofs.StripLaws.{row_more}
use Rattle.pnm_transpose.proofs.sample_rows.SampleRows.push_each.Goals as goal

pub loop-at-preserved : goal.loop-at-preserved
loop-at-preserved c =
    let rows = c.args.rows.now in
    let at = c.loop-at.at in
    let held = c.loop-at.self in
    let pushed = c.push.new.self in
    let filled = c.fill_strip.new.self in
    record {
      sample_width = c.fill_strip.ensures.sample_width ∙ c.push.ensures.sample_width ∙ c.loop-at.invariant.sample_width;
      kept = row_more c.args.last_first c.args.shape.width c.args.shape.depth (strip_lists c.args.self.now) (row_lists c.args.self.now) (take at rows)
          (take (at + 1) rows) (strip_lists held) (row_lists held) (strip_lists pushed) (row_lists pushed) (strip_lists filled) (row_lists filled)
          (get_or rows at []) c.loop-at.invariant.kept (take_more rows at [] (omega arith)) c.push.ensures.strips c.in_ok-push.ensures.added
          c.in_ok-fill_strip.ensures.kept;
    }
