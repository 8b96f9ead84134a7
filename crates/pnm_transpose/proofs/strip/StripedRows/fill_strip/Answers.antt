use Rattle.pnm_transpose.proofs.Words.{arith}
use Rattle.pnm_transpose.proofs.StripLaws.{kept_so, ordered_reach, ordered_count}
use Rattle.pnm_transpose.proofs.strip.StripedRows.fill_strip.Goals as goal

pub returns-clause-kept : goal.returns-clause-kept
returns-clause-kept g c =
    kept_so c.args.last_first c.args.width c.args.depth c.args.self.now.strips.items c.args.self.now.rows c.order_rows.new.rows c.in_ok-strip.strip
    c.push.new.self.items c.clear.new.self
    (omega (arith, c.len.ensures)) c.requires.sizes c.order_rows.ensures c.in_ok-strip.ensures.made
    c.in_ok-push.ensures.items c.clear.ensures

pub strip_of-requires-clause-rows : goal.strip_of-requires-clause-rows
strip_of-requires-clause-rows g c =
    ordered_reach c.args.last_first c.args.width c.args.depth c.args.self.now.rows c.order_rows.new.rows
    c.order_rows.ensures c.requires.sizes.each_row

pub strip_of-requires-clause-count : goal.strip_of-requires-clause-count
strip_of-requires-clause-count g c =
    ordered_count c.args.last_first _ c.args.self.now.rows c.order_rows.new.rows c.order_rows.ensures
    (omega (arith, c.len.ensures))
