use Rattle.pnm_read.proofs.Words.{rules, arith, ◌∙◌}
use Rattle.pnm_read.proofs.FeedSteps.{feeding_first, feeding_more, feeding_ends_with, feeding_ends_before, feeding_fails, feeding_all}
use Rattle.pnm_read.proofs.scan.feed.Goals as goal

pub loop-taken-init : goal.loop-taken-init
loop-taken-init g c = feeding_first g.S.Scanner.item g.S.Scanner.at_end g.S.Scanner.is_after g.S.Scanner.remaining c.args.scanner.now c.args.bytes.now

pub returns-in-EndsWith-clause-fed : goal.returns-in-EndsWith-clause-fed
returns-in-EndsWith-clause-fed g c before a =
    feeding_ends_with g.S.Scanner.is_whole c.take.new.self before c.loop-taken.invariant (omega arith) c.in-EndsWith.is c.take.ensures.judged a

pub returns-in-EndsWith-clause-same_items : goal.returns-in-EndsWith-clause-same_items
returns-in-EndsWith-clause-same_items g c = c.take.ensures.same_items ∙ c.loop-taken.invariant.same_items

pub returns-in-EndsWith-clause-same_end : goal.returns-in-EndsWith-clause-same_end
returns-in-EndsWith-clause-same_end g c = c.take.ensures.same_end ∙ c.loop-taken.invariant.same_end

pub returns-in-EndsBefore-clause-fed : goal.returns-in-EndsBefore-clause-fed
returns-in-EndsBefore-clause-fed g c before a =
    feeding_ends_before g.S.Scanner.is_whole c.take.new.self before c.loop-taken.invariant (omega arith) c.in-EndsBefore.is c.take.ensures.judged a

pub returns-in-EndsBefore-clause-same_items : goal.returns-in-EndsBefore-clause-same_items
returns-in-EndsBefore-clause-same_items g c = c.take.ensures.same_items ∙ c.loop-taken.invariant.same_items

pub returns-in-EndsBefore-clause-same_end : goal.returns-in-EndsBefore-clause-same_end
returns-in-EndsBefore-clause-same_end g c = c.take.ensures.same_end ∙ c.loop-taken.invariant.same_end

pub returns-in-Fails-clause-fed : goal.returns-in-Fails-clause-fed
returns-in-Fails-clause-fed g c before a =
    feeding_fails g.S.Scanner.is_whole c.take.new.self before c.loop-taken.invariant (omega arith) c.in-Fails.is c.take.ensures.judged a

pub returns-in-Fails-clause-same_items : goal.returns-in-Fails-clause-same_items
returns-in-Fails-clause-same_items g c = c.take.ensures.same_items ∙ c.loop-taken.invariant.same_items

pub returns-in-Fails-clause-same_end : goal.returns-in-Fails-clause-same_end
returns-in-Fails-clause-same_end g c = c.take.ensures.same_end ∙ c.loop-taken.invariant.same_end

pub loop-taken-preserved : goal.loop-taken-preserved
loop-taken-preserved g c =
    feeding_more g.S.Scanner.item g.S.Scanner.at_end g.S.Scanner.is_after g.S.Scanner.is_whole g.S.Scanner.remaining c.args.scanner.now c.loop-taken.scanner
    c.take.new.self c.args.bytes.now c.loop-taken.taken c.take.result
    c.loop-taken.invariant (omega arith) c.in-GoesOn.is c.take.ensures.judged c.take.ensures.same_items c.take.ensures.same_end
    (c.take.ensures.remaining c.in-GoesOn.is)

pub returns-clause-fed : goal.returns-clause-fed
returns-clause-fed g c before a = feeding_all g.S.Scanner.is_whole before c.loop-taken.invariant (search rules) a

pub returns-clause-same_items : goal.returns-clause-same_items
returns-clause-same_items g c = c.loop-taken.invariant.same_items

pub returns-clause-same_end : goal.returns-clause-same_end
returns-clause-same_end g c = c.loop-taken.invariant.same_end

pub returns-clause-remaining : goal.returns-clause-remaining
returns-clause-remaining g c = let less = c.loop-taken.invariant.less_remaining in omega arith
