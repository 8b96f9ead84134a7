use Rattle.pnm_repeat_tools.proofs.Words.{rules}
use Rattle.pnm_repeat_tools.proofs.WaitingLaws.{alone_given, together_given}
use Rattle.pnm_repeat_tools.proofs.enlarge.EnlargerImageTool.give.Goals as goal

pub returns-then-count-gt0-clause-due : goal.returns-then-count-gt0-clause-due
returns-then-count-gt0-clause-due c =
    together_given c.args.self.now.waiting c.in_ok-enlarged.rest c.in-Some.waiting c.count_together-count.result (search rules) c.down-down.ensures.down
    c.in_ok-enlarged.ensures.made c.in_ok-enlarged.ensures.rest
    c.once.ensures

pub returns-clause-due : goal.returns-clause-due
returns-clause-due c =
    alone_given c.args.self.now.waiting c.in_ok-row.rest c.in-Some.waiting (search rules)
    (search rules) c.down-down.ensures.down c.in_ok-row.ensures.made c.in_ok-row.ensures.rest c.new.ensures
