use Rattle.pnm_read.proofs.Words.{◌≡◌, ◌<◌, false, arith, common_steps, header_limit}
use Rattle.pnm_read.specs.Items.{header_item}
use Rattle.pnm_read.proofs.header.HeaderScanner.judge.Goals as goal

-- white space outside comments, in time
pub returns-then-self-clause-judged : goal.returns-then-self-clause-judged
unfolding header_item
returns-then-self-clause-judged c = λ before is.
    let _outside : c.args.self.now.in_comment ≡ false = assumption in
    let _in_time : c.args.self.now.length < header_limit = omega arith in grind (arith, common_steps)
