use Rattle.pnm_read.proofs.Words.{◌≡◌, true, take, get_or, arith, rules, sym, subst, AllPass, take_more, All-push, is_white}
use Rattle.pnm_read.proofs.leading.white_first.Goals as goal

pub loop-at-preserved : goal.loop-at-preserved
loop-at-preserved c =
    subst (AllPass is_white) (sym (take_more c.args.bytes.now c.loop-at.at 0 (omega arith)))
    (All-push (λ x. is_white x ≡ true) (take c.loop-at.at c.args.bytes.now) (get_or c.args.bytes.now c.loop-at.at 0) c.loop-at.invariant (search rules))
