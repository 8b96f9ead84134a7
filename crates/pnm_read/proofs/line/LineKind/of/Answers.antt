use Rattle.pnm_read.proofs.Words.{◌≡◌, ◌<◌, ◌==◌, false, get_or, length, rules, arith, common_steps}
use Rattle.pnm_read.proofs.LineNames.{tried_after, tried_last, kind_named}
use Rattle.pnm_read.proofs.line.LineKind.of.Goals as goal

pub returns : goal.returns
returns c =
    let some : 0 < length c.args.token.now = grind (arith, common_steps, c.is_empty.ensures, c.if-is_empty.false, c.if-is_empty.ensures) in
    let plain : get_or c.args.token.now 0 0 == 35 ≡ false = search rules in
    rw (
      c.unwrap_or.ensures,
      c.or-5.ensures,
      c.or-4.ensures,
      c.or-3.ensures,
      c.or-2.ensures,
      c.or.ensures,
      c.spelled.ensures,
      c.spelled-2.ensures,
      c.spelled-3.ensures,
      c.spelled-4.ensures,
      c.spelled-5.ensures,
      c.spelled-6.ensures,
    )
    (rw (kind_named c.args.token.now some plain) (simp (tried_after, tried_last)))
