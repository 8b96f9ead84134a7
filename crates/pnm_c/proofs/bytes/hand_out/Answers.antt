use Rattle.std.proofs.Common.{inr, arith, rules}
use Rattle.pnm_c.proofs.bytes.hand_out.Goals as goal

pub returns : goal.returns
returns c = inr (search rules, grind (arith, c.len.ensures, c.as_mut_ptr.ensures))
