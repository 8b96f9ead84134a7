use Rattle.std.proofs.Common.{length}
use Rattle.pnm_flow_tests.proofs.tests.chains.+are_lawful.Given as goal

abbrev pub decreases-are_lawful : goal.decreases-are_lawful
decreases-are_lawful l = length l.tools.now
