use Rattle.pnm_write.proofs.Words.{arith, common_steps}
use Rattle.pnm_write.proofs.header.push_header.Goals as goal

pub returns-in-Pam : goal.returns-in-Pam
returns-in-Pam c = grind (arith, common_steps)

pub returns-in-Gray : goal.returns-in-Gray
returns-in-Gray c = grind (arith, common_steps)

pub push_fields-requires-clause-magic : goal.push_fields-requires-clause-magic
push_fields-requires-clause-magic c = grind (arith, common_steps)

pub returns-in-Bit : goal.returns-in-Bit
returns-in-Bit c = grind (arith, common_steps)
