use Rattle.pnm_io_loop.proofs.Words.{inr}
use Rattle.pnm_io_loop.proofs.io_loop.take.Goals as goal

pub returns-then-not-is_over-clause-moved : goal.returns-then-not-is_over-clause-moved
returns-then-not-is_over-clause-moved g c = c.try_receive.ensures.goes_on

pub returns-then-not-is_over-clause-idle : goal.returns-then-not-is_over-clause-idle
returns-then-not-is_over-clause-idle g c = λ no. let none = c.try_receive.ensures.none no in (inr none.1, none.0)
