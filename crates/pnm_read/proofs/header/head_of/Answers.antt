use Rattle.pnm_read.proofs.HeadSteps.{numbers_given, shape_of_two, shape_of_three}
use Rattle.pnm_read.proofs.header.head_of.Goals as goal
use Rattle.pnm_read.proofs.header.head_of.Goals.{in-Bit, in-Gray}

pub returns : goal.returns
returns c = λ found is. elim c.match-kind.branch [
  | in-Bit w ↦
      numbers_given c.args.kind found c.new.result c.map_err.result (shape_of_two c.args.kind w.in-Bit.is w.width-is c.planes.ensures is)
      c.new.ensures.made c.new.ensures.sound c.new.ensures.refused c.map_err.ensures.cases
  | in-Gray w ↦
      numbers_given c.args.kind found c.new.result c.map_err.result (shape_of_three c.args.kind w.in-Gray.is w.width-is c.planes.ensures is)
      c.new.ensures.made c.new.ensures.sound c.new.ensures.refused c.map_err.ensures.cases
]
