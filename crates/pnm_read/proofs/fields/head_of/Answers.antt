use Rattle.pnm_read.proofs.Words.{inr}
use Rattle.pnm_read.proofs.PamShapes.{lines_missing, lines_given}
use Rattle.pnm_read.proofs.fields.head_of.Goals as goal

pub returns-in_default : goal.returns-in_default
returns-in_default c = λ lines is. inr (lines_missing c.shape.ensures c.in_default.is is)

pub returns : goal.returns
returns c = λ lines is. lines_given c.new.result c.map_err.result c.shape.ensures c.in-Some.is c.deref.ensures.value is
    c.new.ensures.made c.new.ensures.sound c.new.ensures.refused c.map_err.ensures.cases
