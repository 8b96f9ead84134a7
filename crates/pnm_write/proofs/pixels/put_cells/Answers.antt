use Rattle.pnm_write.proofs.Words.{refl, arith}
use Rattle.pnm_write.proofs.PixelLaws.{cells_more}
use Rattle.pnm_write.proofs.pixels.put_cells.Goals as goal

pub loop-i-preserved : goal.loop-i-preserved
loop-i-preserved c = cells_more c.loop-i.buffer c.put_byte.new.buffer c.args.bytes.now c.loop-i.i (omega arith) refl c.loop-i.invariant c.put_byte.ensures
