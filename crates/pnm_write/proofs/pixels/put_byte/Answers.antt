use Rattle.pnm_write.proofs.Words.{◌++◌, ◌∙◌, ℕ, take, ap, arith, pixels, cells}
use Rattle.pnm_write.proofs.PixelLaws.{byte_is_put}
use Rattle.pnm_write.proofs.pixels.put_byte.Goals as goal

pub returns : goal.returns
returns c =
    byte_is_put c.args.buffer.now c.put_nibble.new.buffer c.put_nibble-2.new.buffer c.args.at c.from-bits.result (omega arith) c.put_nibble.ensures
    c.put_nibble-2.ensures
    ∙ ap (λ (b : ℕ). take c.args.at c.args.buffer.now ++ cells (pixels b)) c.from-bits.ensures
