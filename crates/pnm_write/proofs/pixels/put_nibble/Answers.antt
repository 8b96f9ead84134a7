use Rattle.pnm_write.proofs.Words.{◌+◌, ◌++◌, ◌∙◌, List, ℕ, take, ap, arith, take_all, length-drop}
use Rattle.pnm_write.proofs.PixelLaws.{nibble_is_put}
use Rattle.pnm_write.proofs.pixels.put_nibble.Goals as goal

pub returns : goal.returns
returns c =
    let cells = c.nibble-cells.result.now in
    nibble_is_put c.args.buffer.now c.put_four.new.buffer c.put_four-2.new.buffer c.args.at c.args.bits c.nibble-cells.ensures c.put_four.ensures
    (c.put_four-2.ensures ∙ ap (λ (l : List ℕ). take (c.args.at + 4) c.put_four.new.buffer ++ take 4 l) (take_all _ _ (omega (arith, length-drop 4 cells))))
