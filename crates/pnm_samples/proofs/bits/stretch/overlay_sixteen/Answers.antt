use Rattle.pnm_samples.proofs.Words.{◌≡◌, ◌∙◌, length, take, ap, ap₂, arith, bit_or, take_all, put_chunk_whole, length-zip2, zip2}
use Rattle.pnm_samples.proofs.bits.stretch.overlay_sixteen.Goals as goal

pub returns : goal.returns
returns c =
    let left : take 16 c.args.left.now ≡ c.args.left.now = take_all 16 c.args.left.now (omega arith) in
    let right : take 16 c.args.right.now ≡ c.args.right.now = take_all 16 c.args.right.now (omega arith) in
    let is : zip2 bit_or (take 16 c.args.left.now) (take 16 c.args.right.now) ≡ zip2 bit_or c.args.left.now c.args.right.now = ap₂ (zip2 bit_or) left right in
    let size : length c.args.buffer.now ≡ length (zip2 bit_or (take 16 c.args.left.now) (take 16 c.args.right.now)) =
    omega (arith, ap length is, length-zip2 bit_or c.args.left.now c.args.right.now (omega arith)) in
    put_chunk_whole c.args.buffer.now (zip2 bit_or (take 16 c.args.left.now) (take 16 c.args.right.now)) size ∙ is
