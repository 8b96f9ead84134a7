use Rattle.pnm_samples.proofs.Words.{rules, ◌-◌, ◌<◌, ◌∙◌, length, get_or, ap, arith, get_or_default, map_over_more, all_pixels, AreBytes}
use Rattle.pnm_samples.proofs.PixelLaws.{all_mapped, complement_pixels}
use Rattle.pnm_samples.proofs.bits.complement.Goals as goal

pub loop-byte-preserved : goal.loop-byte-preserved
loop-byte-preserved c =
    let s = c.loop-byte.bytes in
    let i = c.loop-byte.byte-index in
    let here : i < length s = omega arith in
    map_over_more (λ b. 255 - b) c.args.bytes.now s i (get_or s i 0) c.loop-byte-test.true c.loop-byte.invariant (get_or_default s i 0 (get_or s i 0) here)

pub returns : goal.returns
returns c =
    let fit : AreBytes c.args.bytes.now = search rules in
    ap all_pixels (all_mapped (λ b. 255 - b) c.args.bytes.now c.loop-byte.byte-index c.loop-byte-test.false c.loop-byte.invariant)
    ∙ complement_pixels c.args.bytes.now fit
