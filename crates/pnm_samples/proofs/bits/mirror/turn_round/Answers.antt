use Rattle.pnm_samples.proofs.Words.{rules, ◌<◌, ◌∙◌, ℕ, length, get_or, set, map, ap, arith, w8, reverse_bits, get_or_default, map_over_more, all_pixels}
use Rattle.pnm_samples.proofs.Words.{AreBytes}
use Rattle.pnm_samples.proofs.MirrorLaws.{turned_round}
use Rattle.pnm_samples.proofs.PixelLaws.{all_mapped}
use Rattle.pnm_samples.proofs.bits.mirror.turn_round.Goals as goal

pub loop-byte-preserved : goal.loop-byte-preserved
loop-byte-preserved c =
    let s = c.loop-byte.bytes in
    let i = c.loop-byte.byte-index in
    let here : i < length s = omega arith in
    ap (λ (b : ℕ). set s i b) c.reverse_bits.ensures
    ∙ map_over_more (λ b. reverse_bits w8 b) c.reverse.new.self s i (get_or s i 0) c.loop-byte-test.true c.loop-byte.invariant
    (get_or_default s i 0 (get_or s i 0) here)

pub returns : goal.returns
returns c =
    let fit : AreBytes c.args.bytes.now = search rules in
    ap all_pixels (all_mapped (λ b. reverse_bits w8 b) c.reverse.new.self c.loop-byte.byte-index c.loop-byte-test.false c.loop-byte.invariant
    ∙ ap (map (λ b. reverse_bits w8 b)) c.reverse.ensures.after)
    ∙ turned_round c.args.bytes.now fit
