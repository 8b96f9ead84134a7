use Rattle.pnm_samples.proofs.Words.{◌≡◌, ◌-◌, ◌/◌, ◌^◌, ℕ, ap, ◌∙◌, arith, bit_and, pow_pos, ones_shr, pixels}
use Rattle.pnm_samples.proofs.PixelLaws.{whitened_pixels}
use Rattle.pnm_samples.proofs.bits.whiten_spare.Goals as goal

pub returns : goal.returns
returns c =
    let mask : 255 - 255 / 2 ^ c.args.kept ≡ 2 ^ 8 - 2 ^ (8 - c.args.kept) = omega (arith, ones_shr 8 c.args.kept (omega arith), pow_pos (8 - c.args.kept)) in
    ap (λ (m : ℕ). pixels (bit_and c.args.byte m)) mask ∙ whitened_pixels c.args.byte c.args.kept (omega arith) c.requires
