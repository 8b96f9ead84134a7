use Rattle.pnm_samples.proofs.Words.{◌+◌, ◌*◌, ◌-◌, ◌/◌, ◌%◌, ◌^◌, ℕ, ap₂, ◌∙◌, arith, pixels}
use Rattle.pnm_samples.proofs.PixelLaws.{window_pixels}
use Rattle.pnm_samples.proofs.bits.window.Goals as goal

pub returns : goal.returns
returns c =
    ap₂ (λ (high low : ℕ). pixels ((high * 256 + low) / 2 ^ (8 - c.args.skipped) % 256)) c.from.ensures c.from-2.ensures
    ∙ window_pixels c.args.high c.args.low c.args.skipped (omega arith) c.requires
