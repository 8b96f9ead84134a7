use Rattle.pnm_samples.proofs.Words.{◌≡◌, ◌∙◌, ℕ, replicate, ap, arith}
use Rattle.pnm_samples.proofs.RepeatLaws.{black_byte, white_byte}
use Rattle.pnm_samples.proofs.bits.stretch.plain_byte.Goals as goal

pub returns-then-pixel-eq0 : goal.returns-then-pixel-eq0
returns-then-pixel-eq0 c =
    let black : 0 ≡ c.args.pixel = omega arith in
    black_byte ∙ ap (λ (s : ℕ). replicate 8 s) black

pub returns-else-pixel-eq0 : goal.returns-else-pixel-eq0
returns-else-pixel-eq0 c =
    let white : 1 ≡ c.args.pixel = omega arith in
    white_byte ∙ ap (λ (s : ℕ). replicate 8 s) white
