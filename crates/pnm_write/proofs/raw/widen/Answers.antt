use Rattle.pnm_write.proofs.Words.{◌≡◌, ℕ, ◌/◌, ◌%◌, get_or, [], ◌∷◌, ap, ◌∙◌, arith}
use Rattle.pnm_write.proofs.RawLaws.{wide_more}
use Rattle.pnm_write.proofs.raw.widen.Goals as goal

pub loop-i-preserved : goal.loop-i-preserved
loop-i-preserved c =
    let sample = get_or c.args.samples.now c.loop-i.i 0 in
    let high : sample / 256 % 256 ≡ sample / 256 = omega (arith, c.type_inv.samples c.loop-i.i) in
    wide_more c.args.samples.now c.loop-i.buffer c.loop-i.i _ c.loop-i.invariant (omega arith) (omega arith)
    (c.copy_from_slice.ensures.after ∙ c.to_be_bytes.ensures ∙ ap (λ (n : ℕ). n ∷ sample % 256 ∷ []) high)
