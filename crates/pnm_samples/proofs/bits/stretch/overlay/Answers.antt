use Rattle.pnm_samples.proofs.Words.{◌+◌, ◌-◌, ◌*◌, ◌≡◌, ◌∙◌, ℕ, take, sym, ap, ap₂, arith, bit_or, take_all, put_mid, zip2}
use Rattle.pnm_samples.proofs.StretchLaws.{overlaid_more}
use Rattle.pnm_samples.proofs.bits.stretch.overlay.Goals as goal

pub loop-i-preserved : goal.loop-i-preserved
loop-i-preserved c =
    let at = 16 * c.loop-i.i in let size = at + 16 - at in let buffer = c.loop-i.buffer in let new = c.overlay_sixteen-in-loop-i.new.buffer in
    let next : 16 * (c.loop-i.i + 1) ≡ at + size = omega arith in
    let both = overlaid_more at size buffer c.args.left.now c.args.right.now (omega arith) (omega arith) (omega arith) c.loop-i.invariant
    c.overlay_sixteen-in-loop-i.ensures in
    ap (λ (k : ℕ). take k (put_mid at size buffer new)) next ∙ both ∙ ap (λ (k : ℕ). zip2 bit_or (take k c.args.left.now) (take k c.args.right.now)) (sym next)

pub returns : goal.returns
returns c =
    let all = 16 * c.loop-i.i in
    sym (take_all all c.loop-i.buffer (omega arith)) ∙ c.loop-i.invariant
    ∙ ap₂ (zip2 bit_or) (take_all all c.args.left.now (omega arith)) (take_all all c.args.right.now (omega arith))
