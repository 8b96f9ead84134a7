use Rattle.pnm_samples.proofs.Words.{◌≡◌, ◌+◌, ◌-◌, ◌*◌, ◌++◌, ◌∙◌, ℕ, List, length, replicate, sym, ap, subst, refl, arith, with_items, common_steps, take_all}
use Rattle.pnm_samples.proofs.Words.{length-drop, put_mid, AreStretched, stride}
use Rattle.pnm_samples.proofs.StretchLaws.{half_more}
use Rattle.pnm_samples.proofs.bits.stretch.stretched_halves.Goals as goal

pub loop-half-preserved : goal.loop-half-preserved
loop-half-preserved c =
    let times = c.args.times in let v = c.loop-half.half in let at = v * c.stride_of-stride.result in
    let before = c.loop-half.bytes.items in let grown = c.as_mut_slice.result.now in let part = c.stretch.new.buffer in
    let stored = put_mid at (length grown - at) grown part in
    let held : c.stride_of-stride.result ≡ stride times = c.stride_of-stride.ensures.whole in
    let is : at ≡ v * stride times = ap (λ (k : ℕ). v * k) held in
    let long : length before ≡ at = c.loop-half.invariant.1 ∙ sym is in
    let rest = replicate (at + c.stride_of-stride.result - c.loop-half.bytes.len) 0 in
    let more : grown ≡ before ++ rest = c.as_mut_slice.ensures.value ∙ c.in_ok-resize.ensures.items
    ∙ ap (λ (l : List ℕ). l ++ rest) (take_all (at + c.stride_of-stride.result) before (omega arith)) in
    let size : length part ≡ stride times =
    omega (arith, c.stretch.auto.buffer, length-drop at grown, ap length c.as_mut_slice.ensures.value, c.in_ok-resize.ensures.len) in
    let last : (with_items c.resize.new.self stored).items ≡ stored = grind (arith, common_steps) in
    let next = half_more part rest c.loop-half.invariant.0 long is more refl size c.stretch.ensures in
    (subst (AreStretched times c.args.unit (v + 1)) (sym last) next.0, ap length last ∙ next.1)
