use Rattle.pnm_samples.proofs.Words.{◌≡◌, ◌*◌, ◌∙◌, min, length, take, sym, ap, subst, arith, common_steps, with_items, all_pixels, ArePacked}
use Rattle.pnm_samples.proofs.PixelRowLaws.{prefix_of_bytes}
use Rattle.pnm_samples.proofs.bits.Bits.new.Goals as goal

pub returns : goal.returns
returns c =
    let kept = c.min-count.result in
    let last : (with_items c.truncate.new.self c.clear_spare.new.bytes).items ≡ c.clear_spare.new.bytes = grind (arith, common_steps) in
    let size : kept ≡ min c.args.count (8 * length c.args.bytes.items) =
    omega (arith, c.args.bytes.ok.0, c.len.ensures, c.saturating_mul.ensures, c.min-count.ensures) in
    ap (λ l. take kept (all_pixels l)) last
    ∙ prefix_of_bytes c.args.bytes.items c.clear_spare.new.bytes c.args.count c.div_ceil.result size (omega (arith, c.div_ceil.ensures))
    (c.clear_spare.ensures.kept ∙ ap (λ l. take kept (all_pixels l)) (c.as_mut_slice.ensures.value ∙ c.truncate.ensures.items))

pub invariant_of-result : goal.invariant_of-result
invariant_of-result c =
    let last : (with_items c.truncate.new.self c.clear_spare.new.bytes).items ≡ c.clear_spare.new.bytes = grind (arith, common_steps) in
    subst (ArePacked c.min-count.result) (sym last) c.clear_spare.ensures.spare
