use Rattle.pnm_samples.proofs.Words.{◌≡◌, ◌+◌, ◌-◌, ◌*◌, ◌++◌, ◌∙◌, ℕ, List, length, take, replicate, sym, ap, ap₂, subst, arith, take_all, common_steps}
use Rattle.pnm_samples.proofs.Words.{with_items, all_pixels, ArePacked}
use Rattle.pnm_samples.proofs.PixelLaws.{length-all_pixels}
use Rattle.pnm_samples.proofs.PixelRowLaws.{appended_view}
use Rattle.pnm_samples.proofs.bits.Bits.append_pixels.Goals as goal

pub overflow_add-held : goal.overflow_add-held
overflow_add-held c = omega arith

pub place_run-requires-clause-fits : goal.place_run-requires-clause-fits
place_run-requires-clause-fits c = omega arith

pub overflow_add-held-2 : goal.overflow_add-held-2
overflow_add-held-2 c = omega arith

pub overflow_add-self : goal.overflow_add-self
overflow_add-self c = omega arith

pub returns-clause-appended : goal.returns-clause-appended
returns-clause-appended c =
    let count = c.self.inside.count + c.args.count in
    let bytes = c.self.inside.bytes.items in
    let more = c.div_ceil.result - length bytes in
    let size : c.self.inside.bytes.len ≡ length bytes = c.self.inside.bytes.ok.0 in
    let grown : c.as_mut_slice.result.now ≡ bytes ++ replicate more 0 =
    c.as_mut_slice.ensures.value ∙ c.in_ok-resize.ensures.items ∙ ap₂ (λ (l : List ℕ) (k : ℕ). l ++ replicate (c.div_ceil.result - k) 0)
    (take_all c.div_ceil.result bytes (omega (arith, c.self.invariant.enough))) size in
    let last : (with_items (with_items c.resize.new.self c.place_run.new.buffer) c.clear_spare.new.bytes).items ≡ c.clear_spare.new.bytes =
    grind (arith, common_steps) in
    let placed : c.as_mut_slice-2.result.now ≡ c.place_run.new.buffer = grind (arith, common_steps) in
    ap (λ l. take count (all_pixels l)) last
    ∙ appended_view c.self.inside.count c.args.start c.args.count (8 * length c.args.from.now) bytes c.place_run.new.buffer
    c.clear_spare.new.bytes c.args.from.now (c.clear_spare.ensures.kept ∙ ap (λ l. take count (all_pixels l)) placed) c.place_run.ensures
    (replicate more 0) grown (omega (arith, c.self.invariant.enough)) c.self.view_is c.requires
    (take_all (8 * length c.args.from.now) (all_pixels c.args.from.now) (omega (arith, length-all_pixels c.args.from.now)))

pub invariant_of-self-2 : goal.invariant_of-self-2
invariant_of-self-2 c =
    let last : (with_items (with_items c.resize.new.self c.place_run.new.buffer) c.clear_spare.new.bytes).items ≡ c.clear_spare.new.bytes =
    grind (arith, common_steps) in
    subst (ArePacked (c.self.inside.count + c.args.count)) (sym last) c.clear_spare.ensures.spare
