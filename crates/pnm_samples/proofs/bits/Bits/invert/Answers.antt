use Rattle.pnm_samples.proofs.Words.{◌∙◌, take, ap, arith, with_items_is, all_pixels}
use Rattle.pnm_samples.proofs.PixelRowLaws.{inverted_view}
use Rattle.pnm_samples.proofs.bits.Bits.invert.Goals as goal

pub invariant_of-self : goal.invariant_of-self
invariant_of-self c =
    rw (with_items_is c.self.inside.bytes c.clear_spare.new.bytes (omega arith)) c.clear_spare.ensures.spare

pub returns : goal.returns
returns c =
    ap (λ l. take c.self.inside.count (all_pixels l)) (with_items_is c.self.inside.bytes c.clear_spare.new.bytes (omega arith))
    ∙ inverted_view c.self.inside.count c.self.inside.bytes.items c.complement.new.bytes c.clear_spare.new.bytes c.clear_spare.ensures.kept
    (rw c.as_mut_slice-bytes.ensures.value at c.complement.ensures) c.self.view_is
