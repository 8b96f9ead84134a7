use Rattle.pnm_samples.proofs.Words.{arith, ◌≡◌, ◌∙◌, ℕ, ap, length, subst, sym, take, common_steps, all_pixels, ArePacked, AreBytes}
use Rattle.pnm_samples.proofs.PackedBytes.{packed_view}
use Rattle.pnm_samples.proofs.PixelRowLaws.{length_of_packed}
use Rattle.pnm_samples.proofs.bits.Bits.into_bytes.Goals as goal

pub returns-clause-bytes : goal.returns-clause-bytes
returns-clause-bytes c =
    let same : c.bytes_of.result.now ≡ c.self.inside.bytes.items = grind (arith, common_steps) in
    let fit : AreBytes c.self.inside.bytes.items = subst AreBytes same c.bytes_of.ensures.fit in
    packed_view c.self.inside.count c.self.inside.bytes.items c.args.self c.self.invariant fit c.self.view_is

pub returns-clause-packed : goal.returns-clause-packed
returns-clause-packed c =
    let bytes = c.self.inside.bytes.items in
    let count : c.self.inside.count ≡ length c.args.self = sym (length_of_packed c.self.inside.count bytes c.self.invariant) ∙ ap length c.self.view_is in
    subst (λ (k : ℕ). ArePacked k bytes) count c.self.invariant

pub returns-clause-pixels : goal.returns-clause-pixels
returns-clause-pixels c =
    let bytes = c.self.inside.bytes.items in
    let count : c.self.inside.count ≡ length c.args.self = sym (length_of_packed c.self.inside.count bytes c.self.invariant) ∙ ap length c.self.view_is in
    sym c.self.view_is ∙ ap (λ (k : ℕ). take k (all_pixels bytes)) count
