use Rattle.pnm_samples.proofs.Words.{ℕ, length, ap, sym, arith, ◌≡◌, ◌∙◌, subst, common_steps, ArePacked, AreBytes}
use Rattle.pnm_samples.proofs.PackedBytes.{packed_view}
use Rattle.pnm_samples.proofs.PixelRowLaws.{length_of_packed}
use Rattle.pnm_samples.proofs.bits.Bits.as_bytes.Goals as goal

pub returns-clause-bytes : goal.returns-clause-bytes
returns-clause-bytes c =
    let same : c.bytes_of.result.now ≡ c.self.inside.bytes.items = grind (arith, common_steps) in
    let fit : AreBytes c.self.inside.bytes.items = subst AreBytes same c.bytes_of.ensures.fit in
    same ∙ packed_view c.self.inside.count c.self.inside.bytes.items c.args.self.now c.self.invariant fit c.self.view_is

pub returns-clause-count : goal.returns-clause-count
returns-clause-count c =
    let same : c.bytes_of.result.now ≡ c.self.inside.bytes.items = grind (arith, common_steps) in
    let bytes = c.self.inside.bytes.items in
    omega (arith, ap length same, c.self.invariant.enough, length_of_packed c.self.inside.count bytes c.self.invariant, ap length c.self.view_is)

pub returns-clause-packed : goal.returns-clause-packed
returns-clause-packed c =
    let bytes = c.self.inside.bytes.items in
    let same : c.bytes_of.result.now ≡ bytes = grind (arith, common_steps) in
    let many : length c.args.self.now ≡ c.self.inside.count = ap length (sym c.self.view_is) ∙ length_of_packed c.self.inside.count bytes c.self.invariant in
    subst (λ (n : ℕ). ArePacked n c.bytes_of.result.now) (sym many) (subst (ArePacked c.self.inside.count) (sym same) c.self.invariant)
