use Rattle.pnm_samples.proofs.Words.{◌<◌, ◌∙◌, ℕ, List, sym, length, get_or, ap, arith, get_or-take, all_pixels}
use Rattle.pnm_samples.proofs.PixelRowLaws.{length_of_packed}
use Rattle.pnm_samples.proofs.bits.Bits.pixel.Goals as goal

pub pixel_of-requires : goal.pixel_of-requires
pixel_of-requires c =
    let bytes = c.self.inside.bytes.items in
    omega (
      arith,
      length_of_packed c.self.inside.count bytes c.self.invariant,
      ap length c.self.view_is,
      c.self.invariant.enough,
      ap length c.as_slice.ensures.value,
    )

pub returns : goal.returns
returns c =
    let bytes = c.self.inside.bytes.items in
    let lt : c.args.at < c.self.inside.count = omega (arith, length_of_packed c.self.inside.count bytes c.self.invariant, ap length c.self.view_is) in
    c.pixel_of.ensures ∙ ap (λ (l : List ℕ). get_or (all_pixels l) c.args.at 0) c.as_slice.ensures.value
    ∙ sym (get_or-take c.self.inside.count (all_pixels bytes) c.args.at 0 lt) ∙ ap (λ (l : List ℕ). get_or l c.args.at 0) c.self.view_is
