use Rattle.pnm_samples.proofs.Words.{◌≡◌, ◌∙◌, ap, subst, arith, common_steps, flat_map, packed_bytes, AreBytes}
use Rattle.pnm_samples.proofs.BitRowLaws.{bytes_of_rows}
use Rattle.pnm_samples.proofs.bit_rows.BitRows.into_bytes.Goals as goal

pub returns : goal.returns
returns c =
    let x = c.self.inside in
    let same : c.bytes_of.result.now ≡ x.bytes.items = grind (arith, common_steps) in
    bytes_of_rows x.count x.bytes.items c.self.invariant (subst AreBytes same c.bytes_of.ensures.fit)
    ∙ ap (flat_map packed_bytes) c.self.view_is
