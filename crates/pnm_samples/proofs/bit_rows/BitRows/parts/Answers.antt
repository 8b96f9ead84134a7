use Rattle.pnm_samples.proofs.Words.{◌∙◌, ℕ, List, sym, ap, subst, flat_map, ArePackedRows, rows_of_bytes, packed_bytes}
use Rattle.pnm_samples.proofs.BitRowLaws.{bytes_of_rows}
use Rattle.pnm_samples.proofs.bit_rows.BitRows.parts.Goals as goal

pub returns-clause-bytes : goal.returns-clause-bytes
returns-clause-bytes c =
    let count = c.self.inside.count in
    let each = c.self.inside.each in
    let same = c.bytes_of.ensures.same ∙ c.as_slice.ensures.value in
    bytes_of_rows count c.bytes_of.result.now (subst (ArePackedRows count each) (sym same) c.self.invariant) c.bytes_of.ensures.fit
    ∙ ap (λ (l : List ℕ). flat_map packed_bytes (rows_of_bytes count each l)) same ∙ ap (flat_map packed_bytes) c.self.view_is
