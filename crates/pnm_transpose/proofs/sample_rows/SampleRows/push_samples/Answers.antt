use Rattle.pnm_transpose.proofs.Words.{[], ◌∷◌, ◌++◌, ◌∙◌, ap, refl, List, ℕ, err_from_is_err_and}
use Rattle.pnm_transpose.proofs.sample_rows.SampleRows.push_samples.Goals as goal

pub into_bits-requires : goal.into_bits-requires
into_bits-requires c = rw c.in-Bits.is at c.requires

pub into_bytes-requires : goal.into_bytes-requires
into_bytes-requires c = rw c.in-Bytes.is at c.requires

pub returns-in_err-into_bits-in-Bits : goal.returns-in_err-into_bits-in-Bits
returns-in_err-into_bits-in-Bits c =
    let p = err_from_is_err_and c.from_residual.result c.from_residual.ensures.1 in
    rw (c.in-Bits.is, p.1) (record { sample_width = refl; strips = refl; added = tt; refused = p.2 })

pub returns-in_err-push-in-Bits : goal.returns-in_err-push-in-Bits
returns-in_err-push-in-Bits c =
    let p = err_from_is_err_and c.from_residual-in_err-push-in-Bits.result c.from_residual-in_err-push-in-Bits.ensures.1 in
    rw (c.in-Bits.is, p.1) (record { sample_width = refl; strips = refl; added = tt; refused = p.2 })

pub returns-in_ok-push-in-Bits : goal.returns-in_ok-push-in-Bits
returns-in_ok-push-in-Bits c =
    let added = c.in_ok-push-in-Bits.ensures.added ∙ ap (λ (row : List ℕ). c.in-Bits.rows ++ row ∷ []) c.in_ok-into_bits-in-Bits.ensures in
    rw c.in-Bits.is (record { sample_width = refl; strips = refl; added = added; refused = tt })

pub returns-in_err-into_bytes-in-Bytes : goal.returns-in_err-into_bytes-in-Bytes
returns-in_err-into_bytes-in-Bytes c =
    let p = err_from_is_err_and c.from_residual-in_err-into_bytes-in-Bytes.result c.from_residual-in_err-into_bytes-in-Bytes.ensures.1 in
    rw (c.in-Bytes.is, p.1) (record { sample_width = refl; strips = refl; added = tt; refused = p.2 })

pub returns-in_err-push-in-Bytes : goal.returns-in_err-push-in-Bytes
returns-in_err-push-in-Bytes c =
    let p = err_from_is_err_and c.from_residual-in_err-push-in-Bytes.result c.from_residual-in_err-push-in-Bytes.ensures.1 in
    rw (c.in-Bytes.is, p.1) (record { sample_width = refl; strips = refl; added = tt; refused = p.2 })

pub returns-in_err-into_words-in-Words : goal.returns-in_err-into_words-in-Words
returns-in_err-into_words-in-Words c =
    let p = err_from_is_err_and c.from_residual-in_err-into_words-in-Words.result c.from_residual-in_err-into_words-in-Words.ensures.1 in
    rw (c.in-Words.is, p.1) (record { sample_width = refl; strips = refl; added = tt; refused = p.2 })

pub returns-in_err-push-in-Words : goal.returns-in_err-push-in-Words
returns-in_err-push-in-Words c =
    let p = err_from_is_err_and c.from_residual-in_err-push-in-Words.result c.from_residual-in_err-push-in-Words.ensures.1 in
    rw (c.in-Words.is, p.1) (record { sample_width = refl; strips = refl; added = tt; refused = p.2 })
