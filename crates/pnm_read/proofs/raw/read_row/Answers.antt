use Rattle.pnm_read.proofs.Words.{ℕ, take, ap, ◌∙◌, err_from_is_err_and, all_pixels}
use Rattle.pnm_read.proofs.RawSteps.{row_found, row_fault}
use Rattle.pnm_read.proofs.raw.read_row.Goals as goal

pub returns-in_err-bytes-in-Bits : goal.returns-in_err-bytes-in-Bits
returns-in_err-bytes-in-Bits g c =
    let p = err_from_is_err_and c.from_residual.result c.from_residual.ensures.1 in
    rw (p.1, p.2) (row_fault (λ row. all_pixels row.items) c.args.shape c.in_err-bytes-in-Bits.ensures.found)

pub returns-in_err-bytes-in-Bytes : goal.returns-in_err-bytes-in-Bytes
returns-in_err-bytes-in-Bytes g c =
    let p = err_from_is_err_and c.from_residual-in_err-bytes-in-Bytes.result c.from_residual-in_err-bytes-in-Bytes.ensures.1 in
    rw (p.1, p.2) (row_fault (λ row. row.items) c.args.shape c.in_err-bytes-in-Bytes.ensures.found)

pub returns-in_err-words-in-Words : goal.returns-in_err-words-in-Words
returns-in_err-words-in-Words g c =
    let p = err_from_is_err_and c.from_residual-in_err-words-in-Words.result c.from_residual-in_err-words-in-Words.ensures.1 in
    rw (p.1, p.2) (row_fault (λ row. row.items) c.args.shape c.in_err-words-in-Words.ensures.found)

pub returns-in_ok-bytes-in-Bits : goal.returns-in_ok-bytes-in-Bits
returns-in_ok-bytes-in-Bits g c =
    row_found (λ row. all_pixels row.items) c.args.shape
    (c.from_vec.ensures ∙ c.new-bits.ensures ∙ ap (λ (n : ℕ). take n (all_pixels c.in_ok-bytes-in-Bits.bytes.items)) c.row_length-length.ensures)
    c.in_ok-bytes-in-Bits.ensures.found

pub returns-in_ok-bytes-in-Bytes : goal.returns-in_ok-bytes-in-Bytes
returns-in_ok-bytes-in-Bytes g c =
    row_found (λ row. row.items) c.args.shape
    (c.within.ensures ∙ c.truncate.ensures.items ∙ ap (λ (n : ℕ). take n c.in_ok-bytes-in-Bytes.bytes.items) c.row_length-length.ensures)
    c.in_ok-bytes-in-Bytes.ensures.found

pub returns-in_ok-words-in-Words : goal.returns-in_ok-words-in-Words
returns-in_ok-words-in-Words g c =
    row_found (λ row. row.items) c.args.shape
    (c.within-in-Words.ensures ∙ c.truncate-in-Words.ensures.items ∙ ap (λ (n : ℕ). take n c.in_ok-words-in-Words.words.items) c.row_length-length.ensures)
    c.in_ok-words-in-Words.ensures.found
