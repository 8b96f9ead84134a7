use Rattle.pnm_read.proofs.Words.{get_or, refl, sym, ap, ◌∷◌, ◌∙◌, List, ℕ, err_from_is_err_and}
use Rattle.pnm_read.proofs.HeldHeads.{after_first_byte, first_byte_is, no_bytes}
use Rattle.pnm_read.proofs.SizeSteps.{magic_of, nothing_held, letter_held, other_letter, no_format_named, size_is_told}
use Rattle.pnm_read.proofs.sizes.image_size.Goals as goal

pub returns-in_default : goal.returns-in_default
returns-in_default c = nothing_held c.args.is_first (no_bytes c.args.bytes.now c.in_default.len_below)

pub returns-then-letter-ne80 : goal.returns-then-letter-ne80
returns-then-letter-ne80 c = other_letter c.args.is_first (first_byte_is c.args.bytes.now c.in-len1-up.len_at_least refl) c.if-letter-ne80.true

pub returns-in_default-rest : goal.returns-in_default-rest
returns-in_default-rest c =
    letter_held c.args.is_first (first_byte_is c.args.bytes.now c.in-len1-up.len_at_least c.if-letter-ne80.false
    ∙ ap (λ (l : List ℕ). 80 ∷ l) (no_bytes (after_first_byte c.args.bytes.now) c.in_default-rest.len_below))

pub returns-in_err-format : goal.returns-in_err-format
returns-in_err-format c =
    let magic = magic_of c.args.bytes.now c.in-len1-up.len_at_least c.if-letter-ne80.false c.in-len1-up-rest.len_at_least in
    let p = err_from_is_err_and c.from_residual.result c.from_residual.ensures.1 in
    rw (p.1, p.2) (no_format_named c.args.is_first magic (sym c.in_err-format.ensures))

pub returns : goal.returns
returns c =
    let magic = magic_of c.args.bytes.now c.in-len1-up.len_at_least c.if-letter-ne80.false c.in-len1-up-rest.len_at_least in
    size_is_told c.args.is_first c.size_after.result magic (sym c.in_ok-format.ensures) c.size_after.ensures
