use Rattle.std.proofs.Common.{◌≡◌, ◌*◌, ◌∙◌, ℕ, List, All, length, ap, sym, subst, arith}
use Rattle.pnm_samples.specs.PixelRows.{bytes_for}
use Rattle.pnm_samples.proofs.PixelRowsLaws.{length_of_rows}
use Rattle.pnm_image.specs.HeldRows.{AreRowsWithin}
use Rattle.pnm_image.proofs.HeldRowLaws.{length_of_bits}
use Rattle.pnm_test_support.proofs.HeldRows.{bits_within}
use Rattle.pnm_test_support.proofs.together.rows_of_bits.Goals as goal

pub returns-clause-many : goal.returns-clause-many
returns-clause-many c =
    ap (λ (l : List (List ℕ)). length l) c.new.ensures ∙ length_of_rows c.args.count c.args.row_length c.loop-row.bytes.items

pub returns-clause-each : goal.returns-clause-each
returns-clause-each c =
    let each = c.args.row_length in
    let all : c.loop-row.row ≡ c.args.count = omega arith in
    let size : length c.loop-row.bytes.items ≡ c.args.count * bytes_for each = c.loop-row.invariant ∙ ap (λ (n : ℕ). n * bytes_for each) all in
    subst (λ (l : List (List ℕ)). All (λ (row : List ℕ). length row ≡ each) l) (sym c.new.ensures)
    (length_of_bits c.args.count each c.loop-row.bytes.items size)

pub returns-clause-within : goal.returns-clause-within
returns-clause-within c =
    subst (AreRowsWithin 1) (sym c.new.ensures) (bits_within c.args.count c.args.row_length c.loop-row.bytes.items)
