use Rattle.std.proofs.Common.{◌≡◌, ℕ, ◌+◌, ◌*◌, length, List, ◌++◌, ap, All, ◌∙◌, arith}
use Rattle.pnm_samples.specs.PixelRows.{bytes_for, rows_of_bytes}
use Rattle.pnm_samples.proofs.PixelRowsLaws.{length_of_rows}
use Rattle.pnm_image.proofs.HeldRowLaws.{length_of_bits}
use Rattle.pnm_format_cases.proofs.samples.pixels.columns_of.Goals as goal

pub columns-requires-clause-rows : goal.columns-requires-clause-rows
columns-requires-clause-rows c =
    let width : ℕ = 8 * c.args.byte + c.args.count in
    let bytes = c.in_ok-bytes.bytes.items in
    let rows : List (List ℕ) = rows_of_bytes c.args.height width bytes in
    let size : c.div_ceil.result ≡ bytes_for width = omega (arith, c.div_ceil.ensures) in
    let whole : length bytes ≡ c.args.height * bytes_for width =
    omega (arith, c.if-len-height.false, c.len.ensures, ap (λ (n : ℕ). c.args.height * n) size) in
    let long : All (λ row. length row ≡ width) rows = length_of_bits c.args.height width bytes whole in
    let is : c.push_rows.new.self ≡ rows =
    c.in_ok-push_rows.ensures.added ∙ ap (λ (l : List (List ℕ)). l ++ c.new-image.result) c.new-rows.ensures ∙ c.new-image.ensures in
    rw is (λ k d h. omega (arith, long k d h))

pub columns-requires-clause-fits : goal.columns-requires-clause-fits
columns-requires-clause-fits c =
    let width : ℕ = 8 * c.args.byte + c.args.count in
    let bytes = c.in_ok-bytes.bytes.items in
    let is : c.push_rows.new.self ≡ rows_of_bytes c.args.height width bytes =
    c.in_ok-push_rows.ensures.added ∙ ap (λ (l : List (List ℕ)). l ++ c.new-image.result) c.new-rows.ensures ∙ c.new-image.ensures in
    let many = length_of_rows c.args.height width bytes in
    (rw is (omega (arith, many, c.if-height-ge10000.false)), omega (arith, c.if-byte-ge100.false))
