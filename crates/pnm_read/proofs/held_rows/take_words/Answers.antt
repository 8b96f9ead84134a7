use Rattle.pnm_read.proofs.Words.{◌≡◌, ℕ, ◌*◌, ◌≤◌, ◌++◌, All, List, length, take, sym, ap, subst, ◌∙◌, length-cut_rows, held_of, wide_samples}
use Rattle.pnm_read.proofs.HeldWords.{samples_of_held, wide_rows_taken}
use Rattle.pnm_read.proofs.RowsTogether.{cut_within}
use Rattle.pnm_read.proofs.held_rows.take_words.Goals as goal

pub new-rows-requires-clause-whole : goal.new-rows-requires-clause-whole
new-rows-requires-clause-whole g c =
    let size : ℕ = c.args.count * c.args.raster.now.units * 2 in
    samples_of_held c.requires.held
    (c.in-Ok-append_wide.ensures.0 ∙ ap (λ (l : List ℕ). l ++ wide_samples (take size c.bytes-held.result.now)) c.in-Ok.ensures.items
    ∙ ap (λ (l : List ℕ). wide_samples (take size l)) c.bytes-held.ensures)

pub new-rows-requires-clause-within : goal.new-rows-requires-clause-within
new-rows-requires-clause-within g c =
    let size : ℕ = c.args.count * c.args.raster.now.units * 2 in
    let samples = c.append_wide.new.row.items in
    let most = c.args.raster.now.shape.maxval in
    let is : samples ≡ wide_samples (take size c.bytes-held.result.now) = c.in-Ok-append_wide.ensures.0
    ∙ ap (λ (l : List ℕ). l ++ wide_samples (take size c.bytes-held.result.now)) c.in-Ok.ensures.items in
    cut_within c.args.count c.args.raster.now.units most samples
    (subst (λ (l : List ℕ). All (λ sample. sample ≤ most) l) (sym is) c.in-Ok-append_wide.ensures.1)

pub returns-clause-count : goal.returns-clause-count
returns-clause-count g c =
    ap (λ (l : List (List ℕ)). length l) c.new-rows.ensures
    ∙ length-cut_rows c.args.count c.args.raster.now.units c.append_wide.new.row.items

pub returns-clause-rows : goal.returns-clause-rows
returns-clause-rows g c =
    let size : ℕ = c.args.count * c.args.raster.now.units * 2 in
    wide_rows_taken c.requires.held
    (c.in-Ok-append_wide.ensures.0 ∙ ap (λ (l : List ℕ). l ++ wide_samples (take size c.bytes-held.result.now)) c.in-Ok.ensures.items
    ∙ ap (λ (l : List ℕ). wide_samples (take size l)) c.bytes-held.ensures)
    (subst (λ (l : List ℕ). All (λ sample. sample ≤ c.args.raster.now.shape.maxval) (wide_samples (take size l))) c.bytes-held.ensures
    c.in-Ok-append_wide.ensures.1) c.new-rows.ensures c.advance.ensures.held
