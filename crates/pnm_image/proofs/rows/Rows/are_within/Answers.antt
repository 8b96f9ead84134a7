use Rattle.std.proofs.Common.{◌≡◌, ◌≤◌, ◌∙◌, ℕ, List, All, length, ap, refl, sym, subst, arith, rules}
use Rattle.pnm_image.proofs.HeldRowLaws.{length_of_lists, within_more}
use Rattle.pnm_image.proofs.rows.Rows.are_within.Goals as goal

pub row_slice-requires : goal.row_slice-requires
row_slice-requires c =
    let r = c.self.inside in
    let many : length c.args.self.now ≡ r.count = ap (λ (l : List (List ℕ)). length l) (sym c.self.view_is)
    ∙ length_of_lists r.count r.row_length r.held c.self.invariant.1 in
    omega (arith, many)

pub loop-at-preserved : goal.loop-at-preserved
loop-at-preserved c =
    let r = c.self.inside in
    let rows = c.args.self.now in
    let P : ℕ → Type 0 = λ sample. sample ≤ c.args.most in
    let many : length rows ≡ r.count = ap (λ (l : List (List ℕ)). length l) (sym c.self.view_is)
    ∙ length_of_lists r.count r.row_length r.held c.self.invariant.1 in
    within_more P c.loop-at.at rows (omega (arith, many)) c.loop-at.invariant (subst (All P) c.row_slice.ensures.samples (c.if-not-are_within.ensures.0 refl))

pub returns : goal.returns
returns c = (
  λ yes k d lt.
      let r = c.self.inside in
      let many : length c.args.self.now ≡ r.count = ap (λ (l : List (List ℕ)). length l) (sym c.self.view_is)
      ∙ length_of_lists r.count r.row_length r.held c.self.invariant.1 in
      c.loop-at.invariant k d (omega (arith, many, lt)),
  λ all. search rules,
)
