use Rattle.std.proofs.Common.{◌≡◌, ◌≤◌, ◌++◌, ◌∷◌, [], ◌∙◌, ℕ, List, All, get_or, length, ap, sym, subst, arith}
use Rattle.pnm_image.specs.HeldRows.{AreRowsWithin, row_lists}
use Rattle.pnm_image.proofs.HeldRowLaws.{lengths_of_lists, within_greater}
use Rattle.std.proofs.lemmas.List.Elements.{All-append, All-cons, All-nil}
use Rattle.pnm_image.proofs.rows.Rows.append_row.Goals as goal

pub invariant_of-self-then-is_added : goal.invariant_of-self-then-is_added
invariant_of-self-then-is_added c =
    let r = c.self.inside in
    let m = c.more.inside in
    let rows = c.args.more.now in
    let row = get_or rows c.args.at [] in
    let alike : m.row_length ≡ r.row_length = omega arith in
    let long : length row ≡ r.row_length = subst (All (λ (row : List ℕ). length row ≡ m.row_length)) c.more.view_is
    (lengths_of_lists m.count m.row_length m.held c.more.invariant.1) c.args.at [] c.requires ∙ alike in
    let added = c.in_ok-is_added.ensures.added c.if-is_added.true r.count r.row_length c.self.invariant.1 (ap length c.row_slice.ensures.samples ∙ long) in
    let is = added.0 ∙ ap (λ (l : List ℕ). row_lists r.count r.row_length r.held ++ l ∷ []) c.row_slice.ensures.samples in
    let bound = c.max-self-inside.result in
    let P : List ℕ → Type 0 = λ row. All (λ sample. sample ≤ bound) row in
    let before : AreRowsWithin bound (row_lists r.count r.row_length r.held) = within_greater r.bound bound _ (omega arith) c.self.invariant.2 in
    let lent : AreRowsWithin m.bound rows = subst (AreRowsWithin m.bound) c.more.view_is c.more.invariant.2 in
    let behind : AreRowsWithin bound rows = within_greater m.bound bound rows (omega arith) lent in (
      omega arith,
      added.1,
      subst (AreRowsWithin bound) (sym is)
          (All-append P (row_lists r.count r.row_length r.held) (row ∷ []) before (All-cons P row [] (behind c.args.at [] c.requires) (All-nil P))),
    )

pub returns-then-is_added-clause-added : goal.returns-then-is_added-clause-added
returns-then-is_added-clause-added c = λ yes.
    let r = c.self.inside in
    let m = c.more.inside in
    let alike : m.row_length ≡ r.row_length = omega arith in
    let row = get_or c.args.more.now c.args.at [] in
    let long : length row ≡ r.row_length = subst (All (λ (row : List ℕ). length row ≡ m.row_length)) c.more.view_is
    (lengths_of_lists m.count m.row_length m.held c.more.invariant.1) c.args.at [] c.requires ∙ alike in
    let added = c.in_ok-is_added.ensures.added yes r.count r.row_length c.self.invariant.1 (ap length c.row_slice.ensures.samples ∙ long) in
    added.0 ∙ ap (λ (l : List ℕ). row_lists r.count r.row_length r.held ++ l ∷ []) c.row_slice.ensures.samples
    ∙ ap (λ (l : List (List ℕ)). l ++ row ∷ []) c.self.view_is
