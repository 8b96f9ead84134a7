use Rattle.std.proofs.Common.{◌≡◌, ◌<◌, ◌+◌, ◌-◌, ◌*◌, ◌∙◌, ℕ, List, [], get_or, length, take, drop, ap, ap₂, sym, subst, arith}
use Rattle.pnm_image.specs.declared.rows.RowVec.{RowVec}
use Rattle.pnm_image.specs.HeldRows.{AreRows, row_lists}
use Rattle.pnm_samples.proofs.CutLaws.{row_of_cut}
use Rattle.pnm_image.proofs.HeldRowLaws.{length_of_lists, row_places}
use Rattle.pnm_image.proofs.rows.Rows.row_slice.Goals as goal

pub overflow_mul-result : goal.overflow_mul-result
overflow_mul-result c =
    let r = c.self.inside in
    let xs = c.in-Bytes.bytes.items in
    let long : length xs ≡ r.count * r.row_length = subst (AreRows r.count r.row_length) c.in-Bytes.is c.self.invariant.1 in
    let many : length c.args.self.now ≡ r.count = ap (λ (l : List (List ℕ)). length l) (sym c.self.view_is)
    ∙ length_of_lists r.count r.row_length r.held c.self.invariant.1 in
    let below : c.args.at < r.count = omega (arith, many, c.requires) in
    let places = row_places r.count r.row_length c.args.at (length xs) long below in
    omega (arith, places.0, c.in-Bytes.bytes.ok.0)

pub overflow_mul-result-in-Bytes : goal.overflow_mul-result-in-Bytes
overflow_mul-result-in-Bytes c =
    let r = c.self.inside in
    let xs = c.in-Bytes.bytes.items in
    let long : length xs ≡ r.count * r.row_length = subst (AreRows r.count r.row_length) c.in-Bytes.is c.self.invariant.1 in
    let many : length c.args.self.now ≡ r.count = ap (λ (l : List (List ℕ)). length l) (sym c.self.view_is)
    ∙ length_of_lists r.count r.row_length r.held c.self.invariant.1 in
    let below : c.args.at < r.count = omega (arith, many, c.requires) in
    let places = row_places r.count r.row_length c.args.at (length xs) long below in
    omega (arith, places.0, places.1, c.in-Bytes.bytes.ok.0)

pub slice_bounds-result-end : goal.slice_bounds-result-end
slice_bounds-result-end c =
    let r = c.self.inside in
    let xs = c.in-Bytes.bytes.items in
    let long : length xs ≡ r.count * r.row_length = subst (AreRows r.count r.row_length) c.in-Bytes.is c.self.invariant.1 in
    let many : length c.args.self.now ≡ r.count = ap (λ (l : List (List ℕ)). length l) (sym c.self.view_is)
    ∙ length_of_lists r.count r.row_length r.held c.self.invariant.1 in
    let below : c.args.at < r.count = omega (arith, many, c.requires) in
    let places = row_places r.count r.row_length c.args.at (length xs) long below in
    omega (arith, places.0, places.1, ap length c.deref.ensures.value)

pub overflow_mul-result-in-Words : goal.overflow_mul-result-in-Words
overflow_mul-result-in-Words c =
    let r = c.self.inside in
    let xs = c.in-Words.words.items in
    let long : length xs ≡ r.count * r.row_length = subst (AreRows r.count r.row_length) c.in-Words.is c.self.invariant.1 in
    let many : length c.args.self.now ≡ r.count = ap (λ (l : List (List ℕ)). length l) (sym c.self.view_is)
    ∙ length_of_lists r.count r.row_length r.held c.self.invariant.1 in
    let below : c.args.at < r.count = omega (arith, many, c.requires) in
    let places = row_places r.count r.row_length c.args.at (length xs) long below in
    omega (arith, places.0, c.in-Words.words.ok.0)

pub overflow_mul-result-in-Words-2 : goal.overflow_mul-result-in-Words-2
overflow_mul-result-in-Words-2 c =
    let r = c.self.inside in
    let xs = c.in-Words.words.items in
    let long : length xs ≡ r.count * r.row_length = subst (AreRows r.count r.row_length) c.in-Words.is c.self.invariant.1 in
    let many : length c.args.self.now ≡ r.count = ap (λ (l : List (List ℕ)). length l) (sym c.self.view_is)
    ∙ length_of_lists r.count r.row_length r.held c.self.invariant.1 in
    let below : c.args.at < r.count = omega (arith, many, c.requires) in
    let places = row_places r.count r.row_length c.args.at (length xs) long below in
    omega (arith, places.0, places.1, c.in-Words.words.ok.0)

pub offset_bounds-deref-at : goal.offset_bounds-deref-at
offset_bounds-deref-at c =
    let r = c.self.inside in
    let xs = c.in-Words.words.items in
    let long : length xs ≡ r.count * r.row_length = subst (AreRows r.count r.row_length) c.in-Words.is c.self.invariant.1 in
    let many : length c.args.self.now ≡ r.count = ap (λ (l : List (List ℕ)). length l) (sym c.self.view_is)
    ∙ length_of_lists r.count r.row_length r.held c.self.invariant.1 in
    let below : c.args.at < r.count = omega (arith, many, c.requires) in
    let places = row_places r.count r.row_length c.args.at (length xs) long below in
    omega (arith, places.0, c.in-Words.words.ok, c.deref-in-Words.type_inv, ap length c.deref-in-Words.ensures.value)

pub slice_bounds-result-end-in-Words : goal.slice_bounds-result-end-in-Words
slice_bounds-result-end-in-Words c =
    let r = c.self.inside in
    let xs = c.in-Words.words.items in
    let long : length xs ≡ r.count * r.row_length = subst (AreRows r.count r.row_length) c.in-Words.is c.self.invariant.1 in
    let many : length c.args.self.now ≡ r.count = ap (λ (l : List (List ℕ)). length l) (sym c.self.view_is)
    ∙ length_of_lists r.count r.row_length r.held c.self.invariant.1 in
    let below : c.args.at < r.count = omega (arith, many, c.requires) in
    let places = row_places r.count r.row_length c.args.at (length xs) long below in
    omega (arith, places.0, places.1, ap length c.deref-in-Words.ensures.value)

pub returns-in-Bytes-clause-samples : goal.returns-in-Bytes-clause-samples
returns-in-Bytes-clause-samples c =
    let r = c.self.inside in
    let xs = c.in-Bytes.bytes.items in
    let long : length xs ≡ r.count * r.row_length = subst (AreRows r.count r.row_length) c.in-Bytes.is c.self.invariant.1 in
    let many : length c.args.self.now ≡ r.count = ap (λ (l : List (List ℕ)). length l) (sym c.self.view_is)
    ∙ length_of_lists r.count r.row_length r.held c.self.invariant.1 in
    let below : c.args.at < r.count = omega (arith, many, c.requires) in
    let places = row_places r.count r.row_length c.args.at (length xs) long below in
    let start = c.args.at * r.row_length in
    let count : (c.args.at + 1) * r.row_length - start ≡ r.row_length = omega (arith, places.1) in
    ap₂ (λ (n : ℕ) (l : List ℕ). take n (drop start l)) count c.deref.ensures.value ∙ row_of_cut r.count r.row_length c.args.at xs below
    ∙ ap (λ (held : RowVec). get_or (row_lists r.count r.row_length held) c.args.at []) (sym c.in-Bytes.is)
    ∙ ap (λ (l : List (List ℕ)). get_or l c.args.at []) c.self.view_is

pub returns-in-Words-clause-samples : goal.returns-in-Words-clause-samples
returns-in-Words-clause-samples c =
    let r = c.self.inside in
    let xs = c.in-Words.words.items in
    let long : length xs ≡ r.count * r.row_length = subst (AreRows r.count r.row_length) c.in-Words.is c.self.invariant.1 in
    let many : length c.args.self.now ≡ r.count = ap (λ (l : List (List ℕ)). length l) (sym c.self.view_is)
    ∙ length_of_lists r.count r.row_length r.held c.self.invariant.1 in
    let below : c.args.at < r.count = omega (arith, many, c.requires) in
    let places = row_places r.count r.row_length c.args.at (length xs) long below in
    let start = c.args.at * r.row_length in
    let count : (c.args.at + 1) * r.row_length - start ≡ r.row_length = omega (arith, places.1) in
    ap₂ (λ (n : ℕ) (l : List ℕ). take n (drop start l)) count c.deref-in-Words.ensures.value ∙ row_of_cut r.count r.row_length c.args.at xs below
    ∙ ap (λ (held : RowVec). get_or (row_lists r.count r.row_length held) c.args.at []) (sym c.in-Words.is)
    ∙ ap (λ (l : List (List ℕ)). get_or l c.args.at []) c.self.view_is
