use Rattle.pnm_transpose.proofs.Words.{◌≡◌, ℕ, List, [], ◌∷◌, ◌++◌, map, reverse, ap, sym, ◌∙◌, append_assoc, map-append, reverse-append}
use Rattle.pnm_transpose.proofs.batch.last_first.Goals as goal

-- the last column goes over
one_over : {X : Type 0} (f : X → List ℕ) (batch : List (List ℕ)) (front : List X) {all : List X} (column : X) → all ≡ front ++ column ∷ []
    → (batch ++ f column ∷ []) ++ reverse (map f front) ≡ batch ++ reverse (map f all)
one_over {X = X} f batch front column is =
    append_assoc batch (f column ∷ []) (reverse (map f front))
    ∙ ap (λ (l : List (List ℕ)). batch ++ l) (sym (ap (λ (l : List X). reverse (map f l)) is
    ∙ ap (λ (l : List (List ℕ)). reverse l) (map-append f front (column ∷ [])) ∙ reverse-append (map f front) (f column ∷ [])))

pub loop-column-init : goal.loop-column-init
loop-column-init g c =
    ap (λ (l : List (List ℕ)). l ++ reverse (map g.C.Column.samples c.args.columns.items)) c.in_ok-batch.ensures.items

pub loop-column-preserved : goal.loop-column-preserved
loop-column-preserved g c =
    let f = g.C.Column.samples in
    let batch = c.loop-column.batch.items in
    ap (λ (l : List (List ℕ)). l ++ reverse (map f c.pop.new.self.items))
    (c.in_ok-push.ensures.items ∙ ap (λ (samples : List ℕ). batch ++ samples ∷ []) c.into_samples.ensures)
    ∙ one_over f batch c.pop.new.self.items c.in-Some.column c.in-Some.ensures.items ∙ c.loop-column.invariant
