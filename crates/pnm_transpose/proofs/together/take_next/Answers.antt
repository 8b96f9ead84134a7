use Rattle.pnm_transpose.proofs.Words.{rules, ◌≡◌, ◌++◌, ◌∷◌, [], length, All, Some, ap, subst, sym, ◌∙◌, arith, List, ℕ, Option, option_to_list, All-cons}
use Rattle.pnm_transpose.proofs.Words.{All-nil}
use Rattle.pnm_transpose.proofs.RowsTogetherLaws.{next_taken, none_taken}
use Rattle.pnm_transpose.proofs.together.take_next.Goals as goal

pub returns-then-not-branch-clause-same : goal.returns-then-not-branch-clause-same
returns-then-not-branch-clause-same c = λ no count h.
    let next = c.in-Some.next in
    let rest = c.pop.new.self.items in
    let popped : c.pop.result ≡ Some next = search rules in
    let parts : c.args.batch.now.items ≡ rest ++ next ∷ [] = c.pop.ensures.items ∙ ap (λ (o : Option (List ℕ)). rest ++ option_to_list o) popped in
    none_taken count c.args.each c.args.bound.now c.args.held.now c.append.new.self next c.into_first.result c.one-next.result c.args.batch.now.items rest
    c.push-then-not-branch.new.self.items c.one-next.ensures parts c.into_first.ensures c.in_ok-push-2.ensures.items
    (c.in_ok-append.ensures.same (search rules)) h

pub returns-clause-taken : goal.returns-clause-taken
returns-clause-taken c = λ yes count h.
    let next = c.in-Some.next in
    let rest = c.pop.new.self.items in
    let each = c.args.each in
    let lent = c.one-next.result in
    let popped : c.pop.result ≡ Some next = search rules in
    let parts : c.args.batch.now.items ≡ rest ++ next ∷ [] = c.pop.ensures.items ∙ ap (λ (o : Option (List ℕ)). rest ++ option_to_list o) popped in
    let size : length next ≡ each = omega (arith, c.if-len-each.false, c.len.ensures) in
    let all : All (λ row. length row ≡ each) lent =
    subst (λ (l : List (List ℕ)). All (λ (row : List ℕ). length row ≡ each) l) (sym c.one-next.ensures)
    (All-cons (λ (row : List ℕ). length row ≡ each) next [] size (All-nil (λ (row : List ℕ). length row ≡ each))) in
    next_taken count each c.args.bound.now c.max.result c.bound.result c.args.held.now c.append.new.self c.as_slice.result next lent c.args.batch.now.items rest
    c.one-next.ensures parts (c.as_slice.ensures.rows each all) (c.as_slice.ensures.whole each all) (c.in_ok-append.ensures.added (search rules))
    c.bound.ensures
    (omega (arith, c.max.ensures)) (omega (arith, c.max.ensures)) h
