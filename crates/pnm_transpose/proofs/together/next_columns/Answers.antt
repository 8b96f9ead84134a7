use Rattle.pnm_transpose.proofs.Words.{rules, arith, ◌≡◌, ◌++◌, ◌∷◌, [], Some, ap, ◌∙◌, List, ℕ, Option, option_to_list}
use Rattle.pnm_transpose.proofs.RowsTogetherLaws.{first_held}
use Rattle.pnm_transpose.proofs.together.next_columns.Goals as goal

pub loop-count-init : goal.loop-count-init
loop-count-init c =
    let first = c.in-Some.first in
    let rest = c.pop.new.self.items in
    let popped : c.pop.result ≡ Some first = search rules in
    let parts : c.args.batch.now.items ≡ rest ++ first ∷ [] = c.pop.ensures.items ∙ ap (λ (o : Option (List ℕ)). rest ++ option_to_list o) popped in
    let known = first_held c.into_parts-held.result.1 c.into_parts-held.result.2 c.bound-bound.result c.into_parts-held.result.0 first
    c.one-first.result c.args.batch.now.items rest c.one-first.ensures c.into_parts-held.ensures.rows c.into_parts-held.ensures.whole c.bound-bound.ensures
    parts in
    record {
      some = c.into_parts-held.ensures.some;
      held = known.0;
      all = known.1;
    }

pub loop-count-preserved : goal.loop-count-preserved
loop-count-preserved c =
    let taken = c.in_ok-take_next.ensures.taken c.if-not-branch.false c.loop-count.count c.loop-count.invariant.held in
    record {
      some = omega arith;
      held = taken.1;
      all = c.loop-count.invariant.all ∙ taken.0;
    }
