use Rattle.pnm_row_tools.proofs.Words.{ℕ, ◌<◌, ◌≤◌, ◌↔◌, Bool, true, false, List, length, All, IsTrue, MatchBool, refl, arith, rules, tests, HoldsAt, AllWithin}
use Rattle.pnm_row_tools.proofs.Words.{cases_from_all, YieldsList-from_slice, false≢true, nat_tests}
use Rattle.pnm_row_tools.proofs.channel.are_below.Goals as goal

below_from_cases : (depth : ℕ) (r : Bool) (xs : List ℕ) → MatchBool r (AllWithin (λ x. x < depth) xs 0 (length xs))
    ((k : ℕ) × (k < length xs) × HoldsAt (λ x. depth ≤ x) xs k) → IsTrue r ↔ All (λ x. x < depth) xs
below_from_cases depth true xs h = (λ _ k d lt. h k d (omega arith) lt, λ _. refl)
below_from_cases depth false xs h = (λ e. absurd (false≢true e), λ all. absurd (omega (arith, h.2 0, all h.0 0 h.1)))

pub returns : goal.returns
returns c =
    below_from_cases c.args.depth c.all.result c.args.numbers.now
    (cases_from_all _ _ _ (λ x. x < c.args.depth) (λ x. c.args.depth ≤ x) c.all.ensures.ran (YieldsList-from_slice c.args.numbers.now c.iter.ensures.rest)
    (λ x q k. (search (rules, tests), grind (arith, nat_tests))) (λ x q k. search (rules, tests)))
