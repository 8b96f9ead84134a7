use Rattle.std.proofs.Common.{◌≤◌, ℕ, List, length, subst, arith}
use Rattle.pnm_image.proofs.RepeatLaws.{repeated_several}
use Rattle.pnm_image.proofs.repeated_rows.RepeatedRows.are_several.Goals as goal

pub returns-then-self-gt1-clause-several : goal.returns-then-self-gt1-clause-several
returns-then-self-gt1-clause-several c =
    let r = c.self.inside in
    let some = subst (λ (n : ℕ). 1 ≤ n) c.count-count.ensures.rows c.count-count.ensures.some in
    let several = repeated_several r.times r.rows (omega (arith, c.if-self-gt1.true)) some in (
      λ yes. subst (λ (l : List (List ℕ)). 2 ≤ length l) c.self.view_is several,
      λ long. grind (arith, c.if-self-gt1.true),
    )
