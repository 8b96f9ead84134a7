use Rattle.pnm_transpose.proofs.Words.{◌≡◌, ℕ, subst, arith, AreBlank}
use Rattle.pnm_transpose.proofs.ColumnLaws.{blank_more}
use Rattle.pnm_transpose.proofs.batch.blank_columns.Goals as goal

pub loop-preserved : goal.loop-preserved
loop-preserved g c = blank_more c.in_ok-from_elem.field-0 c.loop.invariant c.in_ok-push.ensures.items c.in_ok-from_elem.ensures.len

pub returns-clause-blank : goal.returns-clause-blank
returns-clause-blank g c =
    let all : c.loop.counter ≡ c.args.count = omega arith in
    subst (λ (n : ℕ). AreBlank n c.args.samples c.loop.columns.items) all c.loop.invariant
