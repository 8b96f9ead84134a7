use Rattle.pnm_samples.proofs.Words.{rules, ◌≡◌, ◌∙◌, ℕ, List, sym, ap, subst}
use Rattle.std.specs.Prelude.{IfOk}
use Rattle.pnm_samples.proofs.RepeatLaws.{repeated, once}
use Rattle.pnm_samples.proofs.bits.Bits.repeat.Goals as goal

pub returns-in-1 : goal.returns-in-1
returns-in-1 c =
    subst (λ (l : List ℕ). IfOk c.copy.result (λ bits. bits ≡ l)) (once c.args.self.now ∙ ap (λ (k : ℕ). repeated k c.args.self.now) (sym c.in-1.is))
    c.copy.ensures

pub returns-in_default : goal.returns-in_default
returns-in_default c = search rules
