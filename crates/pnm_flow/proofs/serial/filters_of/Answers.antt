use Rattle.pnm_flow.proofs.Words.{[], ◌∷◌, ◌++◌, ◌≡◌, ℕ, suc, ◌+◌, length, take, subst, sym, ap, ◌∙◌, arith, take-suc, take-length, IsLawfulTool, AreFresh}
use Rattle.pnm_flow.proofs.ToolSteps.{fresh_more, lawful_at}
use Rattle.pnm_flow.proofs.serial.filters_of.Goals as goal

pub filter_of-requires : goal.filter_of-requires
filter_of-requires c =
    subst IsLawfulTool (sym c.tool-item.is) (lawful_at c.args.tools.now c.loop-tool.tool-index c.tool-item.result c.requires c.loop-tool-test.true)

pub loop-tool-preserved : goal.loop-tool-preserved
loop-tool-preserved c =
    let next : suc c.loop-tool.tool-index ≡ c.loop-tool.tool-index + 1 = omega arith in
    let more = fresh_more c.loop-tool.stages.items (take c.loop-tool.tool-index c.args.tools.now) c.filter_of.result c.tool-item.result c.loop-tool.invariant
    c.filter_of.ensures in
    let tools = ap (λ (t : _). take c.loop-tool.tool-index c.args.tools.now ++ t ∷ []) c.tool-item.is
    ∙ sym (take-suc c.args.tools.now c.loop-tool.tool-index c.tool-item.result c.loop-tool-test.true) ∙ ap (λ (n : ℕ). take n c.args.tools.now) next in
    rw c.in_ok-push.ensures.items (subst (AreFresh (c.loop-tool.stages.items ++ c.filter_of.result ∷ [])) tools more)

pub returns-clause-refused : goal.returns-clause-refused
returns-clause-refused c = tt

pub returns-clause-fresh : goal.returns-clause-fresh
returns-clause-fresh c =
    let all : c.loop-tool.tool-index ≡ length c.args.tools.now = omega arith in
    subst (AreFresh c.loop-tool.stages.items) (ap (λ (n : ℕ). take n c.args.tools.now) all ∙ take-length c.args.tools.now) c.loop-tool.invariant
