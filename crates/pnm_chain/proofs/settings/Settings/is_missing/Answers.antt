use Rattle.pnm_chain.proofs.Words.{◌≡◌, ltb, arith, common_steps, tool_rule, said_by}
use Rattle.pnm_chain.proofs.settings.Settings.is_missing.Goals as goal

pub returns-in_default : goal.returns-in_default
returns-in_default c =
    let settings = c.args.self.now in
    let few : ltb c.len.result c.arguments.result.fewest ≡ (tool_rule settings.tool).missing (said_by settings) = grind (arith, common_steps) in few
