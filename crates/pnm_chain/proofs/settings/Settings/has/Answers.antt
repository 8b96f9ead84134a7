use Rattle.pnm_chain.proofs.Words.{◌≡◌, rules, has_option, said_by}
use Rattle.pnm_chain.proofs.settings.Settings.has.Goals as goal

pub returns-in-Way : goal.returns-in-Way
returns-in-Way c =
    let given : c.is_some-in-Way.result ≡ has_option (said_by c.args.self.now) c.args.option = search rules in given
