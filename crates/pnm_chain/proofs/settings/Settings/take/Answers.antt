use Rattle.pnm_chain.proofs.Words.{sym, ◌∙◌, value_read}
use Rattle.pnm_chain.proofs.SettingLaws.{argument_refused, argument_set, option_again, option_refused, option_set}
use Rattle.pnm_chain.proofs.settings.Settings.take.Goals as goal

pub returns-then-has-clause-refused : goal.returns-then-has-clause-refused
returns-then-has-clause-refused c =
    rw c.in-Given.is (option_again c.args.self.now.tool c.in-Given.option (value_read c.in-Given.value) c.args.self.now (sym c.has.ensures ∙ c.if-has.true))

pub returns-in-Argument-clause-set : goal.returns-in-Argument-clause-set
returns-in-Argument-clause-set c =
    rw c.in-Argument.is (argument_set c.args.self.now.tool c.in-Argument.word.now c.args.self.now c.add.new.self c.add.result c.add.ensures.added)

pub returns-in-Argument-clause-refused : goal.returns-in-Argument-clause-refused
returns-in-Argument-clause-refused c =
    rw c.in-Argument.is (argument_refused c.args.self.now.tool c.in-Argument.word.now c.args.self.now c.add.result c.add.ensures.refused)

pub returns-else-has-clause-set : goal.returns-else-has-clause-set
returns-else-has-clause-set c =
    rw c.in-Given.is (option_set c.args.self.now.tool c.in-Given.option (value_read c.in-Given.value) c.args.self.now c.set.new.self c.set.result
    (sym c.has.ensures ∙ c.if-has.false) c.set.ensures.set)

pub returns-else-has-clause-refused : goal.returns-else-has-clause-refused
returns-else-has-clause-refused c =
    rw c.in-Given.is (option_refused c.args.self.now.tool c.in-Given.option (value_read c.in-Given.value) c.args.self.now c.set.result
    (sym c.has.ensures ∙ c.if-has.false) c.set.ensures.refused)
