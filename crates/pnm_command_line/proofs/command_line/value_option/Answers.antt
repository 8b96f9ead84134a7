use Rattle.std.proofs.Common.{rules, ap, ◌≡◌, ◌∙◌, Some}
use Rattle.pnm_command_line.proofs.command_line.value_option.Goals as goal

pub returns : goal.returns
returns c =
    let given = c.value_parser.ensures.given in
    let given_is : c.value_parser.result.value_parser ≡ Some c.args.parser = given.1 ∙ ap Some given.2 in
    search rules
