use Rattle.std.proofs.Common.{map, rules, subst}
use Rattle.std.specs.Prelude.{string_bytes}
use Rattle.pnm_command_line.specs.CommandLine.{AsksForHelp, IsFaultOfWords}
use Rattle.pnm_command_line.proofs.HelpSteps.{told_at_end}
use Rattle.pnm_command_line.proofs.OneKind.{asks_once}
use Rattle.pnm_command_line.proofs.named_run.command.Goals as goal

pub returns-in-Err-clause-ran : goal.returns-in-Err-clause-ran
returns-in-Err-clause-ran g c = search rules

pub returns-in-Err-Help-clause-help : goal.returns-in-Err-Help-clause-help
returns-in-Err-Help-clause-help g c = search rules

pub returns-in-Err-Help-clause-versioned : goal.returns-in-Err-Help-clause-versioned
returns-in-Err-Help-clause-versioned g c =
    let words = map string_bytes c.args.words.now in
    let help : AsksForHelp words = subst (IsFaultOfWords words) c.in-Err-Help.field-0-is c.in-Err-Help.ensures.refused in
    λ version well. absurd (asks_once words help version)

pub returns-in-Ok-parse_chain-clause-ran : goal.returns-in-Ok-parse_chain-clause-ran
returns-in-Ok-parse_chain-clause-ran g c = search rules

pub returns-in-Err-Help-clause-helped : goal.returns-in-Err-Help-clause-helped
returns-in-Err-Help-clause-helped g c = λ asks well.
    told_at_end g.W.Write.contents c.new.result (g.W.Write.contents c.args.output) c.tell-output.result _
    c.tell-output.ensures c.new.ensures.output

pub returns-in-Err-Version-clause-helped : goal.returns-in-Err-Version-clause-helped
returns-in-Err-Version-clause-helped g c = λ asks well.
    told_at_end g.W.Write.contents c.new-in-Err-Version.result (g.W.Write.contents c.args.output) c.tell-output-in-Err-Version.result _
    c.tell-output-in-Err-Version.ensures c.new-in-Err-Version.ensures.output
