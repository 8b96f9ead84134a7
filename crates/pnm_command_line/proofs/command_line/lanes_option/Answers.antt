use Rattle.std.proofs.Common.{ap, codes, pos, ◌≡◌, ◌∙◌}
use Rattle.clap.specs.declared.builder.value_parser.ValueParser.{ValueParser}
use Rattle.clap.specs.declared.builder.value_parser.ValueParser.TheVariants.{Signed}
use Rattle.pnm_lanes.specs.declared.lane.TheConstants.{MAX_LANES}
use Rattle.pnm_command_line.specs.CommandLine.{value_rule}
use Rattle.pnm_command_line.proofs.command_line.lanes_option.Goals as goal

pub returns : goal.returns
returns c =
    let parser_is : c.range-parser.result ≡ Signed (pos 1) (pos MAX_LANES) =
    rw (c.value_parser.ensures, c.new.ensures.start, c.new.ensures.end) at c.range-parser.ensures in
    c.value_option.ensures ∙ ap (λ (parser : ValueParser). value_rule (codes "lanes") (codes "1") parser) parser_is
