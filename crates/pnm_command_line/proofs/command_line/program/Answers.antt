-- What a parse reads of the command, argument by argument.
use Rattle.std.proofs.Common.{ap₂, refl, ◌∙◌}
use Rattle.std.proofs.lemmas.Result.{IfOk-weaker}
use Rattle.clap.specs.Words.{with_rule}
use Rattle.pnm_command_line.proofs.CommandLineSteps.{local_by_rule}
use Rattle.pnm_command_line.specs.CommandLine.{chain_rule, lanes_rule, plain_rule, ring_rule}
use Rattle.pnm_command_line.proofs.command_line.program.Goals as goal

pub returns : goal.returns
returns c =
    let ring_is = c.ring_option.ensures in
    let lanes_is = c.lanes_option.ensures in
    let plain_is = c.plain_option.ensures in
    let chain_is = c.chain_argument.ensures in
    let with_ring = c.in_ok-arg.ensures.shape (local_by_rule c.ring_option.result ring_rule ring_is refl) ∙ ap₂ with_rule c.described.ensures ring_is in
    let with_lanes = c.in_ok-arg-2.ensures.shape (local_by_rule c.lanes_option.result lanes_rule lanes_is refl) ∙ ap₂ with_rule with_ring lanes_is in
    let with_plain = c.in_ok-arg-3.ensures.shape (local_by_rule c.plain_option.result plain_rule plain_is refl) ∙ ap₂ with_rule with_lanes plain_is in
    IfOk-weaker c.arg-4.result _ _ (λ command added.
    added.shape (local_by_rule c.chain_argument.result chain_rule chain_is refl) ∙ ap₂ with_rule with_plain chain_is) c.arg-4.ensures
