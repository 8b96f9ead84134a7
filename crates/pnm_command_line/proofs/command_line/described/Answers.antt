use Rattle.std.proofs.Common.{ap, true, ◌∙◌}
use Rattle.clap.specs.Simple.{app_of_fields, on_top}
use Rattle.pnm_command_line.proofs.command_line.described.Goals as goal

pub returns : goal.returns
returns c =
    ap app_of_fields c.after_help.ensures ∙ (ap app_of_fields c.override_usage.ensures ∙ (ap app_of_fields c.about.ensures
    ∙ (ap app_of_fields c.version.ensures ∙ ap (on_top (λ top. record top { has_version = true })) c.new.ensures.app)))
