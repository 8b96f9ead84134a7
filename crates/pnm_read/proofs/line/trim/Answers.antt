use Rattle.pnm_read.proofs.Words.{ap, sym, ◌∙◌, trimmed_end}
use Rattle.pnm_read.proofs.WalkLaws.{trimmed_is}
use Rattle.pnm_read.proofs.line.trim.Goals as goal

pub returns : goal.returns
returns c = c.trimmed_end.ensures ∙ ap trimmed_end c.trimmed_start.ensures ∙ sym (trimmed_is c.args.text.now)
