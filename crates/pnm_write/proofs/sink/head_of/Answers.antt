use Rattle.pnm_write.proofs.Words.{ap, ◌∙◌, messages_in}
use Rattle.pnm_write.proofs.MessageLaws.{part_begins, part_begins_none}
use Rattle.pnm_write.proofs.sink.head_of.Goals as goal

pub returns-in-Some-clause-some : goal.returns-in-Some-clause-some
returns-in-Some-clause-some c =
    let part = c.parts.result in
    part_begins part.1.now part.2 c.in-Some.is (ap messages_in c.in-Part.is ∙ c.parts.ensures.parts)

pub returns-in-None-clause-none : goal.returns-in-None-clause-none
returns-in-None-clause-none c =
    let part = c.parts.result in
    part_begins_none part.1.now part.2 c.in-None.is (ap messages_in c.in-Part.is ∙ c.parts.ensures.parts)
