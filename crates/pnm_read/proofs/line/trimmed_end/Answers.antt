use Rattle.pnm_read.proofs.Words.{rules, sym, ◌∙◌}
use Rattle.pnm_read.proofs.LineSteps.{end_more, end_none, end_stops}
use Rattle.pnm_read.proofs.line.trimmed_end.Goals as goal

pub loop-rest-preserved : goal.loop-rest-preserved
loop-rest-preserved c = end_more c.loop-rest.rest.now c.in-len1-up.len_at_least (sym c.is_blank.ensures ∙ c.if-is_blank.true) ∙ c.loop-rest.invariant

pub returns-then-rest-lt1 : goal.returns-then-rest-lt1
returns-then-rest-lt1 c = sym (end_none c.loop-rest.rest.now (search rules)) ∙ c.loop-rest.invariant

pub returns-else-is_blank : goal.returns-else-is_blank
returns-else-is_blank c = sym (end_stops c.loop-rest.rest.now c.in-len1-up.len_at_least (sym c.is_blank.ensures ∙ c.if-is_blank.false)) ∙ c.loop-rest.invariant
