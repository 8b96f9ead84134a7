use Rattle.pnm_read.proofs.Words.{sym, ◌∙◌}
use Rattle.pnm_read.proofs.source.read_rows.Goals as goal

pub read_rows-requires-clause-plain : goal.read_rows-requires-clause-plain
read_rows-requires-clause-plain g c = sym c.is_plain.ensures ∙ c.if-is_plain.true

pub read_rows-requires-else-is_plain-clause-raw : goal.read_rows-requires-else-is_plain-clause-raw
read_rows-requires-else-is_plain-clause-raw g c = sym c.is_plain.ensures ∙ c.if-is_plain.false
