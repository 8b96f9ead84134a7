use Rattle.pnm_write.proofs.Words.{refl}
use Rattle.std.specs.Fmt.{digits}
use Rattle.pnm_write.proofs.EntryLaws.{entry_is}
use Rattle.pnm_write.proofs.numerals.entry.Goals as goal

pub returns : goal.returns
unfolding digits
returns c = entry_is _ refl c.requires
