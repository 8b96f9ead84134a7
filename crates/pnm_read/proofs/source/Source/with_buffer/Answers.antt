use Rattle.pnm_read.proofs.Words.{refl}
use Rattle.pnm_read.proofs.SourceSteps.{fresh_source}
use Rattle.pnm_read.proofs.source.Source.with_buffer.Goals as goal

pub returns : goal.returns
returns g c = fresh_source c.args.reader _ c.new.ensures.reader c.new.ensures.nothing_held c.new.ensures.not_ended refl
