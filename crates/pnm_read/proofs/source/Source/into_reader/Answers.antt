use Rattle.pnm_read.proofs.source.Source.into_reader.Goals as goal

pub returns : goal.returns
returns g c = c.into_reader.ensures
