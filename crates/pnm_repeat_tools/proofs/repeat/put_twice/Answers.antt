use Rattle.pnm_repeat_tools.proofs.repeat.put_twice.Goals as goal

pub returns-clause-stored : goal.returns-clause-stored
returns-clause-stored g c = c.store.ensures
