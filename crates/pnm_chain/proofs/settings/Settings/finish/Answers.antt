use Rattle.pnm_chain.proofs.MeaningLaws.{conflicts, lacks, lacks_memory, means}
use Rattle.pnm_chain.proofs.settings.Settings.finish.Goals as goal

pub returns-then-is_conflict-clause-refused : goal.returns-then-is_conflict-clause-refused
returns-then-is_conflict-clause-refused c = conflicts c.args.self.now.tool c.args.self.now c.is_conflict.result c.is_conflict.ensures c.if-is_conflict.true

pub returns-then-is_missing-clause-refused : goal.returns-then-is_missing-clause-refused
returns-then-is_missing-clause-refused c =
    lacks c.args.self.now.tool c.args.self.now c.is_conflict.result c.is_conflict.ensures c.if-is_conflict.false c.is_missing.result c.is_missing.ensures
    c.if-is_missing.true

pub returns-clause-meant : goal.returns-clause-meant
returns-clause-meant c =
    means c.args.self.now.tool c.args.self.now c.is_conflict.result c.is_conflict.ensures c.if-is_conflict.false c.is_missing.result c.meant.result
    c.is_missing.ensures c.if-is_missing.false c.meant.ensures.meant

pub returns-clause-refused : goal.returns-clause-refused
returns-clause-refused c = lacks_memory c.args.self.now.tool c.args.self.now c.meant.result c.meant.ensures.refused
