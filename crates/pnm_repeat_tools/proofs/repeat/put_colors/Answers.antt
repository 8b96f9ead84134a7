use Rattle.pnm_repeat_tools.proofs.Words.{◌+◌, ◌*◌, ◌∷◌, [], take, refl, ◌∙◌, arith}
use Rattle.pnm_repeat_tools.proofs.CopyLaws.{colors_more, colors_stored}
use Rattle.pnm_repeat_tools.proofs.repeat.put_colors.Goals as goal

pub loop-stored-preserved-then-buffer-place-ge15 : goal.loop-stored-preserved-then-buffer-place-ge15
loop-stored-preserved-then-buffer-place-ge15 g c =
    let stored = c.loop-stored.stored in
    record {
      within = omega (arith, c.store.auto.buffer);
      size = c.store.auto.buffer ∙ c.loop-stored.invariant.size;
      prefix = colors_more c.loop-stored.buffer c.store.new.buffer (take c.args.at c.args.buffer.now) (c.args.color.0 ∷ c.args.color.1 ∷ c.args.color.2 ∷ [])
          (c.args.at + 3 * stored) stored 5 (c.args.at + 3 * (stored + 5)) c.loop-stored.invariant.prefix c.store.ensures refl (omega arith);
    }

pub loop-stored-preserved : goal.loop-stored-preserved
loop-stored-preserved g c =
    let stored = c.loop-stored.stored in
    record {
      within = omega (arith, c.store-else-buffer-place-ge15.auto.buffer);
      size = c.store-else-buffer-place-ge15.auto.buffer ∙ c.loop-stored.invariant.size;
      prefix = colors_more c.loop-stored.buffer c.store-else-buffer-place-ge15.new.buffer (take c.args.at c.args.buffer.now)
          (c.args.color.0 ∷ c.args.color.1 ∷ c.args.color.2 ∷ []) (c.args.at + 3 * stored) stored 1 (c.args.at + 3 * (stored + 1))
          c.loop-stored.invariant.prefix c.store-else-buffer-place-ge15.ensures refl (omega arith);
    }

pub returns-clause-stored : goal.returns-clause-stored
returns-clause-stored g c =
    colors_stored c.loop-stored.buffer c.args.buffer.now (c.args.color.0 ∷ c.args.color.1 ∷ c.args.color.2 ∷ []) c.args.at c.args.count c.loop-stored.stored
    refl (omega arith) (omega arith) c.loop-stored.invariant.prefix
