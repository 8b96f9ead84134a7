use Rattle.pnm_write.proofs.Words.{◌++◌, ◌∙◌, List, ℕ, take, ap, arith, take_all, length-drop}
use Rattle.pnm_write.proofs.NumeralLaws.{small_is_put}
use Rattle.pnm_write.proofs.numerals.put_small.Goals as goal

pub returns-clause-text : goal.returns-clause-text
returns-clause-text c =
    let entry = c.entry-entry.result.now in
    let is = c.entry-entry.ensures in
    small_is_put c.args.buffer.now c.put_four.new.buffer c.args.at c.requires.range is (omega (arith, is.size, c.from.ensures))
    (c.put_four.ensures ∙ ap (λ (l : List ℕ). take c.args.at c.args.buffer.now ++ take 4 l) (take_all _ _ (omega (arith, length-drop 1 entry, is.long))))
    (omega arith)
