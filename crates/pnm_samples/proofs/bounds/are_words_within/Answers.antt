use Rattle.pnm_samples.proofs.Words.{◌≤◌, arith, leb-true, le-leb}
use Rattle.pnm_samples.proofs.BoundLaws.{all_of_width}
use Rattle.pnm_samples.proofs.bounds.are_words_within.Goals as goal

pub returns-else-most-ge-GREATEST_WORD : goal.returns-else-most-ge-GREATEST_WORD
returns-else-most-ge-GREATEST_WORD c = (
  λ t.
      let le : c.from.result ≤ c.args.most = leb-true _ _ t in
      (c.greatest.ensures c.args.most).0 (omega arith),
  λ all.
      let le = (c.greatest.ensures c.args.most).1 all in
      le-leb _ _ (omega arith),
)

pub returns-then-most-ge-GREATEST_WORD : goal.returns-then-most-ge-GREATEST_WORD
returns-then-most-ge-GREATEST_WORD c =
    (λ t. all_of_width c.args.words.now 65536 c.args.most (λ k. omega (arith, c.type_inv.words k)) (omega arith), λ all. le-leb _ _ (omega arith))
