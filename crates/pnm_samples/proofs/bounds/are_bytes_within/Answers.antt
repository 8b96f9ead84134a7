use Rattle.pnm_samples.proofs.Words.{◌≤◌, arith, leb-true, le-leb}
use Rattle.pnm_samples.proofs.BoundLaws.{all_of_width}
use Rattle.pnm_samples.proofs.bounds.are_bytes_within.Goals as goal

pub returns-else-most-ge-GREATEST_BYTE : goal.returns-else-most-ge-GREATEST_BYTE
returns-else-most-ge-GREATEST_BYTE c = (
  λ t.
      let le : c.from.result ≤ c.args.most = leb-true _ _ t in
      (c.greatest_byte.ensures c.args.most).0 (omega arith),
  λ all.
      let le = (c.greatest_byte.ensures c.args.most).1 all in
      le-leb _ _ (omega arith),
)

pub returns-then-most-ge-GREATEST_BYTE : goal.returns-then-most-ge-GREATEST_BYTE
returns-then-most-ge-GREATEST_BYTE c =
    (λ t. all_of_width c.args.bytes.now 256 c.args.most (λ k. omega (arith, c.type_inv.bytes k)) (omega arith), λ all. le-leb _ _ (omega arith))
