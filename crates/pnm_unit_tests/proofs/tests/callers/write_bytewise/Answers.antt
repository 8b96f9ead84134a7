use Rattle.std.proofs.Common.{rules, ℕ, zero, suc, ◌+◌, ◌<◌, List, [], ◌∷◌, ◌∙◌, subst, length, take, get_or, add-one, append-nil}
use Rattle.std.proofs.Math.Seq.{take-nil, take-suc}
use Rattle.std.proofs.KnownBytes.{Appends-trans}
use Rattle.std.specs.Prelude.{Option}
use Rattle.std.specs.Io.KnownBytes.{Appends}
use Rattle.pnm_unit_tests.proofs.tests.callers.write_bytewise.Goals as goal

-- i bytes of a list, and then the next, are the first i + 1
Appends-next : (a b c : Option (List ℕ)) (all : List ℕ) (i : ℕ) → i < length all → Appends a b (take i all) → Appends b c (get_or all i 0 ∷ [])
    → Appends a c (take (i + 1) all)
Appends-next a b c all i below before next = rw (add-one, take-suc all i 0 below) (Appends-trans a b c (take i all) (get_or all i 0 ∷ []) before next)

-- i bytes of a list, and then a prefix of the next alone, are a prefix
Appends-prefix : (a b c : Option (List ℕ)) (all : List ℕ) (i n : ℕ) → i < length all → Appends a b (take i all) → Appends b c (take n (get_or all i 0 ∷ []))
    → (k : ℕ) × Appends a c (take k all)
Appends-prefix a b c all i zero below before none = (i, rw append-nil at (Appends-trans a b c (take i all) [] before none))
Appends-prefix a b c all i (suc n) below before next =
    (i + 1, Appends-next a b c all i below before (subst (λ (rest : List ℕ). Appends b c (get_or all i 0 ∷ rest)) (take-nil n) next))

pub returns-in_err-write_all-clause-prefix : goal.returns-in_err-write_all-clause-prefix
returns-in_err-write_all-clause-prefix g c =
    let was = c.loop-byte.invariant.appended in
    let prefix = c.in_err-write_all.ensures.prefix in
    let more : (k : ℕ) × Appends (g.W.BytesOut.held c.args.writer.now) (g.W.BytesOut.held c.write_all.new.self.device.now) (take k c.args.bytes.now) =
    Appends-prefix _ _ _ c.args.bytes.now c.loop-byte.byte-index prefix.0 c.loop-byte-test.true was prefix.1 in
    search (rules, more)

pub loop-byte-preserved : goal.loop-byte-preserved
loop-byte-preserved g c =
    let was = c.loop-byte.invariant in
    let made = c.in_ok-write_all.ensures in
    record {
      appended = Appends-next _ _ _ c.args.bytes.now c.loop-byte.byte-index c.loop-byte-test.true was.appended made.whole;
      count = made.kept ∙ was.count;
      lent = made.same_device.0 ∙ was.lent;
      same = g.met.W.BytesOut.same_later _ _ _ was.same made.same_device.1;
    }
