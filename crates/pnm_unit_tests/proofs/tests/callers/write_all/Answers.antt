use Rattle.std.proofs.Common.{arith, ℕ, ◌+◌, ◌-◌, List, length, take, drop, ◌∙◌}
use Rattle.std.proofs.Math.Seq.{take-add}
use Rattle.std.proofs.lemmas.List.{length-drop, take_rest}
use Rattle.std.proofs.KnownBytes.{Appends-trans}
use Rattle.std.specs.Prelude.{Option}
use Rattle.std.specs.Io.KnownBytes.{Appends}
use Rattle.pnm_unit_tests.proofs.tests.callers.write_all.Goals as goal

-- i bytes of a list, and then n of those that were left, are the first i + n
Appends-further : (a b c : Option (List ℕ)) (all : List ℕ) (i n : ℕ) → Appends a b (take i all) → Appends b c (take n (take (length all - i) (drop i all)))
    → Appends a c (take (i + n) all)
Appends-further a b c all i n before more = rw (take-add i n all) (Appends-trans a b c (take i all) (take n (drop i all)) before (rw (take_rest all i) at more))

pub loop-at-preserved : goal.loop-at-preserved
loop-at-preserved g c =
    let was = c.loop-at.invariant in
    record {
      within = omega (arith, length-drop c.loop-at.at c.args.bytes.now, c.in_ok-at.ensures.bound);
      appended = Appends-further _ _ _ c.args.bytes.now c.loop-at.at c.in_ok-at.field-0 was.appended c.in_ok-at.ensures.bytes;
      count = c.in_ok-at.ensures.count ∙ was.count;
      same = g.met.W.BytesOut.same_later _ _ _ was.same c.in_ok-at.ensures.same_device;
    }
