-- The device holds more by the bytes that are passed, and has failed no further.
use Rattle.std.proofs.Common.{◌≡◌, ◌-◌, ◌≤◌, take, length}
use Rattle.std.specs.Io.KnownBytes.{Appends}
use Rattle.pnm_unit_tests.proofs.tests.callers.write_all.Given as goal

abbrev pub invariant-loop-at : goal.invariant-loop-at
invariant-loop-at g l = record {
  within : l.at ≤ length l.bytes;
  appended : Appends (g.W.BytesOut.held l.initial.writer) (g.W.BytesOut.held l.writer) (take l.at l.bytes);
  count : g.W.BytesOut.failures l.writer ≡ g.W.BytesOut.failures l.initial.writer;
  same : g.W.BytesOut.same l.initial.writer l.writer;
}

abbrev pub decreases-loop-at : goal.decreases-loop-at
decreases-loop-at g l = length l.bytes - l.at
