-- The part keeps the device that it was lent, which holds more by the bytes that are passed.
use Rattle.std.proofs.Common.{◌≡◌, take}
use Rattle.std.specs.Io.KnownBytes.{Appends}
use Rattle.pnm_unit_tests.proofs.tests.callers.write_bytewise.Given as goal

abbrev pub invariant-loop-byte : goal.invariant-loop-byte
invariant-loop-byte g l = record {
  appended : Appends (g.W.BytesOut.held l.initial.part.device.now) (g.W.BytesOut.held l.part.device.now) (take l.byte-index l.bytes);
  count : g.W.BytesOut.failures l.part.device.now ≡ g.W.BytesOut.failures l.initial.part.device.now;
  lent : l.part.device.ghost_name ≡ l.initial.part.device.ghost_name;
  same : g.W.BytesOut.same l.initial.part.device.now l.part.device.now;
}
