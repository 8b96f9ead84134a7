-- How a call ends that writes bytes part by part.
use Rattle.pnm_write.proofs.Words.{◌≡◌, ℕ, List, [], ◌++◌, Option, Result, Ok, Err, IsErr, refl, sym, FailsIn, DeviceFailed, Sending, sending_part}
use Rattle.pnm_write.proofs.Words.{sending_part_failed, WriteCall}
use Rattle.std.proofs.Common.{append-nil}
use Rattle.pnm_write.proofs.PartLaws.{all_written}

-- the writer failed in a part of what was left
pub call_failed : {W : Type 0} (held : W → Option (List ℕ)) (failures : W → ℕ) (same : W → W → Type 0) (old a b : W) (bytes rest x y : List ℕ)
    (result : Result (Unit {0}) DeviceFailed) → IsErr result → rest ≡ x ++ y → Sending held failures same old a bytes rest
    → FailsIn x (held a) (held b) (failures a) (failures b) → same old b → WriteCall held failures same old b result bytes
call_failed held failures same old a b bytes rest x y (Ok done) failed parts sending part device = cc
call_failed held failures same old a b bytes rest x y (Err fault) failed parts sending part device = record {
  written = tt;
  failed = sending_part_failed held failures same old a b bytes rest x y parts sending part;
  count = tt;
  same_device = device;
}

-- nothing is left
pub call_done : {W : Type 0} (held : W → Option (List ℕ)) (failures : W → ℕ) (same : W → W → Type 0) (old now : W) (bytes rest : List ℕ)
    → Sending held failures same old now bytes rest → rest ≡ [] → WriteCall held failures same old now (Ok tt) bytes
call_done held failures same old now bytes rest sending none = record {
  written = all_written sending.written none;
  failed = tt;
  count = sending.count;
  same_device = sending.same_device;
}

-- and then the rest was written, or failed
pub call_on : {W : Type 0} {held : W → Option (List ℕ)} {failures : W → ℕ} {same : W → W → Type 0} {old now new : W} {bytes rest : List ℕ}
    (result : Result (Unit {0}) DeviceFailed) → Sending held failures same old now bytes rest → WriteCall held failures same now new result rest
    → same old new → WriteCall held failures same old new result bytes
call_on {held} {failures} {same} {old} {now} {new} {bytes} {rest} (Ok done) sending call device =
    call_done held failures same old new bytes []
    (sending_part held failures same old now new bytes rest rest [] (sym (append-nil rest)) sending call.written call.count device) refl
call_on {held} {failures} {same} {old} {now} {new} {bytes} {rest} (Err fault) sending call device =
    call_failed held failures same old now new bytes rest rest [] (Err fault) refl (sym (append-nil rest)) sending call.failed device
