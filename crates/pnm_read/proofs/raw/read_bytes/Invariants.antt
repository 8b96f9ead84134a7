use Rattle.pnm_read.proofs.Words.{◌≡◌, ◌-◌, ◌≤◌, take, vec_len, samples_of_bytes, AreBytesWithin}
use Rattle.pnm_read.proofs.RawSteps.{ReadingUnits}
use Rattle.pnm_read.proofs.raw.read_bytes.Given as goal

-- the prefix of the row was read, and the rest is still to be
abbrev pub invariant-loop-filled : goal.invariant-loop-filled
invariant-loop-filled g l =
    ReadingUnits g.R.BytesIn.left g.R.BytesIn.failures g.R.BytesIn.same l.sample_width l.shape.maxval l.count (l.count - l.filled)
    (samples_of_bytes l.sample_width (take l.filled l.row.items)) l.initial.input l.input
    × (l.filled ≤ l.count) × (vec_len l.row ≡ l.count) × AreBytesWithin l.sample_width l.shape.maxval (take l.filled l.row.items)

abbrev pub decreases-loop-filled : goal.decreases-loop-filled
decreases-loop-filled g l = l.count - l.filled
