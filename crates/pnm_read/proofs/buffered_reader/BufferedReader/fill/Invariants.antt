use Rattle.pnm_read.proofs.Words.{◌≡◌, ◌+◌, ◌-◌, Ok, length, if◌then◌else◌, held_of, ReadCall, Fills, HoldsEnough}
use Rattle.pnm_read.proofs.buffered_reader.BufferedReader.fill.Given as goal

abbrev pub invariant-loop-self : goal.invariant-loop-self
invariant-loop-self g l =
    ReadCall {A = Unit {0}} g.R.BytesIn.left g.R.BytesIn.failures g.R.BytesIn.same l.initial.self l.self (Ok tt) (Fills (Ok tt))
    × (HoldsEnough l.wanted l.initial.self → l.self ≡ l.initial.self)

abbrev pub decreases-loop-self : goal.decreases-loop-self
decreases-loop-self g l = (if l.self.ended then 0 else 1) + (l.wanted - length (held_of l.self))
