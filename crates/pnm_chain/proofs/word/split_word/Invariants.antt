use Rattle.pnm_chain.proofs.Words.{◌≡◌, ◌≤◌, ◌-◌, length, words}
use Rattle.pnm_chain.proofs.WordLaws.{IsInWord}
use Rattle.pnm_chain.proofs.word.split_word.Given as goal

abbrev pub invariant-loop-rest : goal.invariant-loop-rest
invariant-loop-rest l = (words l.rest ≡ words l.fn.text) × (length l.rest ≤ length l.fn.text)

abbrev pub decreases-loop-rest : goal.decreases-loop-rest
decreases-loop-rest l = length l.rest

abbrev pub invariant-loop-length : goal.invariant-loop-length
invariant-loop-length l = IsInWord l.rest l.length

abbrev pub decreases-loop-length : goal.decreases-loop-length
decreases-loop-length l = length l.rest - l.length
