use Rattle.pnm_chain.proofs.Words.{◌≡◌, take, Channel, AreTaken}
use Rattle.pnm_chain.proofs.settings.Settings.planes.Given as goal

abbrev pub invariant-loop-number : goal.invariant-loop-number
invariant-loop-number l =
    AreTaken Channel l.fn.self.numbers.items → l.planes.items ≡ take l.number-index l.fn.self.numbers.items
