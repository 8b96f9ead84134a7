use Rattle.pnm_chain.proofs.Words.{◌≡◌, ◌≤◌, ◌==◌, take, count_by}
use Rattle.pnm_chain.proofs.chain_text.count_bars.Given as goal

abbrev pub invariant-loop-byte : goal.invariant-loop-byte
invariant-loop-byte l = (l.bars ≡ count_by (λ b. b == 124) (take l.byte-index l.fn.text)) × (l.bars ≤ l.byte-index)
