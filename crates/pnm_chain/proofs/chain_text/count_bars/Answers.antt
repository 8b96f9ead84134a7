use Rattle.pnm_chain.proofs.Words.{rules, ◌≡◌, ◌∙◌, ℕ, List, ◌+◌, ◌==◌, length, sym, ap, take, arith, count_by, take-length, count_by_more_no}
use Rattle.pnm_chain.proofs.Words.{count_by_more_yes, length-slice_split}
use Rattle.pnm_chain.proofs.chain_text.count_bars.Goals as goal

pub loop-byte-preserved : goal.loop-byte-preserved
loop-byte-preserved c = search (rules, count_by_more_no, count_by_more_yes)

pub returns : goal.returns
returns c =
    let ended : c.loop-byte.byte-index ≡ length c.args.text.now = omega arith in
    ap (λ (n : ℕ). n + 1) (c.loop-byte.invariant.0 ∙ ap (λ (i : ℕ). count_by (λ b. b == 124) (take i c.args.text.now)) ended
    ∙ ap (λ (l : List ℕ). count_by (λ b. b == 124) l) (take-length c.args.text.now))
    ∙ sym (length-slice_split (λ b. b == 124) c.args.text.now)
