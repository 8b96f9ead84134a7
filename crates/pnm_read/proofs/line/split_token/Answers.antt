use Rattle.pnm_read.proofs.Words.{inl, inr, sym, ◌∙◌}
use Rattle.pnm_read.proofs.LineSteps.{split_more, split_token_is, split_rest_is, IsTokenEnd}
use Rattle.pnm_read.proofs.line.split_token.Goals as goal
use Rattle.pnm_read.proofs.line.split_token.Goals.{then-loop-length-test+else-not-is_blank, else-loop-length-test}

pub loop-length-preserved : goal.loop-length-preserved
loop-length-preserved c = split_more c.loop-length.invariant c.loop-length-test.true (sym c.is_blank.ensures ∙ c.if-not-is_blank.true)

pub returns-clause-token : goal.returns-clause-token
returns-clause-token c =
    let end : IsTokenEnd c.trimmed_start-text.result.now c.loop-length.length =
    elim c.loop-length-test.branch [
      | then-loop-length-test+else-not-is_blank w ↦ inr (w.loop-length-test.true, sym w.is_blank.ensures ∙ w.if-not-is_blank.false)
      | else-loop-length-test w ↦ inl w.loop-length-test.false
    ] in
    c.split_at.ensures.front ∙ split_token_is c.args.line.now c.trimmed_start-text.ensures c.loop-length.invariant end

pub returns-clause-rest : goal.returns-clause-rest
returns-clause-rest c =
    let end : IsTokenEnd c.trimmed_start-text.result.now c.loop-length.length =
    elim c.loop-length-test.branch [
      | then-loop-length-test+else-not-is_blank w ↦ inr (w.loop-length-test.true, sym w.is_blank.ensures ∙ w.if-not-is_blank.false)
      | else-loop-length-test w ↦ inl w.loop-length-test.false
    ] in
    c.split_at.ensures.back ∙ split_rest_is c.args.line.now c.trimmed_start-text.ensures c.loop-length.invariant end
