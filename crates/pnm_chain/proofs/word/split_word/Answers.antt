use Rattle.pnm_chain.proofs.Words.{◌≡◌, ℕ, List, ◌∷◌, length, inl, inr, sym, ◌∙◌, arith, rules, words}
use Rattle.pnm_chain.proofs.WordLaws.{start_more, shorter_more, in_word_more, IsWordEnd, IsAtWord, first_word_is, no_word_is}
use Rattle.pnm_chain.proofs.word.split_word.Goals as goal
use Rattle.pnm_chain.proofs.word.split_word.Goals.{then-rest-lt1, in-len1-up+else-is_white, then-loop-length-test+else-not-is_white, else-loop-length-test}

words_in : {word rest prefix back : List ℕ} → prefix ≡ word → back ≡ rest → word ∷ words rest ≡ prefix ∷ words back
words_in e f = cc

pub loop-rest-preserved : goal.loop-rest-preserved
loop-rest-preserved c = (
  start_more c.loop-rest.rest.now c.in-len1-up.len_at_least (sym c.is_white.ensures ∙ c.if-is_white.true) ∙ c.loop-rest.invariant.0,
  shorter_more c.loop-rest.rest.now (length c.args.text.now) c.loop-rest.invariant.1,
)

pub loop-length-preserved : goal.loop-length-preserved
loop-length-preserved c = in_word_more c.loop-rest.rest.now c.loop-length.length c.loop-length.invariant c.loop-length-test.true
    (sym c.is_white-in-loop-length.ensures ∙ c.if-not-is_white.true)

pub returns-then-length-eq0-clause-first : goal.returns-then-length-eq0-clause-first
returns-then-length-eq0-clause-first c =
    let at_word : IsAtWord c.loop-rest.rest.now =
    elim c.if-rest-lt1.branch [
      | then-rest-lt1 w ↦ inl (search rules)
      | in-len1-up+else-is_white w ↦ inr (sym w.is_white.ensures ∙ w.if-is_white.false)
    ] in
    let end : IsWordEnd c.loop-rest.rest.now c.loop-length.length =
    elim c.loop-length-test.branch [
      | then-loop-length-test+else-not-is_white w ↦ inr (w.loop-length-test.true, sym w.is_white-in-loop-length.ensures ∙ w.if-not-is_white.false)
      | else-loop-length-test w ↦ inl w.loop-length-test.false
    ] in
    sym c.loop-rest.invariant.0 ∙ no_word_is c.loop-rest.rest.now c.loop-length.length (omega arith) at_word end

pub returns-clause-first : goal.returns-clause-first
returns-clause-first c =
    let end : IsWordEnd c.loop-rest.rest.now c.loop-length.length =
    elim c.loop-length-test.branch [
      | then-loop-length-test+else-not-is_white w ↦ inr (w.loop-length-test.true, sym w.is_white-in-loop-length.ensures ∙ w.if-not-is_white.false)
      | else-loop-length-test w ↦ inl w.loop-length-test.false
    ] in
    let first = first_word_is c.loop-rest.rest.now c.loop-length.length c.loop-length.invariant (omega arith) end in
    sym c.loop-rest.invariant.0 ∙ first ∙ words_in c.split_at.ensures.front c.split_at.ensures.back
