use Rattle.pnm_repeat_tools.proofs.Words.{◌++◌, ◌∙◌, List, ℕ, ap, row_lists}
use Rattle.pnm_repeat_tools.proofs.KeptRowLaws.{known_on_err, words_behind}
use Rattle.pnm_repeat_tools.proofs.kept_rows.hold_behind.Goals as goal

pub returns-then-branch-clause-added : goal.returns-then-branch-clause-added
returns-then-branch-clause-added c = λ count more_count each are more.
    let both = c.in_ok-append.ensures.added c.if-branch.true count more_count each are (c.as_slice.ensures.whole more_count each more) in (
      both.0 ∙ ap (λ (l : List (List ℕ)). row_lists count each c.args.held.now ++ l) (c.as_slice.ensures.lists more_count each),
      both.1,
    )

pub returns-in_err-words-clause-failed : goal.returns-in_err-words-clause-failed
returns-in_err-words-clause-failed c = known_on_err c.from_residual-in_err-words.result (c.in_ok-append.ensures.same c.if-branch.false)

pub returns-in_err-behind-clause-failed : goal.returns-in_err-behind-clause-failed
returns-in_err-behind-clause-failed c = known_on_err c.from_residual-in_err-behind.result (c.in_ok-append.ensures.same c.if-branch.false)

pub returns-in_err-extend_from_slice-clause-failed : goal.returns-in_err-extend_from_slice-clause-failed
returns-in_err-extend_from_slice-clause-failed c =
    known_on_err c.from_residual-in_err-extend_from_slice.result (c.in_ok-append.ensures.same c.if-branch.false)

pub returns-clause-added : goal.returns-clause-added
returns-clause-added c = λ count more_count each are more.
    let same = c.in_ok-append.ensures.same c.if-branch.false count each are in
    let first = c.as_slice-2.ensures.whole count each same.1 in
    let second = c.as_slice-3.ensures.whole more_count each more in
    words_behind count more_count each c.in_ok-words.words.items c.in_ok-behind.behind.items
    (c.in_ok-words.ensures.whole count each first) (c.in_ok-behind.ensures.whole more_count each second)
    (c.in_ok-words.ensures.rows count each first ∙ c.as_slice-2.ensures.lists count each ∙ same.0)
    (c.in_ok-behind.ensures.rows more_count each second ∙ c.as_slice-3.ensures.lists more_count each)
    (c.in_ok-extend_from_slice.ensures.items ∙ ap (λ (l : List ℕ). c.in_ok-words.words.items ++ l) c.as_slice-4.ensures.value)
