use Rattle.pnm_serial.proofs.Words.{◌≡◌, ◌≤◌, ◌+◌, ◌*◌, ◌∙◌, ℕ, List, length, ap, sym, subst, row_messages, rows_list, repeated, length_of_repeated}
use Rattle.pnm_serial.proofs.Words.{repeated_some, saturate_u64, rows_in}
use Rattle.pnm_serial.proofs.MessageSteps.{rows_in-rows}
use Rattle.pnm_serial.proofs.summary.Summary.count_rows.Goals as goal

pub returns-clause-rows : goal.returns-clause-rows
returns-clause-rows c =
    let held = c.parts-times.result.0.now in
    let times = c.parts-times.result.1 in
    let n = c.args.self.now.rows in
    let first = subst (λ (k : ℕ). 1 ≤ k) c.count.ensures.rows c.count.ensures.some in
    let many : length (repeated times held) ≡ length held * times = length_of_repeated times held in
    let all : rows_list c.args.rows.now ≡ repeated times held = ap rows_list c.in-Some.is ∙ c.parts-times.ensures.rows in
    c.saturating_add-self.ensures
    ∙ ap (λ (k : ℕ). saturate_u64 (n + k)) (rw (c.from.ensures, c.count.ensures.rows, c.from-2.ensures) (sym many))
    ∙ sym (rows_in-rows n (repeated times held) (repeated_some times held c.parts-times.ensures.some first))
    ∙ ap (λ (rows : List (List ℕ)). rows_in n (row_messages rows)) (sym all)
