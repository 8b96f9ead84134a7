use Rattle.pnm_repeat_tools.proofs.Words.{◌≤◌, ◌*◌, ◌∙◌, ℕ, ap, arith, rows_need}
use Rattle.pnm_repeat_tools.proofs.WideRowLaws.{together_held}
use Rattle.pnm_repeat_tools.proofs.larger.enlarge_together.Goals as goal

pub overflow_mul-wide : goal.overflow_mul-wide
overflow_mul-wide c =
    let need = rows_need c.args.shape c.row_length.result c.args.rows.now c.row_length.ensures.some c.row_length.ensures.each c.requires.rows in
    let wide : c.row_length.result * c.args.across ≤ 16777216 = omega (arith, ap (λ (n : ℕ). n * c.args.across) need.0, c.requires.ready.row) in
    omega (arith, wide)

pub new-requires-clause-whole : goal.new-requires-clause-whole
new-requires-clause-whole c =
    let s = c.args.shape in
    let need = rows_need s c.row_length.result c.args.rows.now c.row_length.ensures.some c.row_length.ensures.each c.requires.rows in
    (together_held c.args.across c.args.down s c.args.rows.now c.in_ok-held.held c.count.ensures.rows need.0 c.requires.rows c.in_ok-held.ensures.made).0.1

pub new-requires-clause-within : goal.new-requires-clause-within
new-requires-clause-within c =
    let s = c.args.shape in
    let need = rows_need s c.row_length.result c.args.rows.now c.row_length.ensures.some c.row_length.ensures.each c.requires.rows in
    (together_held c.args.across c.args.down s c.args.rows.now c.in_ok-held.held c.count.ensures.rows need.0 c.requires.rows c.in_ok-held.ensures.made).1

pub returns-clause-made : goal.returns-clause-made
returns-clause-made c =
    let s = c.args.shape in
    let need = rows_need s c.row_length.result c.args.rows.now c.row_length.ensures.some c.row_length.ensures.each c.requires.rows in
    c.new.ensures ∙ (together_held c.args.across c.args.down s c.args.rows.now c.in_ok-held.held c.count.ensures.rows need.0
    c.requires.rows c.in_ok-held.ensures.made).0.0
