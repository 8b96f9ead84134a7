use Rattle.pnm_read.proofs.Words.{◌≤◌, rules, arith}
use Rattle.pnm_read.proofs.LeadingLaws.{number_is_first, at_most_one}
use Rattle.pnm_read.proofs.leading.number_first.Goals as goal

pub returns : goal.returns
returns c =
    number_is_first c.args.bytes.now c.digit_value-of_one.result c.digit_value.result c.digit_value-2.result c.digit_value-3.result c.digit_value-4.result _
    c.in-len6-up.len_at_least (search rules)
    c.digit_value-of_one.ensures.value c.digit_value.ensures.value c.digit_value-2.ensures.value c.digit_value-3.ensures.value c.digit_value-4.ensures.value
    (search rules) (search rules)

pub overflow_add-more : goal.overflow_add-more
overflow_add-more c =
    let one : c.from.result ≤ 1 = at_most_one _ c.from.ensures in
    let two : c.from-2.result ≤ 1 = at_most_one _ c.from-2.ensures in
    omega arith

pub overflow_add-more-2 : goal.overflow_add-more-2
overflow_add-more-2 c =
    let one : c.from.result ≤ 1 = at_most_one _ c.from.ensures in
    let two : c.from-2.result ≤ 1 = at_most_one _ c.from-2.ensures in
    let three : c.from-3.result ≤ 1 = at_most_one _ c.from-3.ensures in
    omega arith

pub overflow_add-more-3 : goal.overflow_add-more-3
overflow_add-more-3 c =
    let one : c.from.result ≤ 1 = at_most_one _ c.from.ensures in
    let two : c.from-2.result ≤ 1 = at_most_one _ c.from-2.ensures in
    let three : c.from-3.result ≤ 1 = at_most_one _ c.from-3.ensures in
    let four : c.from-4.result ≤ 1 = at_most_one _ c.from-4.ensures in
    omega arith

pub bounds-more-more : goal.bounds-more-more
bounds-more-more c =
    let one : c.from.result ≤ 1 = at_most_one _ c.from.ensures in
    let two : c.from-2.result ≤ 1 = at_most_one _ c.from-2.ensures in
    let three : c.from-3.result ≤ 1 = at_most_one _ c.from-3.ensures in
    let four : c.from-4.result ≤ 1 = at_most_one _ c.from-4.ensures in
    omega arith

pub offset_bounds-more : goal.offset_bounds-more
offset_bounds-more c =
    let one : c.from.result ≤ 1 = at_most_one _ c.from.ensures in
    let two : c.from-2.result ≤ 1 = at_most_one _ c.from-2.ensures in
    let three : c.from-3.result ≤ 1 = at_most_one _ c.from-3.ensures in
    let four : c.from-4.result ≤ 1 = at_most_one _ c.from-4.ensures in
    omega arith

pub bounds-more-more-2 : goal.bounds-more-more-2
bounds-more-more-2 c =
    let one : c.from.result ≤ 1 = at_most_one _ c.from.ensures in
    let two : c.from-2.result ≤ 1 = at_most_one _ c.from-2.ensures in
    let three : c.from-3.result ≤ 1 = at_most_one _ c.from-3.ensures in
    let four : c.from-4.result ≤ 1 = at_most_one _ c.from-4.ensures in
    omega arith

pub overflow_add-result : goal.overflow_add-result
overflow_add-result c =
    let one : c.from.result ≤ 1 = at_most_one _ c.from.ensures in
    let two : c.from-2.result ≤ 1 = at_most_one _ c.from-2.ensures in
    let three : c.from-3.result ≤ 1 = at_most_one _ c.from-3.ensures in
    let four : c.from-4.result ≤ 1 = at_most_one _ c.from-4.ensures in
    omega arith
