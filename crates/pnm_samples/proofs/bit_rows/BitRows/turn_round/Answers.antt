use Rattle.pnm_samples.proofs.Words.{◌≡◌, ◌∙◌, List, ℕ, map, reverse, ap, arith, common_steps, with_items, rows_of_bytes, all_pixels}
use Rattle.pnm_samples.proofs.BitRowsMade.{rows_turned, turned_begin_white}
use Rattle.pnm_samples.proofs.bit_rows.BitRows.turn_round.Goals as goal

pub move_each_to_end-requires-clause-white : goal.move_each_to_end-requires-clause-white
move_each_to_end-requires-clause-white c = λ row lt.
    let x = c.self.inside in
    let first : c.as_mut_slice-2.result.now ≡ c.turn_round.new.bytes = grind (arith, common_steps) in
    let turned : all_pixels c.as_mut_slice-2.result.now ≡ reverse (all_pixels x.bytes.items) = ap all_pixels first ∙ c.turn_round.ensures
    ∙ ap (λ (l : List ℕ). reverse (all_pixels l)) c.as_mut_slice.ensures.value in
    turned_begin_white x.count x.each x.bytes.items c.as_mut_slice-2.result.now c.self.invariant turned row lt

pub returns : goal.returns
returns c =
    let x = c.self.inside in
    let last : (with_items (with_items x.bytes c.turn_round.new.bytes) c.move_each_to_end.new.bytes).items ≡ c.move_each_to_end.new.bytes =
    grind (arith, common_steps) in
    let first : c.as_mut_slice-2.result.now ≡ c.turn_round.new.bytes = grind (arith, common_steps) in
    let turned : all_pixels c.as_mut_slice-2.result.now ≡ reverse (all_pixels x.bytes.items) = ap all_pixels first ∙ c.turn_round.ensures
    ∙ ap (λ (l : List ℕ). reverse (all_pixels l)) c.as_mut_slice.ensures.value in
    ap (rows_of_bytes x.count x.each) last
    ∙ rows_turned x.count x.each x.bytes.items c.as_mut_slice-2.result.now c.self.invariant turned c.move_each_to_end.new.bytes
    (λ row lt. c.move_each_to_end.ensures.moved row lt)
    ∙ ap (λ (rows : List (List ℕ)). reverse (map reverse rows)) c.self.view_is
