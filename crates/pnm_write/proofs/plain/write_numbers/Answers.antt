use Rattle.pnm_write.proofs.Words.{◌≡◌, ◌==◌, ◌≤◌, ◌∙◌, ◌++◌, Bool, false, List, ℕ, ap, length, map, take, drop, arith, rules, subst, sym, drop-map, take-map}
use Rattle.pnm_write.proofs.Words.{length-map, Gray, Sending, sending_part, plain_row_text, text_of_part, column_after_part, sample_texts, row_end}
use Rattle.pnm_write.proofs.PlainLaws.{text_left, part_of_numbers, row_text_left, some_left}
use Rattle.pnm_write.proofs.WriteCallSteps.{call_failed}
use Rattle.pnm_write.proofs.plain.write_numbers.Goals as goal

-- what is left of a row of numbers, as it holds them, is the part that is written now, and the rest
values_split : {X : Type 0} (value : X → ℕ) (column n : ℕ) (rest : List X) {part after : List X} {set written : List ℕ} {then_column : ℕ}
    {is_none is_end : Bool} → n ≤ length rest → is_none ≡ (length rest == 0) → is_none ≡ false → part ≡ take n rest → after ≡ drop n rest
    → set ≡ text_of_part column (sample_texts Gray (map value part)) → then_column ≡ column_after_part column (sample_texts Gray (map value part))
    → is_end ≡ (length after == 0) → written ≡ set ++ row_end is_end
    → text_left column Gray (map value rest) ≡ written ++ text_left then_column Gray (map value after)
values_split value column n rest {after} within none some front back text column_is ends whole =
    part_of_numbers column n (map value rest) (omega (arith, length-map rest value))
    (omega (arith, length-map rest value, some_left (length rest) none some)) (ap (map value) front ∙ sym (take-map value n rest))
    (ap (map value) back ∙ sym (drop-map value n rest)) text column_is (ends ∙ ap (λ (k : ℕ). k == 0) (sym (length-map after value))) whole

pub returns-in_err-write_all : goal.returns-in_err-write_all
returns-in_err-write_all g c =
    let value = g.N.Sample.value in
    let split = values_split value c.loop-rest.column c.min-count.result c.loop-rest.rest.now (omega arith) c.is_empty.ensures c.loop-rest-test.true
    c.split_at.ensures.front c.split_at.ensures.back c.set_numbers-column.ensures.text c.set_numbers-column.ensures.column c.is_empty-in-loop-rest.ensures
    (c.as_slice.ensures ∙ c.end_row.ensures) in
    call_failed g.W.BytesOut.held g.W.BytesOut.failures g.W.BytesOut.same c.args.writer.now c.loop-rest.writer c.write_all.new.writer
    (plain_row_text Gray (map value c.args.numbers.now)) (text_left c.loop-rest.column Gray (map value c.loop-rest.rest.now)) c.as_slice.result.now
    (text_left c.set_numbers-column.result Gray (map value c.split_at.result.1.now))
    c.from_residual.result c.from_residual.ensures.0 split c.loop-rest.invariant.sending c.in_err-write_all.ensures.failed
    (g.met.W.BytesOut.same_later _ _ _ c.loop-rest.invariant.sending.same_device c.in_err-write_all.ensures.same_device)

pub loop-rest-preserved : goal.loop-rest-preserved
loop-rest-preserved g c =
    let value = g.N.Sample.value in
    let split = values_split value c.loop-rest.column c.min-count.result c.loop-rest.rest.now (omega arith) c.is_empty.ensures c.loop-rest-test.true
    c.split_at.ensures.front c.split_at.ensures.back c.set_numbers-column.ensures.text c.set_numbers-column.ensures.column c.is_empty-in-loop-rest.ensures
    (c.as_slice.ensures ∙ c.end_row.ensures) in
    record {
      sending = sending_part g.W.BytesOut.held g.W.BytesOut.failures g.W.BytesOut.same c.args.writer.now c.loop-rest.writer c.write_all.new.writer
          (plain_row_text Gray (map value c.args.numbers.now)) (text_left c.loop-rest.column Gray (map value c.loop-rest.rest.now)) c.as_slice.result.now
          (text_left c.set_numbers-column.result Gray (map value c.split_at.result.1.now)) split c.loop-rest.invariant.sending
          c.in_ok-write_all.ensures.written c.in_ok-write_all.ensures.count
          (g.met.W.BytesOut.same_later _ _ _ c.loop-rest.invariant.sending.same_device c.in_ok-write_all.ensures.same_device);
      line = c.set_numbers-column.ensures.line;
    }

pub loop-rest-init : goal.loop-rest-init
loop-rest-init g c =
    let xs = map g.N.Sample.value c.args.numbers.now in
    let start : Sending g.W.BytesOut.held g.W.BytesOut.failures g.W.BytesOut.same c.args.writer.now c.args.writer.now (plain_row_text Gray xs)
    (plain_row_text Gray xs) = search rules in
    record {
      sending = subst (Sending g.W.BytesOut.held g.W.BytesOut.failures g.W.BytesOut.same c.args.writer.now c.args.writer.now (plain_row_text Gray xs))
          (row_text_left Gray xs c.requires) start;
      line = omega arith;
    }
