use Rattle.pnm_write.proofs.Words.{◌≡◌, ◌≤◌, ◌<◌, ◌^◌, ◌∙◌, ◌++◌, ◌+◌, ◌-◌, ◌==◌, min, Bool, true, false, List, ℕ, length, take, drop, All, ap, sym, subst}
use Rattle.pnm_write.proofs.Words.{rules, arith, length-drop, length-take, take_at, drop-drop, All-weaker, nat_tests, Kind, slice_samples, Sending}
use Rattle.pnm_write.proofs.Words.{sending_part, plain_row_text, text_of_part, column_after_part, sample_texts, row_end}
use Rattle.std.proofs.lemmas.List.{length-append}
use Rattle.pnm_write.proofs.PlainLaws.{text_left, left_part, row_text_left}
use Rattle.pnm_write.proofs.WriteCallSteps.{call_failed}
use Rattle.pnm_write.proofs.plain.write_others.Goals as goal

-- what was copied is a part of the row
copied_part : (done n : ℕ) (samples : List ℕ) {copied : List ℕ} (words : List ℕ) → n ≤ 680 → length words ≡ 680 → copied ≡ take (length (take n words))
    (drop done samples) → copied ≡ take n (drop done samples)
copied_part done n samples words few buffer same =
    let size : length (take n words) ≡ n = omega (arith, length-take n words) in
    same ∙ ap (λ (k : ℕ). take k (drop done samples)) size

-- what is left is the part that is written now, and the rest
part_and_rest : (kind : Kind) (column done : ℕ) {n : ℕ} (row : List ℕ) {copied : List ℕ} (words : List ℕ) {written set : List ℕ} (is_end : Bool)
    {then_column : ℕ} → done < length row → n ≡ min (length row - done) 680 → length copied ≡ n → copied ≡ take n (drop done row)
    → set ≡ text_of_part column (sample_texts kind (take n (copied ++ drop n words)))
    → then_column ≡ column_after_part column (sample_texts kind (take n (copied ++ drop n words))) → (done + n ≡ length row → is_end ≡ true)
    → (done + n < length row → is_end ≡ false) → written ≡ set ++ row_end is_end
    → text_left column kind (drop done row) ≡ written ++ text_left then_column kind (drop (done + n) row)
part_and_rest kind column done {n} row {copied} words {written} {set} is_end {then_column} more count long taken text column_is last on whole =
    let rest : List ℕ = drop done row in
    let size : length rest ≡ length row - done = length-drop done row in
    let prefix : take n (copied ++ drop n words) ≡ take n rest = take_at copied (drop n words) n long ∙ taken in
    left_part column kind n rest is_end (omega arith) (omega arith) (λ e. last (omega arith)) (λ e. on (omega arith))
    ∙ ap (λ (l : List ℕ). (text_of_part column (sample_texts kind l) ++ row_end is_end) ++ text_left (column_after_part column (sample_texts kind l)) kind
    (drop n rest)) (sym prefix)
    ∙ ap (λ (l : List ℕ). (l ++ row_end is_end) ++ text_left (column_after_part column (sample_texts kind (take n (copied ++ drop n words)))) kind
    (drop n rest)) (sym text)
    ∙ ap (λ (k : ℕ). (set ++ row_end is_end) ++ text_left k kind (drop n rest)) (sym column_is)
    ∙ ap (λ (l : List ℕ). l ++ text_left then_column kind (drop n rest)) (sym whole)
    ∙ ap (λ (l : List ℕ). written ++ text_left then_column kind l) (drop-drop n done row)

-- whether the row ends here
ends : {a b : ℕ} → a ≡ b → (a == b) ≡ true
ends e = grind (arith, nat_tests)

goes_on : (a b : ℕ) → a < b → (a == b) ≡ false
goes_on a b h = grind (arith, nat_tests)

pub returns-in_err-write_all : goal.returns-in_err-write_all
returns-in_err-write_all g c =
    let n = c.min-size.result in
    let done = c.loop-done.done in
    let row = slice_samples c.args.row in
    let words = c.loop-done.words in
    let long : length row ≡ c.args.count = c.requires.count in
    let same = copied_part done n row words (omega arith) c.loop-done.invariant.buffer c.copy_to.ensures in
    let size : length c.copy_to.new.buffer ≡ n = ap length same ∙ omega (arith, length-take n (drop done row), length-drop done row) in
    let split = part_and_rest c.args.shape.kind c.loop-done.column done row words _ (omega arith) (omega arith) size same c.set_part-column.ensures.text
    c.set_part-column.ensures.column
    (λ e. ends (omega arith)) (λ h. goes_on _ _ (omega arith)) (c.as_slice.ensures ∙ c.end_row.ensures) in
    call_failed g.W.BytesOut.held g.W.BytesOut.failures g.W.BytesOut.same c.args.writer.now c.loop-done.writer c.write_all.new.writer
    (plain_row_text c.args.shape.kind row) (text_left c.loop-done.column c.args.shape.kind (drop done row)) c.as_slice.result.now
    (text_left c.set_part-column.result c.args.shape.kind (drop (done + n) row))
    c.from_residual.result c.from_residual.ensures.0 split c.loop-done.invariant.sending c.in_err-write_all.ensures.failed
    (g.met.W.BytesOut.same_later _ _ _ c.loop-done.invariant.sending.same_device c.in_err-write_all.ensures.same_device)

pub loop-done-preserved : goal.loop-done-preserved
loop-done-preserved g c =
    let n = c.min-size.result in
    let done = c.loop-done.done in
    let row = slice_samples c.args.row in
    let words = c.loop-done.words in
    let long : length row ≡ c.args.count = c.requires.count in
    let same = copied_part done n row words (omega arith) c.loop-done.invariant.buffer c.copy_to.ensures in
    let size : length c.copy_to.new.buffer ≡ n = ap length same ∙ omega (arith, length-take n (drop done row), length-drop done row) in
    let split = part_and_rest c.args.shape.kind c.loop-done.column done row words _ (omega arith) (omega arith) size same c.set_part-column.ensures.text
    c.set_part-column.ensures.column
    (λ e. ends (omega arith)) (λ h. goes_on _ _ (omega arith)) (c.as_slice.ensures ∙ c.end_row.ensures) in
    record {
      sending = sending_part g.W.BytesOut.held g.W.BytesOut.failures g.W.BytesOut.same c.args.writer.now c.loop-done.writer c.write_all.new.writer
          (plain_row_text c.args.shape.kind row) (text_left c.loop-done.column c.args.shape.kind (drop done row)) c.as_slice.result.now
          (text_left c.set_part-column.result c.args.shape.kind (drop (done + n) row)) split c.loop-done.invariant.sending
          c.in_ok-write_all.ensures.written c.in_ok-write_all.ensures.count
          (g.met.W.BytesOut.same_later _ _ _ c.loop-done.invariant.sending.same_device c.in_ok-write_all.ensures.same_device);
      within = omega arith;
      line = c.set_part-column.ensures.line;
      buffer = omega (arith, length-append c.copy_to.new.buffer (drop n words), length-drop n words, size);
    }

pub loop-done-init : goal.loop-done-init
loop-done-init g c =
    let row = slice_samples c.args.row in
    let within : ℕ → Type 0 = λ sample. sample ≤ c.args.shape.maxval in
    let range : All within row = c.requires.range in
    let fit : All (λ sample. sample < 2 ^ 64) row = All-weaker within (λ sample. sample < 2 ^ 64) (λ n h. omega arith) row range in
    let start : Sending g.W.BytesOut.held g.W.BytesOut.failures g.W.BytesOut.same c.args.writer.now c.args.writer.now (plain_row_text c.args.shape.kind row)
    (plain_row_text c.args.shape.kind row) = search rules in
    record {
      sending = subst
          (Sending g.W.BytesOut.held g.W.BytesOut.failures g.W.BytesOut.same c.args.writer.now c.args.writer.now (plain_row_text c.args.shape.kind row))
          (row_text_left c.args.shape.kind row fit) start;
      within = omega arith;
      line = omega arith;
      buffer = omega arith;
    }
