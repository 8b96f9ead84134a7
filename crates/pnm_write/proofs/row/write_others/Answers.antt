use Rattle.pnm_write.proofs.Words.{◌≡◌, ◌∙◌, ◌++◌, ◌+◌, ◌-◌, ◌≤◌, min, List, [], ℕ, length, take, drop, All, refl, ap, sym, subst, arith, ◌<◌, Bool, true}
use Rattle.pnm_write.proofs.Words.{false, if◌then◌else◌, Ok, nat_lt, nat_tests, All-weaker, All-take, All-drop, length-drop, length-take, take_at, drop-drop}
use Rattle.pnm_write.proofs.Words.{drop_all, SampleWidth, Bits, Bytes, Words, Kind, Bit, Gray, Color, Pam, sample_width_of, slice_samples, FitIn, bytes_in}
use Rattle.pnm_write.proofs.Words.{WriteCall, sending_part}
use Rattle.std.proofs.lemmas.List.{length-append}
use Rattle.pnm_write.proofs.PartLaws.{begin_sending}
use Rattle.pnm_write.proofs.RawLaws.{few_parts}
use Rattle.pnm_write.proofs.WriteCallSteps.{call_failed, call_done}
use Rattle.pnm_write.proofs.row.write_others.Goals as goal

-- no samples have no bytes
no_bytes : (p : SampleWidth) → bytes_in p [] ≡ []
no_bytes Bits = refl
no_bytes Bytes = refl
no_bytes Words = refl

-- what was copied is a part of the part
copied_part : (done n : ℕ) (samples : List ℕ) {copied : List ℕ} (words : List ℕ) → n ≤ 2048 → length words ≡ 2048 → copied ≡ take (length (take n words))
    (drop done samples) → copied ≡ take n (drop done samples)
copied_part done n samples words few buffer same =
    let size : length (take n words) ≡ n = omega (arith, length-take n words) in
    same ∙ ap (λ (k : ℕ). take k (drop done samples)) size

-- the bytes that are left are those of the part that is written now, and those after it
copied_and_rest : (p : SampleWidth) (done : ℕ) {n : ℕ} (part : List ℕ) {copied : List ℕ} (words : List ℕ) {written : List ℕ}
    → n ≡ min (length part - done) 2048 → length copied ≡ n → copied ≡ take n (drop done part) → written ≡ bytes_in p (take n (copied ++ drop n words))
    → bytes_in p (drop done part) ≡ written ++ bytes_in p (drop (done + n) part)
copied_and_rest p done {n} part {copied} words {written} e size same w =
    let count : n ≡ min (length (drop done part)) 2048 = omega (arith, length-drop done part) in
    few_parts p n (drop done part) count
    ∙ ap (λ (l : List ℕ). bytes_in p l ++ bytes_in p (drop n (drop done part))) (sym same ∙ sym (take_at copied (drop n words) n size))
    ∙ ap (λ (l : List ℕ). l ++ bytes_in p (drop n (drop done part))) (sym w)
    ∙ ap (λ (l : List ℕ). written ++ bytes_in p l) (drop-drop n done part)

-- samples fit one byte, where the maxval does
fit_by : (is_short : Bool) (maxval : ℕ) (samples : List ℕ) → (is_short ≡ true → maxval < 256) → All (λ sample. sample ≤ maxval) samples
    → FitIn (if is_short then Bytes else Words) samples
fit_by true maxval samples short range =
    let less : maxval < 256 = short refl in
    All-weaker (λ sample. sample ≤ maxval) (λ sample. sample ≤ 255) (λ sample h. omega arith) samples range
fit_by false maxval samples short range = tt

is_less : (a b : ℕ) → nat_lt a b ≡ true → a < b
is_less a b e = grind (arith, nat_tests)

-- samples up to the maxval fit their bytes
fit_of : (kind : Kind) (maxval : ℕ) (samples : List ℕ) → All (λ sample. sample ≤ maxval) samples → FitIn (sample_width_of kind maxval) samples
fit_of Bit maxval samples range = tt
fit_of Gray maxval samples range = fit_by (nat_lt maxval 256) maxval samples (is_less maxval 256) range
fit_of Color maxval samples range = fit_by (nat_lt maxval 256) maxval samples (is_less maxval 256) range
fit_of Pam maxval samples range = fit_by (nat_lt maxval 256) maxval samples (is_less maxval 256) range

pub fill-requires-clause-range : goal.fill-requires-clause-range
fill-requires-clause-range g c =
    let n = c.min-size.result in
    let done = c.loop-done.done in
    let words = c.loop-done.words in
    let range : ℕ → Type 0 = λ sample. sample ≤ c.args.shape.maxval in
    let part = slice_samples c.args.row in
    let long : length part ≡ c.args.count = c.requires.count in
    let same = copied_part done n part words (omega arith) c.loop-done.invariant.2 c.copy_to.ensures in
    let size : length c.copy_to.new.buffer ≡ n = ap length same ∙ omega (arith, length-take n (drop done part), length-drop done part) in
    let all : All range (take n (drop done part)) = All-take range n (drop done part) (All-drop range done part c.requires.range) in
    let copied : take n (c.copy_to.new.buffer ++ drop n words) ≡ take n (drop done part) = take_at c.copy_to.new.buffer (drop n words) n size ∙ same in
    subst (FitIn c.of-sample_width.result) (sym copied) (subst (λ (p : SampleWidth). FitIn p (take n (drop done part))) (sym c.of-sample_width.ensures)
    (fit_of c.args.shape.kind c.args.shape.maxval (take n (drop done part)) all))

pub returns-in_err-write_all : goal.returns-in_err-write_all
returns-in_err-write_all g c =
    let n = c.min-size.result in
    let done = c.loop-done.done in
    let part = slice_samples c.args.row in
    let words = c.loop-done.words in
    let long : length part ≡ c.args.count = c.requires.count in
    let same = copied_part done n part words (omega arith) c.loop-done.invariant.2 c.copy_to.ensures in
    let size : length c.copy_to.new.buffer ≡ n = ap length same ∙ omega (arith, length-take n (drop done part), length-drop done part) in
    let split = copied_and_rest c.of-sample_width.result done part words (omega arith) size same (c.as_slice.ensures ∙ c.fill.ensures) in
    let call = call_failed g.W.BytesOut.held g.W.BytesOut.failures g.W.BytesOut.same c.args.writer.now c.loop-done.writer c.write_all.new.writer
    (bytes_in c.of-sample_width.result part) (bytes_in c.of-sample_width.result (drop done part)) c.as_slice.result.now
    (bytes_in c.of-sample_width.result (drop (done + n) part))
    c.from_residual.result c.from_residual.ensures.0 split c.loop-done.invariant.0 c.in_err-write_all.ensures.failed
    (g.met.W.BytesOut.same_later _ _ _ c.loop-done.invariant.0.same_device c.in_err-write_all.ensures.same_device) in
    subst (λ (p : SampleWidth). WriteCall g.W.BytesOut.held g.W.BytesOut.failures g.W.BytesOut.same c.args.writer.now c.write_all.new.writer
    c.from_residual.result (bytes_in p part)) c.of-sample_width.ensures call

pub loop-done-preserved : goal.loop-done-preserved
loop-done-preserved g c =
    let n = c.min-size.result in
    let done = c.loop-done.done in
    let part = slice_samples c.args.row in
    let words = c.loop-done.words in
    let long : length part ≡ c.args.count = c.requires.count in
    let same = copied_part done n part words (omega arith) c.loop-done.invariant.2 c.copy_to.ensures in
    let size : length c.copy_to.new.buffer ≡ n = ap length same ∙ omega (arith, length-take n (drop done part), length-drop done part) in
    let split = copied_and_rest c.of-sample_width.result done part words (omega arith) size same (c.as_slice.ensures ∙ c.fill.ensures) in (
      sending_part g.W.BytesOut.held g.W.BytesOut.failures g.W.BytesOut.same c.args.writer.now c.loop-done.writer c.write_all.new.writer
          (bytes_in c.of-sample_width.result part) (bytes_in c.of-sample_width.result (drop done part)) c.as_slice.result.now
          (bytes_in c.of-sample_width.result (drop (done + n) part)) split c.loop-done.invariant.0 c.in_ok-write_all.ensures.written
          c.in_ok-write_all.ensures.count (g.met.W.BytesOut.same_later _ _ _ c.loop-done.invariant.0.same_device c.in_ok-write_all.ensures.same_device),
      omega arith,
      omega (arith, length-append c.copy_to.new.buffer (drop n words), length-drop n words, size),
    )

pub loop-done-init : goal.loop-done-init
loop-done-init g c = (
  begin_sending g.W.BytesOut.held g.W.BytesOut.failures g.W.BytesOut.same c.args.writer.now
      (bytes_in c.of-sample_width.result (slice_samples c.args.row)) (g.met.W.BytesOut.same_at_once _),
  omega arith,
  refl,
)

pub returns : goal.returns
returns g c =
    let part = slice_samples c.args.row in
    let long : length part ≡ c.args.count = c.requires.count in
    let none : drop c.loop-done.done part ≡ [] = drop_all c.loop-done.done part (omega arith) in
    let call = call_done g.W.BytesOut.held g.W.BytesOut.failures g.W.BytesOut.same c.args.writer.now c.loop-done.writer (bytes_in c.of-sample_width.result part)
    (bytes_in c.of-sample_width.result (drop c.loop-done.done part)) c.loop-done.invariant.0
    (ap (bytes_in c.of-sample_width.result) none ∙ no_bytes c.of-sample_width.result) in
    subst (λ (p : SampleWidth). WriteCall g.W.BytesOut.held g.W.BytesOut.failures g.W.BytesOut.same c.args.writer.now c.loop-done.writer (Ok tt)
    (bytes_in p part)) c.of-sample_width.ensures call
