use Rattle.pnm_read.proofs.Words.{◌≡◌, ◌⊎◌, ◌+◌, ◌-◌, ◌<◌, ◌≤◌, ◌==◌, Bool, true, List, ℕ, zero, suc, length, ◌++◌, take, drop, inl, inr, ap, sym, arith, ◌∙◌}
use Rattle.pnm_read.proofs.Words.{append-nil, post_of, slice_range, with_items, eqb-true, common_steps, length-append, length-take, length-drop}
use Rattle.pnm_read.proofs.Words.{err_from_is_err_and}
use Rattle.pnm_read.proofs.ReadSteps.{call_grown, call_failed, range_grown}
use Rattle.pnm_read.proofs.buffered_reader.BufferedReader.read_more.Goals as goal

pub returns-clause-read_call : goal.returns-clause-read_call
returns-clause-read_call g c =
    let mid = c.move_to_front.new.self in
    let bytes : List ℕ = c.as_mut_slice.result.now in
    let target : List ℕ = c.read_into.new.target in
    let post : List ℕ = post_of mid.end (length bytes - mid.end) bytes in
    let kept : (with_items mid.buffer (take mid.end bytes ++ (target ++ post))).items ≡ take mid.end bytes ++ (target ++ post) = grind (arith, common_steps) in
    call_grown target c.in_ok-self.ensures.read c.move_to_front.ensures.reader c.requires.goes_on
    (λ e. eqb-true c.in_ok-self.field-0 0 (sym c.in_ok-self.ensures.end ∙ e)) (ap (λ (l : List ℕ). slice_range l mid.at (mid.end + c.in_ok-self.field-0)) kept
    ∙ range_grown bytes target post mid.at mid.end c.in_ok-self.field-0 (omega arith) (omega (arith, c.as_mut_slice.ensures.len)) c.in_ok-self.ensures.read.1
    ∙ ap (λ (l : List ℕ). l ++ take c.in_ok-self.field-0 target) (ap (λ (l : List ℕ). slice_range l mid.at mid.end) c.as_mut_slice.ensures.value
    ∙ c.move_to_front.ensures.held))

pub returns-in_err-self-clause-read_call : goal.returns-in_err-self-clause-read_call
returns-in_err-self-clause-read_call g c =
    let p = err_from_is_err_and c.from_residual.result c.from_residual.ensures.1 in
    let r = c.in_err-self.ensures.read in
    rw (p.1, p.2) (call_failed c.read_into.new.target r c.move_to_front.ensures.reader c.requires.goes_on c.in_err-self.ensures.end (λ b a. inl r.1))

-- more is held, or the end was seen
grown_or_ended : (old : List ℕ) {new : List ℕ} (target : List ℕ) (count : ℕ) {ended : Bool} → new ≡ old ++ take count target → count ≤ length target
    → ended ≡ (count == 0) → (length old < length new) ⊎ ((ended ≡ true) × (new ≡ old))
grown_or_ended old target zero more fits end = inr (end, more ∙ append-nil old)
grown_or_ended old target (suc count) more fits end =
    inl (omega (arith, ap (λ (l : List ℕ). length l) more, length-append old (take (suc count) target), length-take (suc count) target))

pub returns-clause-more : goal.returns-clause-more
returns-clause-more g c =
    let mid = c.move_to_front.new.self in
    let bytes : List ℕ = c.as_mut_slice.result.now in
    let target : List ℕ = c.read_into.new.target in
    let post : List ℕ = post_of mid.end (length bytes - mid.end) bytes in
    let kept : (with_items mid.buffer (take mid.end bytes ++ (target ++ post))).items ≡ take mid.end bytes ++ (target ++ post) = grind (arith, common_steps) in
    grown_or_ended _ target c.in_ok-self.field-0 (ap (λ (l : List ℕ). slice_range l mid.at (mid.end + c.in_ok-self.field-0)) kept
    ∙ range_grown bytes target post mid.at mid.end c.in_ok-self.field-0 (omega arith) (omega (arith, c.as_mut_slice.ensures.len)) c.in_ok-self.ensures.read.1
    ∙ ap (λ (l : List ℕ). l ++ take c.in_ok-self.field-0 target) (ap (λ (l : List ℕ). slice_range l mid.at mid.end) c.as_mut_slice.ensures.value
    ∙ c.move_to_front.ensures.held)) c.in_ok-self.ensures.read.1 c.in_ok-self.ensures.end

pub read_into-requires-clause-target : goal.read_into-requires-clause-target
read_into-requires-clause-target g c =
    let mid = c.move_to_front.new.self in
    let bytes : List ℕ = mid.buffer.items in
    omega (
      arith,
      c.requires.free,
      c.move_to_front.ensures.front,
      c.move_to_front.ensures.size,
      ap (λ (l : List ℕ). length l) c.move_to_front.ensures.held,
      length-take (mid.end - mid.at) (drop mid.at bytes),
      length-drop mid.at bytes,
      c.as_mut_slice.ensures.len,
      length-take (length c.as_mut_slice.result.now - mid.end) (drop mid.end c.as_mut_slice.result.now),
      length-drop mid.end c.as_mut_slice.result.now,
    )
