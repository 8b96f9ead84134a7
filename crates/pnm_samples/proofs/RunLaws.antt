-- Runs of pixels that are moved to the front within the bytes of their rows.
use Rattle.pnm_samples.proofs.Words.{◌≡◌, ℕ, ◌+◌, ◌-◌, ◌*◌, ◌/◌, ◌%◌, ◌<◌, ◌≤◌, List, [], ◌++◌, get_or, length, take, drop, map, refl, sym, ap, ap₂, subst, ◌∙◌}
use Rattle.pnm_samples.proofs.Words.{arith, inl, inr, cases_lt, append_assoc, drop-append-le, drop-drop, drop-take, drop_at, length-append, length-drop}
use Rattle.pnm_samples.proofs.Words.{length-take-le, take-append-le, take-take, take_at, put_mid, IsMovedRun, row_bytes, bytes_for, rows_of_bytes, all_pixels}
use Rattle.std.proofs.Math.Seq.{take-add}
use Rattle.pnm_samples.proofs.BitRowLaws.{row_within}
use Rattle.pnm_samples.proofs.BitRowParts.{row_of_front}
use Rattle.pnm_samples.proofs.BitRowsMade.{part_fits, part_is, row_of_rows}
use Rattle.pnm_samples.proofs.PixelLaws.{all_pixels-append, drop-all_pixels, drop_within, length-all_pixels, take-all_pixels}
use Rattle.pnm_samples.proofs.PixelRowLaws.{run_of_row}
use Rattle.pnm_samples.proofs.PixelRowsLaws.{row_lies}

-- what is the same from one place on is so from a later one on
later : (a b : ℕ) (xs ys : List ℕ) → a ≤ b → drop a xs ≡ drop a ys → drop b xs ≡ drop b ys
later a b xs ys le same =
    let gap = b - a in
    let whole : a + gap ≡ b = omega (arith, le) in
    ap (λ (n : ℕ). drop n xs) (sym whole) ∙ sym (drop-drop gap a xs) ∙ ap (drop gap) same ∙ drop-drop gap a ys ∙ ap (λ (n : ℕ). drop n ys) whole

-- ---- a run

-- before it is moved
pub no_run : (from to skipped : ℕ) (old : List ℕ) → IsMovedRun from to skipped 0 old old
no_run from to skipped old = record {
  long = refl;
  before = refl;
  behind = refl;
  run = refl;
}

-- bytes with these pixels were put there
pub put_run : {from to skipped count : ℕ} (n : ℕ) {old : List ℕ} (part : List ℕ) {new : List ℕ} → n ≡ bytes_for count → length part ≡ bytes_for count
    → to + bytes_for count ≤ length old → new ≡ put_mid to n old part → take count (all_pixels part) ≡ take count (drop skipped (all_pixels (drop from old)))
    → IsMovedRun from to skipped count old new
put_run {to} {count} n {old} part {new} fits long within is made =
    let size = bytes_for count in
    let prefix = take to old in
    let rest = drop n (drop to old) in
    let front : length prefix ≡ to = length-take-le to old (omega (arith, within)) in
    let both : length (prefix ++ part) ≡ to + size = omega (arith, length-append prefix part, front, long) in
    let parts : new ≡ (prefix ++ part) ++ rest = is ∙ sym (append_assoc prefix part rest) in
    record {
      long = omega (
        arith,
        ap length parts,
        length-append (prefix ++ part) rest,
        both,
        length-drop n (drop to old),
        length-drop to old,
        within,
        fits,
      );
      before = ap (take to) is ∙ take_at prefix (part ++ rest) to front;
      behind = ap (drop (to + size)) parts ∙ drop_at (prefix ++ part) rest (to + size) both ∙ drop-drop n to old
          ∙ ap (λ (m : ℕ). drop (to + m) old) fits;
      run = ap (λ (l : List ℕ). take count (all_pixels l)) (ap (drop to) is ∙ drop_at prefix (part ++ rest) to front)
          ∙ ap (take count) (all_pixels-append part rest)
          ∙ take-append-le count (all_pixels part) (all_pixels rest) (omega (arith, length-all_pixels part, long)) ∙ made;
    }

-- a part of the front alone
pub put_front : (to n : ℕ) {bytes : List ℕ} (front back part : List ℕ) → bytes ≡ front ++ back → to + n ≤ length front
    → put_mid to n front part ++ back ≡ put_mid to n bytes part
put_front to n {bytes} front back part whole within =
    let rest = drop n (drop to front) in
    let before : take to bytes ≡ take to front = ap (take to) whole ∙ take-append-le to front back (omega (arith, within)) in
    let behind : rest ++ back ≡ drop n (drop to bytes) =
    ap (λ (l : List ℕ). l ++ back) (drop-drop n to front) ∙ sym (drop-append-le (to + n) front back within) ∙ ap (drop (to + n)) (sym whole)
    ∙ sym (drop-drop n to bytes) in
    append_assoc (take to front) (part ++ rest) back ∙ ap (λ (l : List ℕ). take to front ++ l) (append_assoc part rest back)
    ∙ ap₂ (λ (a b : List ℕ). a ++ (part ++ b)) (sym before) behind

-- more pixels, behind whole bytes that are moved already
pub moved_further : {from to skipped : ℕ} (done : ℕ) {count : ℕ} {old now new : List ℕ} → to ≤ from → IsMovedRun from to skipped (8 * done) old now
    → IsMovedRun (from + done) (to + done) skipped count now new → IsMovedRun from to skipped (8 * done + count) old new
moved_further {from} {to} {skipped} done {count} {old} {now} {new} down first next =
    let pixels = all_pixels (drop to new) in
    let source = all_pixels (drop from old) in
    let whole : bytes_for (8 * done) ≡ done = omega arith in
    let all : (to + done) + bytes_for count ≡ to + bytes_for (8 * done + count) = omega arith in
    let left : drop (to + done) now ≡ drop (to + done) old =
    ap (λ (n : ℕ). drop (to + n) now) (sym whole) ∙ first.behind ∙ ap (λ (n : ℕ). drop (to + n) old) whole in
    let held : take (8 * done) pixels ≡ take (8 * done) (drop skipped source) =
    take-all_pixels done (drop to new)
    ∙ ap all_pixels (sym (drop-take to done new) ∙ ap (drop to) next.before ∙ drop-take to done now)
    ∙ sym (take-all_pixels done (drop to now)) ∙ first.run in
    let added : take count (drop (8 * done) pixels) ≡ take count (drop (8 * done) (drop skipped source)) =
    ap (take count) (drop-all_pixels done (drop to new) ∙ ap all_pixels (drop-drop done to new))
    ∙ next.run
    ∙ ap (λ (l : List ℕ). take count (drop skipped (all_pixels l)))
    (later (to + done) (from + done) now old (omega (arith, down)) left ∙ sym (drop-drop done from old))
    ∙ ap (λ (l : List ℕ). take count (drop skipped l)) (sym (drop-all_pixels done (drop from old)))
    ∙ ap (take count) (drop-drop skipped (8 * done) source ∙ ap (λ (n : ℕ). drop n source) (omega arith) ∙ sym (drop-drop (8 * done) skipped source)) in
    record {
      long = next.long ∙ first.long;
      before = sym (take-take to (to + done) new (omega arith)) ∙ ap (take to) next.before ∙ take-take to (to + done) now (omega arith) ∙ first.before;
      behind = ap (λ (n : ℕ). drop n new) (sym all) ∙ next.behind
          ∙ later (to + done) ((to + done) + bytes_for count) now old (omega arith) left ∙ ap (λ (n : ℕ). drop n old) all;
      run = take-add (8 * done) count pixels ∙ ap₂ (λ (a b : List ℕ). a ++ b) held added ∙ sym (take-add (8 * done) count (drop skipped source));
    }

-- ---- a run of each row

-- the runs of the rows that have passed stand at the front; the bytes behind them are as they were
pub record AreMovedRuns (start apart left each passed : ℕ) (old now : List ℕ) : Type 0 where
  pub long : length now ≡ length old
  pub rows : (row : ℕ) → row < passed → take each (all_pixels (row_bytes (bytes_for each) row now))
      ≡ take each (drop left (all_pixels (drop (start + row * apart) old)))
  pub rest : drop (passed * bytes_for each) now ≡ drop (passed * bytes_for each) old

pub no_runs : (start apart left each : ℕ) (old : List ℕ) → AreMovedRuns start apart left each 0 old old
no_runs start apart left each old = record {
  long = refl;
  rows = λ row lt. absurd (omega (arith, lt));
  rest = refl;
}

-- a row more
pub one_more_run : {start apart left each row : ℕ} {old now new : List ℕ} → AreMovedRuns start apart left each row old now
    → row * bytes_for each ≤ start + row * apart + left / 8 → IsMovedRun (start + row * apart + left / 8) (row * bytes_for each) (left % 8) each now new
    → AreMovedRuns start apart left each (row + 1) old new
one_more_run {start} {apart} {left} {each} {row} {old} {now} {new} known down moved =
    let size = bytes_for each in
    let to = row * size in
    let place = start + row * apart in
    let next : to + size ≡ (row + 1) * size = omega arith in
    let source : drop (place + left / 8) now ≡ drop (left / 8) (drop place old) =
    later to (place + left / 8) now old down known.rest ∙ sym (drop-drop (left / 8) place old) in
    record {
      long = moved.long ∙ known.long;
      rows = λ k below. elim (cases_lt k row) [
        | inl before ↦
            ap (λ (l : List ℕ). take each (all_pixels l))
            (sym (row_of_front size row k new before) ∙ ap (row_bytes size k) moved.before ∙ row_of_front size row k now before)
            ∙ known.rows k before
        | inr after ↦
            let same : row ≡ k = omega (arith, below, after) in
            subst (λ (j : ℕ). take each (all_pixels (row_bytes size j new)) ≡ take each (drop left (all_pixels (drop (start + j * apart) old)))) same
            (ap (take each) (sym (take-all_pixels size (drop to new))) ∙ take-take each (8 * size) (all_pixels (drop to new)) (omega arith)
            ∙ moved.run ∙ ap (λ (l : List ℕ). take each (drop (left % 8) (all_pixels l))) source
            ∙ ap (take each) (sym (drop_within (left / 8) (left % 8) left (drop place old) (omega arith))))
      ];
      rest = ap (λ (n : ℕ). drop n new) (sym next) ∙ moved.behind ∙ later to (to + size) now old (omega arith) known.rest ∙ ap (λ (n : ℕ). drop n old) next;
    }

-- rows that lie as close together afterwards are moved as one run
pub one_run : {start apart : ℕ} (count : ℕ) {left : ℕ} (each : ℕ) {n : ℕ} (row : ℕ) {old new : List ℕ} → n ≡ 8 * (count * apart) - left
    → left + each ≤ 8 * apart → bytes_for each ≡ apart → row < count → IsMovedRun start 0 left n old new
    → take each (all_pixels (row_bytes (bytes_for each) row new)) ≡ take each (drop left (all_pixels (drop (start + row * apart) old)))
one_run {start} {apart} count {left} each {n} row {old} {new} many within close lt moved =
    let size = bytes_for each in
    let to = row * size in
    let place : row * size ≡ row * apart = ap (λ (k : ℕ). row * k) close in
    let ends : row * apart + apart ≤ count * apart = row_within count apart row (count * apart) refl lt in
    let source = drop left (all_pixels (drop start old)) in
    let inside : 8 * to + each ≤ n = omega (arith, many, within, ends, place) in
    let rest = n - 8 * to in
    let whole : 8 * to + rest ≡ n = omega (arith, inside) in
    ap (take each) (sym (take-all_pixels size (drop to new))) ∙ take-take each (8 * size) (all_pixels (drop to new)) (omega arith)
    ∙ ap (take each) (sym (drop-all_pixels to new)) ∙ run_of_row new (8 * to) each n inside moved.run
    ∙ ap (λ (k : ℕ). take each (drop (8 * to) (take k source))) (sym whole) ∙ ap (take each) (drop-take (8 * to) rest source)
    ∙ take-take each rest (drop (8 * to) source) (omega (arith, inside))
    ∙ ap (take each) (drop-drop (8 * to) left (all_pixels (drop start old)) ∙ ap (λ (k : ℕ). drop k (all_pixels (drop start old))) (omega arith)
    ∙ sym (drop-drop left (8 * to) (all_pixels (drop start old))))
    ∙ ap (λ (l : List ℕ). take each (drop left l)) (drop-all_pixels to (drop start old) ∙ ap all_pixels (drop-drop to start old))
    ∙ ap (λ (k : ℕ). take each (drop left (all_pixels (drop (start + k) old)))) place

-- of some rows that are held
module _ (held whole top count left each : ℕ) (bytes now kept : List ℕ) (rows : List (List ℕ)) (is : rows_of_bytes held whole bytes ≡ rows)
    (long : length bytes ≡ held * bytes_for whole) (within : top + count ≤ length rows)
    (inside : (k : ℕ) → k < length rows → left + each ≤ length (get_or rows k [])) (same : length now ≡ length bytes)
    (kept_is : kept ≡ take (count * bytes_for each) now) where
  pub length_of_kept : length kept ≡ count * bytes_for each
  length_of_kept =
      ap length kept_is
      ∙ length-take-le (count * bytes_for each) now (omega (arith, part_fits held whole top count left each bytes is long within inside, same))

  module _ (start apart : ℕ) (wide : apart ≡ bytes_for whole) (from : start ≡ top * apart)
      (moved : (row : ℕ) → row < count → take each (all_pixels (row_bytes (bytes_for each) row now))
      ≡ take each (drop left (all_pixels (drop (start + row * apart) bytes)))) where
    run_is : (k : ℕ) → k < count → take each (all_pixels (row_bytes (bytes_for each) k kept)) ≡ take each (drop left (get_or rows (top + k) []))
    run_is k lt =
        let lies = row_of_rows held whole (top + k) bytes rows is long (omega (arith, lt, within)) in
        let place : start + k * apart ≡ (top + k) * bytes_for whole = ap (λ (n : ℕ). n + k * apart) from ∙ ap (λ (n : ℕ). top * n + k * n) wide ∙ omega arith in
        let here = drop ((top + k) * bytes_for whole) bytes in
        let row : take whole (all_pixels here) ≡ get_or rows (top + k) [] =
        sym (row_lies held whole (top + k) bytes lies.0) ∙ ap (λ (l : List (List ℕ)). get_or l (top + k) []) is in
        ap (λ (l : List ℕ). take each (all_pixels (row_bytes (bytes_for each) k l))) kept_is
        ∙ ap (λ (l : List ℕ). take each (all_pixels l)) (row_of_front (bytes_for each) count k now lt) ∙ moved k lt
        ∙ ap (λ (n : ℕ). take each (drop left (all_pixels (drop n bytes)))) place
        ∙ run_of_row here left each whole (omega (arith, inside (top + k) (omega (arith, lt, within)), lies.1)) row

    pub kept_runs : rows_of_bytes count each kept ≡ map (λ row. take each (drop left row)) (take count (drop top rows))
    kept_runs = part_is top count left each count kept rows within (omega arith) (record { long = length_of_kept; rows = run_is })
