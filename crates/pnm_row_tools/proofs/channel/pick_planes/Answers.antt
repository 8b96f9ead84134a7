use Rattle.pnm_row_tools.proofs.Words.{◌≡◌, ◌*◌, ◌<◌, ℕ, List, All, length, map, ap, sym, subst, ◌∙◌, arith, mul_assoc, mul-le-mul, concat, All-from_recursion}
use Rattle.pnm_row_tools.proofs.Words.{row_length, AreRowsWithin, IsRowOf, RowVec, picked_samples, HoldsRows, as_wide}
use Rattle.pnm_row_tools.proofs.ChannelRowsLaws.{picked_cut, picked_rows_within}
use Rattle.pnm_row_tools.proofs.HeldRowsLaws.{concat_cut, concat_long, rows_within}
use Rattle.pnm_row_tools.proofs.channel.pick_planes.Goals.{in-Bits+in_ok-unpacked-in-Bits+in_ok-picked-in-Bits, in-Bytes+in_ok-picked-in-Bytes}
use Rattle.pnm_row_tools.proofs.channel.pick_planes.Goals.{in-Words+in_ok-picked-in-Words}
use Rattle.pnm_row_tools.proofs.channel.pick_planes.Goals as goal

pub pick-requires-clause-pixels : goal.pick-requires-clause-pixels
pick-requires-clause-pixels c =
    let s = c.args.shape in
    let rows = c.args.rows.now in
    let long : All (λ row. length row ≡ row_length s) rows = λ k d lt. (All-from_recursion (IsRowOf s) rows c.requires.rows k d lt).count in
    ap length (c.as_slice-in-Bits.ensures.value ∙ c.in_ok-unpacked-in-Bits.ensures)
    ∙ concat_long (row_length s) c.in-Bits.bits.now (c.in-Bits.ensures.whole (row_length s) long)
    ∙ sym (mul_assoc (length rows) s.width s.depth) ∙ ap (λ (n : ℕ). n * s.width * s.depth) (sym c.count-count.ensures.rows)

pub pick-requires-in-Bytes-clause-pixels : goal.pick-requires-in-Bytes-clause-pixels
pick-requires-in-Bytes-clause-pixels c =
    let s = c.args.shape in
    let rows = c.args.rows.now in
    let long : All (λ row. length row ≡ row_length s) rows = λ k d lt. (All-from_recursion (IsRowOf s) rows c.requires.rows k d lt).count in
    c.in-Bytes.ensures.whole (row_length s) long
    ∙ sym (mul_assoc (length rows) s.width s.depth) ∙ ap (λ (n : ℕ). n * s.width * s.depth) (sym c.count-count.ensures.rows)

pub pick-requires-in-Words-clause-pixels : goal.pick-requires-in-Words-clause-pixels
pick-requires-in-Words-clause-pixels c =
    let s = c.args.shape in
    let rows = c.args.rows.now in
    let long : All (λ row. length row ≡ row_length s) rows = λ k d lt. (All-from_recursion (IsRowOf s) rows c.requires.rows k d lt).count in
    c.in-Words.ensures.whole (row_length s) long
    ∙ sym (mul_assoc (length rows) s.width s.depth) ∙ ap (λ (n : ℕ). n * s.width * s.depth) (sym c.count-count.ensures.rows)

pub overflow_mul-width : goal.overflow_mul-width
overflow_mul-width c =
    let width : ℕ = c.args.shape.width in
    let many : ℕ = length c.numbers-numbers.result.now in
    let few = ap length c.numbers-numbers.ensures in
    let small = mul-le-mul {n₁ = width} {m₁ = many} {n₂ = 4294967295} {m₂ = 65535} (omega arith) (omega (arith, few, c.requires.lawful.not_many)) in
    omega (arith, small)

-- however the rows are held
made : (c : goal.Joined-as_slice) → HoldsRows c.count-count.result (c.args.shape.width * length c.numbers-numbers.result.now) c.match-as_slice.held
    (map (picked_samples c.numbers-numbers.result.now c.args.shape) c.args.rows.now)
made c =
    let s = c.args.shape in
    let rows = c.args.rows.now in
    let numbers = c.numbers-numbers.result.now in
    let long : All (λ row. length row ≡ row_length s) rows = λ k d lt. (All-from_recursion (IsRowOf s) rows c.requires.rows k d lt).count in
    let below : All (λ number. number < s.depth) numbers = subst (All (λ number. number < s.depth)) (sym c.numbers-numbers.ensures) c.requires.planes in
    let Made : ℕ → RowVec → Type 0 = λ (n : ℕ) (picked : RowVec). HoldsRows n (s.width * length numbers) picked (map (picked_samples numbers s) rows) in
    let of : ℕ → List ℕ → List ℕ = λ n samples. picked_samples numbers (as_wide (n * s.width) s) samples in
    let many = c.count-count.ensures.rows in
    subst (λ (n : ℕ). Made n c.match-as_slice.held) (sym many) (elim c.match-as_slice.branch [
      | in-Bits+in_ok-unpacked-in-Bits+in_ok-picked-in-Bits w ↦
          let bits = w.in-Bits.bits.now in
          let whole = w.in-Bits.ensures.whole (row_length s) long in
          subst (Made (length rows)) (sym w.held-is) (picked_cut numbers s (length rows) (concat bits) below (concat_long (row_length s) bits whole)
          (concat_cut (row_length s) bits whole ∙ w.in-Bits.ensures.rows (row_length s) long)
          (w.in_ok-picked-in-Bits.ensures 0 ∙ ap (of c.count-count.result) (w.as_slice-in-Bits.ensures.value ∙ w.in_ok-unpacked-in-Bits.ensures)
          ∙ ap (λ (n : ℕ). of n (concat bits)) many))
      | in-Bytes+in_ok-picked-in-Bytes w ↦
          subst (Made (length rows)) (sym w.held-is) (picked_cut numbers s (length rows) w.in-Bytes.bytes.now below
          (w.in-Bytes.ensures.whole (row_length s) long)
          (w.in-Bytes.ensures.rows (row_length s) long) (w.in_ok-picked-in-Bytes.ensures 0 ∙ ap (λ (n : ℕ). of n w.in-Bytes.bytes.now) many))
      | in-Words+in_ok-picked-in-Words w ↦
          subst (Made (length rows)) (sym w.held-is) (picked_cut numbers s (length rows) w.in-Words.words.now below
          (w.in-Words.ensures.whole (row_length s) long)
          (w.in-Words.ensures.rows (row_length s) long) (w.in_ok-picked-in-Words.ensures 0 ∙ ap (λ (n : ℕ). of n w.in-Words.words.now) many))
    ])

pub new-requires-clause-whole : goal.new-requires-clause-whole
new-requires-clause-whole c = (made c).0

pub new-requires-clause-within : goal.new-requires-clause-within
new-requires-clause-within c =
    let s = c.args.shape in
    subst (AreRowsWithin s.maxval) (sym (made c).1)
    (picked_rows_within c.numbers-numbers.result.now s c.args.rows.now (rows_within s c.args.rows.now c.requires.rows))

pub returns : goal.returns
returns c =
    c.new.ensures ∙ (made c.before).1
    ∙ ap (λ (numbers : List ℕ). map (picked_samples numbers c.args.shape) c.args.rows.now) c.numbers-numbers.ensures
