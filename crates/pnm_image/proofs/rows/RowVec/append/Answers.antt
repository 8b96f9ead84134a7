use Rattle.std.proofs.Common.{◌≡◌, ◌++◌, Bool, Result, sym, subst}
use Rattle.std.specs.Bool.{IsTrue}
use Rattle.std.specs.Result.{IfOk}
use Rattle.std.specs.declared.alloc.AllocError.{AllocError}
use Rattle.std.proofs.lemmas.Result.{IfOk-weaker}
use Rattle.pnm_image.specs.declared.rows.RowVec.TheVariants.{Bits, Bytes, Words}
use Rattle.pnm_image.specs.declared.rows.RowSlice.TheVariants.{Bits as SliceBits, Bytes as SliceBytes, Words as SliceWords}
use Rattle.pnm_image.specs.HeldRows.{HasAdded}
use Rattle.pnm_image.proofs.HeldRowLaws.{added_as, bits_behind, cut_behind}
use Rattle.pnm_image.proofs.rows.RowVec.append.Goals as goal
use Rattle.pnm_image.proofs.rows.RowVec.append.Goals.{in-Bits-Bits, in-Bytes-Bytes+in_ok-extend_from_slice-in-Bytes-Bytes}
use Rattle.pnm_image.proofs.rows.RowVec.append.Goals.{in-Words-Words+in_ok-extend_from_slice-in-Words-Words, in_default, in_default-2, in_default-3}

pub returns-clause-added : goal.returns-clause-added
returns-clause-added c =
    let old = c.args.self.now in
    let more = c.args.more in
    let new = c.match-self.self in
    let P : Bool → Type 0 = λ done. IsTrue done → HasAdded old more new in
    let at = λ (r : Result Bool AllocError). IfOk r P in
    elim c.match-self.branch [
      | in-Bits-Bits w ↦
          let rows = w.in-Bits-Bits.rows in
          let lent = w.in-Bits-Bits.more in
          let both = w.append.new.self in
          subst at (sym w.result-is)
          (IfOk-weaker w.append.result (λ done. IsTrue done → both ≡ rows ++ lent.now) P
          (λ done h yes. added_as old (Bits rows) new (Bits both) more (SliceBits lent) w.in-Bits-Bits.is-0 w.self-is w.in-Bits-Bits.is-1
          (λ count many each a b. bits_behind count many each rows lent.now both (h yes) a b)) w.append.ensures.added)
      | in-Bytes-Bytes+in_ok-extend_from_slice-in-Bytes-Bytes w ↦
          let bytes = w.in-Bytes-Bytes.bytes in
          let lent = w.in-Bytes-Bytes.more in
          let both = w.extend_from_slice.new.self in
          subst at (sym w.result-is)
          (λ yes. added_as old (Bytes bytes) new (Bytes both) more (SliceBytes lent) w.in-Bytes-Bytes.is-0 w.self-is w.in-Bytes-Bytes.is-1
          (λ count many each a b. cut_behind count many each bytes.items lent.now both.items w.in_ok-extend_from_slice-in-Bytes-Bytes.ensures.items a b))
      | in-Words-Words+in_ok-extend_from_slice-in-Words-Words w ↦
          let words = w.in-Words-Words.words in
          let lent = w.in-Words-Words.more in
          let both = w.extend_from_slice-in-Words-Words.new.self in
          subst at (sym w.result-is)
          (λ yes. added_as old (Words words) new (Words both) more (SliceWords lent) w.in-Words-Words.is-0 w.self-is w.in-Words-Words.is-1
          (λ count many each a b. cut_behind count many each words.items lent.now both.items w.in_ok-extend_from_slice-in-Words-Words.ensures.items a b))
      | in_default w ↦ subst at (sym w.result-is) (λ yes. absurd (cc))
      | in_default-2 w ↦ subst at (sym w.result-is) (λ yes. absurd (cc))
      | in_default-3 w ↦ subst at (sym w.result-is) (λ yes. absurd (cc))
    ]
