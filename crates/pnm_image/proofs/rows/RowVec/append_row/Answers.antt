use Rattle.std.proofs.Common.{◌≡◌, ◌++◌, ◌∷◌, [], ◌∙◌, Bool, List, ℕ, Result, sym, ap, subst}
use Rattle.std.specs.Bool.{IsTrue}
use Rattle.std.specs.Result.{IfOk}
use Rattle.std.specs.declared.alloc.AllocError.{AllocError}
use Rattle.std.proofs.lemmas.Result.{IfOk-weaker}
use Rattle.pnm_samples.specs.SampleVecs.{slice_samples}
use Rattle.pnm_image.specs.declared.rows.RowVec.TheVariants.{Bits, Bytes, Words}
use Rattle.pnm_image.specs.Internal.PickedRows.{HasAddedRow}
use Rattle.pnm_image.proofs.HeldRowLaws.{bits_row_behind, cut_row_behind, row_added_as}
use Rattle.pnm_image.proofs.rows.RowVec.append_row.Goals as goal
use Rattle.pnm_image.proofs.rows.RowVec.append_row.Goals.{in-Bits-Bits, in-Bytes-Bytes+in_ok-extend_from_slice-in-Bytes-Bytes}
use Rattle.pnm_image.proofs.rows.RowVec.append_row.Goals.{in-Words-Words+in_ok-extend_from_slice-in-Words-Words, in_default, in_default-2, in_default-3}

pub returns-clause-added : goal.returns-clause-added
returns-clause-added c =
    let old = c.args.self.now in
    let row = slice_samples c.args.row in
    let new = c.match-self.self in
    let P : Bool → Type 0 = λ done. IsTrue done → HasAddedRow old row new in
    let at = λ (r : Result Bool AllocError). IfOk r P in
    elim c.match-self.branch [
      | in-Bits-Bits w ↦
          let rows = w.in-Bits-Bits.rows in
          let both = w.append_row.new.self in
          let lent : slice_samples c.args.row ≡ _ = ap slice_samples w.in-Bits-Bits.is-1 in
          subst at (sym w.result-is)
          (IfOk-weaker w.append_row.result _ P
          (λ done h yes. row_added_as old (Bits rows) new (Bits both) row w.in-Bits-Bits.is-0 w.self-is
          (λ count each are long.
          bits_row_behind count each rows row both (h yes ∙ ap (λ (r : List ℕ). rows ++ r ∷ []) (sym lent)) are long))
          w.append_row.ensures.added)
      | in-Bytes-Bytes+in_ok-extend_from_slice-in-Bytes-Bytes w ↦
          let bytes = w.in-Bytes-Bytes.bytes in
          let both = w.extend_from_slice.new.self in
          let lent : slice_samples c.args.row ≡ w.in-Bytes-Bytes.row.now = ap slice_samples w.in-Bytes-Bytes.is-1 in
          subst at (sym w.result-is)
          (λ yes. row_added_as old (Bytes bytes) new (Bytes both) row w.in-Bytes-Bytes.is-0 w.self-is
          (λ count each are long. cut_row_behind count each bytes.items row both.items
          (w.in_ok-extend_from_slice-in-Bytes-Bytes.ensures.items ∙ ap (λ (l : List ℕ). bytes.items ++ l) (sym lent)) are long))
      | in-Words-Words+in_ok-extend_from_slice-in-Words-Words w ↦
          let words = w.in-Words-Words.words in
          let both = w.extend_from_slice-in-Words-Words.new.self in
          let lent : slice_samples c.args.row ≡ w.in-Words-Words.row.now = ap slice_samples w.in-Words-Words.is-1 in
          subst at (sym w.result-is)
          (λ yes. row_added_as old (Words words) new (Words both) row w.in-Words-Words.is-0 w.self-is
          (λ count each are long. cut_row_behind count each words.items row both.items
          (w.in_ok-extend_from_slice-in-Words-Words.ensures.items ∙ ap (λ (l : List ℕ). words.items ++ l) (sym lent)) are long))
      | in_default w ↦ subst at (sym w.result-is) (λ yes. absurd (cc))
      | in_default-2 w ↦ subst at (sym w.result-is) (λ yes. absurd (cc))
      | in_default-3 w ↦ subst at (sym w.result-is) (λ yes. absurd (cc))
    ]
