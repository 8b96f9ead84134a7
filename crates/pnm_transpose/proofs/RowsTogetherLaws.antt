-- Rows that are given together.
use Rattle.pnm_transpose.proofs.Words.{◌≡◌, ℕ, ◌+◌, ◌≤◌, List, [], ◌∷◌, ◌++◌, length, get_or, reverse, All, sym, ap, subst, ◌∙◌, append_assoc, reverse-append}
use Rattle.pnm_transpose.proofs.Words.{All-append, RowVec, RowSlice, AreRows, AreRowsWithin, AreSliceRows, HasAdded, HoldsSame, slice_lists, within_greater}
use Rattle.pnm_transpose.proofs.Words.{HasTaken, HoldsWithin}
use Rattle.pnm_image.specs.HeldRows.{row_lists}

-- the last of a batch, in front of the others
last_first : {batch : List (List ℕ)} (rest : List (List ℕ)) (next : List ℕ) (rows : List (List ℕ)) → batch ≡ rest ++ next ∷ []
    → rows ++ reverse batch ≡ (rows ++ next ∷ []) ++ reverse rest
last_first rest next rows parts =
    ap (λ (l : List (List ℕ)). rows ++ reverse l) parts ∙ ap (λ (l : List (List ℕ)). rows ++ l) (reverse-append rest (next ∷ []))
    ∙ sym (append_assoc rows (next ∷ []) (reverse rest))

-- the next column goes over to those that are held
pub next_taken : (count each bound most other : ℕ) (old new : RowVec) (more : RowSlice) (next : List ℕ) (lent batch rest : List (List ℕ)) → lent ≡ next ∷ []
    → batch ≡ rest ++ next ∷ [] → slice_lists (length lent) each more ≡ lent → AreSliceRows (length lent) each more → HasAdded old more new
    → AreRowsWithin other lent → bound ≤ most → other ≤ most → HoldsWithin count each bound old
    → HasTaken count each old batch (count + 1) new rest × HoldsWithin (count + 1) each most new
next_taken count each bound most other old new more next lent batch rest is parts lists are add within low high h =
    let one : length lent ≡ 1 = ap length is in
    let R : List (List ℕ) = row_lists count each old in
    let added = add count 1 each h.0 (subst (λ (n : ℕ). AreSliceRows n each more) one are) in
    let all : row_lists (count + 1) each new ≡ R ++ next ∷ [] =
    added.0 ∙ ap (λ (l : List (List ℕ)). R ++ l) (ap (λ (n : ℕ). slice_lists n each more) (sym one) ∙ lists ∙ is) in
    let both : AreRowsWithin most (R ++ next ∷ []) =
    All-append (λ (row : List ℕ). All (λ sample. sample ≤ most) row) R (next ∷ []) (within_greater bound most R low h.1)
    (within_greater other most (next ∷ []) high (subst (AreRowsWithin other) is within)) in (
      last_first rest next R parts ∙ ap (λ (l : List (List ℕ)). l ++ reverse rest) (sym all),
      (added.1, subst (AreRowsWithin most) (sym all) both),
    )

-- it goes back
pub none_taken : (count each bound : ℕ) (old new : RowVec) (next back : List ℕ) (lent batch rest now : List (List ℕ)) → lent ≡ next ∷ []
    → batch ≡ rest ++ next ∷ [] → back ≡ get_or lent 0 [] → now ≡ rest ++ back ∷ [] → HoldsSame old new → HoldsWithin count each bound old
    → HasTaken count each old batch count new now × HoldsWithin count each bound new
none_taken count each bound old new next back lent batch rest now is parts first put same h =
    let held = same count each h.0 in
    let again : batch ≡ now =
    parts ∙ ap (λ (l : List ℕ). rest ++ l ∷ []) (sym (first ∙ ap (λ (l : List (List ℕ)). get_or l 0 []) is)) ∙ sym put in (
      ap (λ (l : List (List ℕ)). row_lists count each old ++ reverse l) again ∙ ap (λ (l : List (List ℕ)). l ++ reverse now) (sym held.0),
      (held.1, subst (AreRowsWithin bound) (sym held.0) h.1),
    )

-- the first column is held
pub first_held : (count each bound : ℕ) (held : RowVec) (first : List ℕ) (rows batch rest : List (List ℕ)) → rows ≡ first ∷ []
    → rows ≡ row_lists count each held → AreRows count each held → AreRowsWithin bound rows → batch ≡ rest ++ first ∷ []
    → HoldsWithin count each bound held × (reverse batch ≡ row_lists count each held ++ reverse rest)
first_held count each bound held first rows batch rest one is are within parts = (
  (are, subst (AreRowsWithin bound) is within),
  last_first rest first [] parts ∙ ap (λ (l : List (List ℕ)). l ++ reverse rest) (sym one ∙ is),
)
