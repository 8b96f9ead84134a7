-- What each lane gets of a part of an image, by its turn.
use Rattle.pnm_lanes.proofs.Words.{◌≡◌, ◌⊎◌, inl, inr, ℕ, zero, suc, ◌+◌, ◌-◌, ◌%◌, ◌<◌, ◌≤◌, Bool, true, false, List, [], ◌∷◌, ◌++◌, map, refl, sym, ap, ◌∙◌}
use Rattle.pnm_lanes.proofs.Words.{arith, ◌==◌, nat_tests, if◌then◌else◌, mod_below, map-append, length, Option, None, Some, Message, Begin, Row, Place}
use Rattle.pnm_lanes.proofs.Words.{Between, Inside, After, Shape, HeadValue, IsLawfulFrom, place_of, row_messages, head_messages, end_messages, dealt_row}
use Rattle.pnm_lanes.proofs.Words.{dealt_rows, dealt_head, dealt_from, every, row_at, dealt_begin, AreLeftFrom}
use Rattle.std.proofs.Math.Nat.{add-mod_left, add-mod_right, add-mod-mod, mod-add-mod, mod-eq_of_lt}
use Rattle.pnm_lanes.proofs.DealtLaws.{dealt_from-append}

-- ---- turns

-- the turn of a lane, where this one has the first
abbrev pub turn_of : ℕ → ℕ → ℕ → ℕ
turn_of first lanes lane = (lane + (lanes - first)) % lanes

-- the lane that has this turn
pub its_turn : (first lanes turn : ℕ) → first < lanes → turn < lanes → turn_of first lanes ((first + turn) % lanes) ≡ turn
its_turn first lanes turn within lt =
    let all : first + turn + (lanes - first) ≡ lanes + turn = omega (arith, within) in
    mod-add-mod (first + turn) lanes (lanes - first) ∙ ap (λ (n : ℕ). n % lanes) all ∙ add-mod_left lanes turn ∙ mod-eq_of_lt lt

-- and no other has it
pub only_its_turn : (first lanes turn lane : ℕ) → first < lanes → lane < lanes → turn_of first lanes lane ≡ turn → lane ≡ (first + turn) % lanes
only_its_turn first lanes turn lane within lt is =
    let all : first + (lane + (lanes - first)) ≡ lane + lanes = omega (arith, within) in
    sym (ap (λ (n : ℕ). (first + n) % lanes) (sym is) ∙ add-mod-mod first (lane + (lanes - first)) lanes ∙ ap (λ (n : ℕ). n % lanes) all
    ∙ add-mod_right lane lanes ∙ mod-eq_of_lt lt)

-- ---- rows

-- fewer rows than there are lanes go to other lanes than the row before them
other_lane : (lanes y turn : ℕ) → suc turn < lanes → y % lanes ≡ (y + suc turn) % lanes → ⊥
other_lane lanes y turn lt same =
    let first : ℕ = y % lanes in
    let within : first < lanes = mod_below y lanes (omega (arith, lt)) in
    let itself : y + 0 ≡ y = omega arith in
    let here : (first + 0) % lanes ≡ y % lanes = mod-add-mod y lanes 0 ∙ ap (λ (n : ℕ). n % lanes) itself in
    let alike : (first + 0) % lanes ≡ (first + suc turn) % lanes = here ∙ same ∙ sym (mod-add-mod y lanes (suc turn)) in
    let turns : 0 ≡ suc turn =
    sym (its_turn first lanes 0 within (omega (arith, lt))) ∙ ap (turn_of first lanes) alike ∙ its_turn first lanes (suc turn) within lt in
    absurd cc

-- of rows from row y on a lane gets every so many, beginning with its turn
rows_by_turn : (lane lanes y turn : ℕ) (rows : List (List ℕ)) → turn < lanes → (y + turn) % lanes ≡ lane
    → dealt_rows lane lanes y rows ≡ every turn (lanes - 1) rows
rows_by_turn lane lanes y turn [] lt its = refl
rows_by_turn lane lanes y zero (row ∷ rows) lt its =
    let same : y + 0 ≡ y = omega arith in
    let here : y % lanes ≡ lane = ap (λ (n : ℕ). n % lanes) (sym same) ∙ its in
    let own : ((y % lanes) == lane) ≡ true = grind (arith, nat_tests) in
    let next : y + 1 + (lanes - 1) ≡ y + lanes = omega (arith, lt) in
    let again : (y + 1 + (lanes - 1)) % lanes ≡ lane = ap (λ (n : ℕ). n % lanes) next ∙ add-mod_right y lanes ∙ here in
    ap (λ (b : Bool). (if b then row ∷ [] else []) ++ dealt_rows lane lanes (y + 1) rows) own
    ∙ ap (λ (x : List (List ℕ)). row ∷ x) (rows_by_turn lane lanes (y + 1) (lanes - 1) rows (omega (arith, lt)) again)
rows_by_turn lane lanes y (suc turn) (row ∷ rows) lt its =
    let differs : y % lanes ≡ lane → ⊥ = λ is. other_lane lanes y turn lt (is ∙ sym its) in
    let not_own : ((y % lanes) == lane) ≡ false = grind (arith, nat_tests, differs) in
    let next : y + 1 + turn ≡ y + suc turn = omega arith in
    ap (λ (b : Bool). (if b then row ∷ [] else []) ++ dealt_rows lane lanes (y + 1) rows) not_own
    ∙ rows_by_turn lane lanes (y + 1) turn rows (omega (arith, lt)) (ap (λ (n : ℕ). n % lanes) next ∙ its)

-- ---- rows that are taken out

every_one : (rows : List (List ℕ)) → every 0 0 rows ≡ rows
every_one [] = refl
every_one (row ∷ rows) = ap (λ (x : List (List ℕ)). row ∷ x) (every_one rows)

-- none is that of a turn past them
pub none_left : (turn gap : ℕ) (rows : List (List ℕ)) → length rows ≤ turn → every turn gap rows ≡ []
none_left turn gap [] le = refl
none_left zero gap (row ∷ rows) le = absurd (omega (arith, le))
none_left (suc turn) gap (row ∷ rows) le = none_left turn gap rows (omega (arith, le))

-- a single row is that of the first turn, and no other; and so are all rows, if there is a single lane
pub all_are_its : (from lanes : ℕ) (rows : List (List ℕ)) → from < lanes → from < length rows → (length rows ≡ 1) ⊎ (lanes ≡ 1)
    → rows ≡ every from (lanes - 1) rows
all_are_its from lanes [] lt some why = absurd (omega (arith, some))
all_are_its zero lanes (row ∷ []) lt some (inl one) = refl
all_are_its zero lanes (row ∷ other ∷ rows) lt some (inl one) = absurd (omega (arith, one))
all_are_its (suc from) lanes (row ∷ rows) lt some (inl one) = absurd (omega (arith, one, some))
all_are_its from lanes (row ∷ rows) lt some (inr one) =
    let first : from ≡ 0 = omega (arith, lt, one) in
    let alone : lanes - 1 ≡ 0 = omega (arith, one) in
    sym (ap (λ (n : ℕ). every n (lanes - 1) (row ∷ rows)) first ∙ ap (λ (n : ℕ). every 0 n (row ∷ rows)) alone ∙ every_one (row ∷ rows))

pub none_is_left : (from lanes : ℕ) (rows : List (List ℕ)) → (length rows ≡ 1) ⊎ (lanes ≡ 1) → AreLeftFrom (from + 1) lanes rows []
none_is_left from lanes rows (inl one) later le lt = sym (none_left later (lanes - 1) rows (omega (arith, one, le)))
none_is_left from lanes rows (inr one) later le lt = absurd (omega (arith, one, le, lt))

-- ---- messages

rows_at : (lane lanes : ℕ) (s : Shape) (y : ℕ) (rows : List (List ℕ))
    → dealt_from lane lanes (Inside s y) (row_messages rows) ≡ row_messages (dealt_rows lane lanes y rows)
rows_at lane lanes s y [] = refl
rows_at lane lanes s y (row ∷ rows) =
    ap (λ (l : List Message). map Row (dealt_row lane lanes y row) ++ l) (rows_at lane lanes s (y + 1) rows)
    ∙ sym (map-append Row (dealt_row lane lanes y row) (dealt_rows lane lanes (y + 1) rows))

end_at : (lane lanes : ℕ) (place : Place) (ends : Bool) → dealt_from lane lanes place (end_messages ends) ≡ end_messages ends
end_at lane lanes place false = refl
end_at lane lanes place true = refl

rest_at : (lane lanes : ℕ) (place : Place) (rows : List (List ℕ)) (ends : Bool) → IsLawfulFrom place (row_messages rows ++ end_messages ends)
    → dealt_from lane lanes place (row_messages rows ++ end_messages ends) ≡ row_messages (dealt_rows lane lanes (row_at place) rows) ++ end_messages ends
rest_at lane lanes place [] ends lawful = end_at lane lanes place ends
rest_at lane lanes Between (row ∷ rows) ends lawful = absurd lawful.0
rest_at lane lanes After (row ∷ rows) ends lawful = absurd lawful.0
rest_at lane lanes (Inside s y) (row ∷ rows) ends lawful =
    let l : List Message = row_messages (row ∷ rows) in
    let dealt_l : List Message = dealt_from lane lanes (Inside s y) l in
    dealt_from-append lane lanes (Inside s y) l (end_messages ends)
    ∙ ap (λ (x : List Message). dealt_l ++ x) (end_at lane lanes (place_of (Inside s y) l) ends)
    ∙ ap (λ (x : List Message). x ++ end_messages ends) (rows_at lane lanes s y (row ∷ rows))

-- of a part of an image a lane gets its head, its rows and the end
part_is_dealt : (lane lanes : ℕ) (place : Place) (head : Option HeadValue) (rows : List (List ℕ)) (ends : Bool)
    → IsLawfulFrom place (head_messages head ++ (row_messages rows ++ end_messages ends))
    → dealt_from lane lanes place (head_messages head ++ (row_messages rows ++ end_messages ends)) ≡ dealt_begin lane lanes head
    ++ (row_messages (dealt_rows lane lanes (row_at place) rows) ++ end_messages ends)
part_is_dealt lane lanes place None rows ends lawful = rest_at lane lanes place rows ends lawful
part_is_dealt lane lanes Between (Some head) rows ends lawful =
    ap (λ (l : List Message). Begin (dealt_head lane lanes head) ∷ l) (rest_at lane lanes (Inside head.shape 0) rows ends lawful.1)
part_is_dealt lane lanes (Inside s y) (Some head) rows ends lawful = absurd lawful.0
part_is_dealt lane lanes After (Some head) rows ends lawful = absurd lawful.0

-- and so by its turn
pub part_by_turn : (lanes turn lane : ℕ) (place : Place) (head : Option HeadValue) (rows : List (List ℕ)) (ends : Bool) → turn < lanes
    → IsLawfulFrom place (head_messages head ++ (row_messages rows ++ end_messages ends)) → (row_at place % lanes + turn) % lanes ≡ lane
    → dealt_begin lane lanes head ++ (row_messages (every turn (lanes - 1) rows) ++ end_messages ends)
    ≡ dealt_from lane lanes place (head_messages head ++ (row_messages rows ++ end_messages ends))
part_by_turn lanes turn lane place head rows ends lt lawful its =
    let here : (row_at place + turn) % lanes ≡ lane = sym (mod-add-mod (row_at place) lanes turn) ∙ its in
    ap (λ (x : List (List ℕ)). dealt_begin lane lanes head ++ (row_messages x ++ end_messages ends))
    (sym (rows_by_turn lane lanes (row_at place) turn rows lt here))
    ∙ sym (part_is_dealt lane lanes place head rows ends lawful)
