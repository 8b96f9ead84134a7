-- What is held of a lane, and what comes next of it.
use Rattle.pnm_lanes.proofs.Words.{◌≡◌, ◌≢◌, ℕ, zero, suc, Bool, true, false, ◌+◌, ◌<◌, ◌≤◌, List, [], ◌∷◌, ◌++◌, length, get_or, drop, refl, sym, ap, subst}
use Rattle.pnm_lanes.proofs.Words.{◌∙◌, arith}
use Rattle.pnm_lanes.proofs.Words.{Option, Some, None, drop_more, Message, Row, Ending, HeadValue, row_messages, end_messages, next_of}
use Rattle.pnm_lanes.proofs.Words.{held_messages, last_messages, HasPassedRow, IfSome, IfNone, More, Whole, BrokenOff}
use Rattle.std.proofs.lemmas.List.{drop_all}
use Rattle.std.specs.Prelude.{take}
use Rattle.std.specs.Option.{is_some}
use Rattle.pnm_lanes.specs.declared.held.Next.TheVariants.{Head as NextHead, Row as NextRow}

pub next_row : (passed : ℕ) (rows : List (List ℕ)) (more : List Message) → passed < length rows → row_messages (drop passed rows) ++ more
    ≡ Row (get_or rows passed []) ∷ (row_messages (drop (passed + 1) rows) ++ more)
next_row passed rows more below = ap (λ (l : List (List ℕ)). row_messages l ++ more) (drop_more rows passed [] below)

pub is_row_next : (head : Option HeadValue) (passed : ℕ) (rows : Option (List (List ℕ))) (ends : Bool) (ending : Ending) → is_some head ≡ false
    → is_some rows ≡ true → ((x : List (List ℕ)) → rows ≡ Some x → passed < length x) → NextRow ≡ next_of (held_messages head passed rows ends ending)
is_row_next (Some head) passed rows ends ending headless some left = absurd cc
is_row_next None passed None ends ending headless some left = absurd cc
is_row_next None passed (Some rows) ends ending headless some left =
    sym (ap next_of (next_row passed rows (end_messages ends ++ last_messages ending) (left rows refl)))

-- no head comes next where none is held
tail_has_no_head : (ends : Bool) (ending : Ending) → next_of (end_messages ends ++ last_messages ending) ≢ NextHead
tail_has_no_head true ending same = absurd cc
tail_has_no_head false More same = absurd cc
tail_has_no_head false Whole same = absurd cc
tail_has_no_head false BrokenOff same = absurd cc

rows_have_no_head : (rows : List (List ℕ)) (ends : Bool) (ending : Ending)
    → next_of (row_messages rows ++ (end_messages ends ++ last_messages ending)) ≢ NextHead
rows_have_no_head [] ends ending = tail_has_no_head ends ending
rows_have_no_head (row ∷ rows) ends ending = λ same. absurd cc

no_head_next : (head : Option HeadValue) (passed : ℕ) (rows : Option (List (List ℕ))) (ends : Bool) (ending : Ending)
    → IfNone head (next_of (held_messages head passed rows ends ending) ≢ NextHead)
no_head_next (Some head) passed rows ends ending = tt
no_head_next None passed None ends ending = tail_has_no_head ends ending
no_head_next None passed (Some rows) ends ending = rows_have_no_head (drop passed rows) ends ending

pub no_head_taken : {taken : Option HeadValue} (head : Option HeadValue) (passed : ℕ) (rows : Option (List (List ℕ))) (ends : Bool) (ending : Ending)
    → taken ≡ head → IfNone taken (next_of (held_messages head passed rows ends ending) ≢ NextHead)
no_head_taken head passed rows ends ending is =
    subst (λ (t : Option HeadValue). IfNone t (next_of (held_messages head passed rows ends ending) ≢ NextHead)) (sym is)
    (no_head_next head passed rows ends ending)

-- ---- rows that are passed on

none_held : (head : Option HeadValue) → is_some head ≡ false → head ≡ None
none_held None headless = refl
none_held (Some head) headless = absurd cc

-- the next row, where no head is held
pub row_passed : {rows : Option (List (List ℕ))} {new : List Message} (head : Option HeadValue) (passed : ℕ) (r : List (List ℕ)) (ends : Bool)
    (ending : Ending) → is_some head ≡ false → rows ≡ Some r → passed < length r → new ≡ drop 1 (held_messages head passed rows ends ending)
    → held_messages head passed rows ends ending ≡ Row (get_or r passed []) ∷ new
row_passed {rows} {new} head passed r ends ending headless is below passes =
    let more : List Message = end_messages ends ++ last_messages ending in
    let whole : held_messages head passed rows ends ending ≡ Row (get_or r passed []) ∷ (row_messages (drop (passed + 1) r) ++ more) =
    ap (λ (h : Option HeadValue). held_messages h passed rows ends ending) (none_held head headless)
    ∙ ap (λ (x : Option (List (List ℕ))). held_messages None passed x ends ending) is ∙ next_row passed r more below in
    whole ∙ ap (λ (l : List Message). Row (get_or r passed []) ∷ l) (sym (passes ∙ ap (drop 1) whole))

pub first_taken : (passed : ℕ) (r : List (List ℕ)) → passed < length r → take 1 (drop passed r) ≡ get_or r passed [] ∷ []
first_taken passed r below = ap (take 1) (drop_more r passed [] below)

-- it isn't the last
pub next_row_stays : {rows : Option (List (List ℕ))} (head : Option HeadValue) (passed : ℕ) (r : List (List ℕ)) (ends : Bool) (ending : Ending)
    → head ≡ None → rows ≡ Some r → passed < length r → held_messages head (passed + 1) rows ends ending ≡ drop 1 (held_messages head passed rows ends ending)
next_row_stays {rows} head passed r ends ending headless is below =
    let more : List Message = end_messages ends ++ last_messages ending in
    let at : (n : ℕ) → held_messages head n rows ends ending ≡ row_messages (drop n r) ++ more =
    λ n. ap (λ (h : Option HeadValue). held_messages h n rows ends ending) headless
    ∙ ap (λ (x : Option (List (List ℕ))). held_messages None n x ends ending) is in
    at (passed + 1) ∙ sym (ap (drop 1) (at passed ∙ next_row passed r more below))

-- it is
pub last_row_goes : {rows : Option (List (List ℕ))} (head : Option HeadValue) (passed : ℕ) (r : List (List ℕ)) (ends : Bool) (ending : Ending)
    → head ≡ None → rows ≡ Some r → passed < length r → length r ≤ passed + 1
    → held_messages head passed None ends ending ≡ drop 1 (held_messages head passed rows ends ending)
last_row_goes {rows} head passed r ends ending headless is below last =
    let more : List Message = end_messages ends ++ last_messages ending in
    let without : held_messages head passed None ends ending ≡ more = ap (λ (h : Option HeadValue). held_messages h passed None ends ending) headless in
    let whole : held_messages head passed rows ends ending ≡ row_messages (drop passed r) ++ more =
    ap (λ (h : Option HeadValue). held_messages h passed rows ends ending) headless
    ∙ ap (λ (x : Option (List (List ℕ))). held_messages None passed x ends ending) is in
    without ∙ sym (ap (drop 1) (whole ∙ next_row passed r more below) ∙ ap (λ (l : List (List ℕ)). row_messages l ++ more) (drop_all (passed + 1) r last))

only_row : (passed : ℕ) (r : List (List ℕ)) (ends : Bool) (ending : Ending) → length r ≡ 1 → passed < length r
    → HasPassedRow [] r (held_messages None passed (Some r) ends ending) (held_messages None passed None ends ending)
only_row passed [] ends ending one below = absurd (omega (arith, one))
only_row zero (row ∷ []) ends ending one below = (row, refl, refl)
only_row (suc passed) (row ∷ []) ends ending one below = absurd (omega (arith, below))
only_row passed (row ∷ other ∷ r) ends ending one below = absurd (omega (arith, one))

pub only_row_taken : {rows taken left : Option (List (List ℕ))} (head : Option HeadValue) (passed : ℕ) (r : List (List ℕ)) (ends : Bool) (ending : Ending)
    → is_some head ≡ false → rows ≡ Some r → length r ≡ 1 → passed < length r → taken ≡ rows → left ≡ None
    → IfSome taken (λ rs. HasPassedRow [] rs (held_messages head passed rows ends ending) (held_messages head passed left ends ending))
only_row_taken {rows} {taken} {left} head passed r ends ending headless is one below was none =
    let P : Option HeadValue → Option (List (List ℕ)) → Option (List (List ℕ)) → Option (List (List ℕ)) → Type 0 =
    λ h t x y. IfSome t (λ rs. HasPassedRow [] rs (held_messages h passed x ends ending) (held_messages h passed y ends ending)) in
    subst (λ (h : Option HeadValue). P h taken rows left) (sym (none_held head headless)) (subst (λ (t : Option (List (List ℕ))). P None t rows left)
    (sym (was ∙ is)) (subst (λ (x : Option (List (List ℕ))). P None (Some r) x left) (sym is)
    (subst (λ (y : Option (List (List ℕ))). P None (Some r) (Some r) y) (sym none) (only_row passed r ends ending one below))))
