-- How a tool at work takes a part of an image: its head, rows of it, and its end.
use Rattle.pnm_filters.proofs.Words.{◌≡◌, ◌≤◌, ℕ, ◌+◌, Bool, true, false, List, [], ◌∷◌, ◌++◌, length, Option, Some, None, refl, sym, ap, subst, ◌∙◌}
use Rattle.pnm_filters.proofs.Words.{append-nil, append_assoc, arith, map-append, Shape, Message, Row, ImageEnd, Place, Between, Inside, After, HeadValue}
use Rattle.pnm_filters.proofs.Words.{head_messages, end_messages, part_messages, rest_messages, Accepts, IsLawfulFrom, place_of, row_messages, rows_list}
use Rattle.pnm_filters.proofs.Words.{lawful_prefix, lawful_suffix, place_of-append, place_of-rows, Tool, answers_from, rows_after, rows_answer, rows_come}
use Rattle.pnm_filters.proofs.Words.{AreTaken, row_answer, answers_from-append, taken_append, is_idle, waiting_by, IsReadyFor, SuitsPlace, AreAccepted}
use Rattle.pnm_filters.proofs.Words.{HasBegun, HasEnded, HasTaken, IsReadyUnless, LiesInside, end_answer_if, phase_of}

-- ---- a part comes inside an image, once its head has come

end_lies_inside : (place : Place) → Accepts place ImageEnd → LiesInside place
end_lies_inside Between accepts = absurd accepts
end_lies_inside (Inside s y) accepts = (s, y, refl)
end_lies_inside After accepts = absurd accepts

row_lies_inside : (place : Place) (row : List ℕ) → Accepts place (Row row) → LiesInside place
row_lies_inside Between row accepts = absurd accepts
row_lies_inside (Inside s y) row accepts = (s, y, refl)
row_lies_inside After row accepts = absurd accepts

pub part_lies_inside : (place : Place) (head : Option HeadValue) (rows : Option (List (List ℕ))) (ends : Bool)
    → 1 ≤ length (part_messages head rows ends) → IsLawfulFrom place (part_messages head rows ends) → LiesInside (place_of place (head_messages head))
part_lies_inside place (Some head) rows ends some lawful = (head.shape, 0, refl)
part_lies_inside place None (Some (row ∷ rows)) ends some lawful = row_lies_inside place row lawful.0
part_lies_inside place None (Some []) true some lawful = end_lies_inside place lawful.0
part_lies_inside place None (Some []) false some lawful = let no : ⊥ = omega (arith, some) in absurd no
part_lies_inside place None None true some lawful = end_lies_inside place lawful.0
part_lies_inside place None None false some lawful = let no : ⊥ = omega (arith, some) in absurd no

-- what comes behind the head may come there
pub rest_may_come : (place : Place) (s : Shape) (y : ℕ) (head : Option HeadValue) (rows : Option (List (List ℕ))) (ends : Bool)
    → place_of place (head_messages head) ≡ Inside s y → IsLawfulFrom place (part_messages head rows ends)
    → IsLawfulFrom (Inside s y) (rest_messages rows ends)
rest_may_come place s y head rows ends inside lawful =
    subst (λ (p : Place). IsLawfulFrom p (rest_messages rows ends)) inside (lawful_suffix place (head_messages head) (rest_messages rows ends) lawful)

pub rows_may_come : (s : Shape) (y : ℕ) (rows : Option (List (List ℕ))) (ends : Bool) → IsLawfulFrom (Inside s y) (rest_messages rows ends)
    → IsLawfulFrom (Inside s y) (row_messages (rows_list rows))
rows_may_come s y rows ends lawful = lawful_prefix (Inside s y) (row_messages (rows_list rows)) (end_messages ends) lawful

pub end_may_come : (s : Shape) (y : ℕ) (rows : Option (List (List ℕ))) (ends : Bool) → IsLawfulFrom (Inside s y) (rest_messages rows ends)
    → IsLawfulFrom (Inside s (y + length (rows_list rows))) (end_messages ends)
end_may_come s y rows ends lawful =
    subst (λ (p : Place). IsLawfulFrom p (end_messages ends)) (place_of-rows s y (rows_list rows))
    (lawful_suffix (Inside s y) (row_messages (rows_list rows)) (end_messages ends) lawful)

-- ---- the rows that have come, and the answers to them

pub come_append : (rows : List (List ℕ)) (a b : List Message) → rows_come rows (a ++ b) ≡ rows_come (rows_come rows a) b
come_append rows [] b = refl
come_append rows (m ∷ a) b = come_append (rows_after rows m) a b

-- rows come after those that have come
rows_have_come : (come rows : List (List ℕ)) → rows_come come (row_messages rows) ≡ come ++ rows
rows_have_come come [] = sym (append-nil come)
rows_have_come come (row ∷ rows) = rows_have_come (come ++ row ∷ []) rows ∙ append_assoc come (row ∷ []) rows

-- rows are no image that could be refused
rows_are_taken : (tool : Tool) (rows : List (List ℕ)) → AreTaken tool (row_messages rows)
rows_are_taken tool [] = tt
rows_are_taken tool (row ∷ rows) = rows_are_taken tool rows

end_is_taken : (tool : Tool) (ends : Bool) → AreTaken tool (end_messages ends)
end_is_taken tool false = tt
end_is_taken tool true = tt

-- the messages of the rows that answer rows
answers_to_rows : (tool : Tool) (s : Shape) (y : ℕ) (come rows : List (List ℕ))
    → answers_from tool (Inside s y) come (row_messages rows) ≡ row_messages (rows_answer tool s y rows)
answers_to_rows tool s y come [] = refl
answers_to_rows tool s y come (row ∷ rows) =
    ap (λ (rest : List Message). row_messages (row_answer tool s y row) ++ rest) (answers_to_rows tool s (y + 1) (come ++ row ∷ []) rows)
    ∙ sym (map-append Row (row_answer tool s y row) (rows_answer tool s (y + 1) rows))

-- and those that answer the end of an image
answers_to_end : (tool : Tool) (s : Shape) (y : ℕ) (come : List (List ℕ)) (ends : Bool)
    → answers_from tool (Inside s y) come (end_messages ends) ≡ row_messages (end_answer_if ends tool s come) ++ end_messages ends
answers_to_end tool s y come false = refl
answers_to_end tool s y come true = append-nil (row_messages (end_answer_if true tool s come) ++ ImageEnd ∷ [])

-- ---- the steps of a part, one after another

-- where the place and the rows that have come lead
leads : (place : Place) (s : Shape) (y : ℕ) (head : Option HeadValue) (rows : List (List ℕ)) (ends : Bool)
    → place_of place (head_messages head) ≡ Inside s y
    → place_of place (head_messages head ++ (row_messages rows ++ end_messages ends)) ≡ place_of (Inside s (y + length rows)) (end_messages ends)
leads place s y head rows ends inside =
    let hm = head_messages head in
    let rm = row_messages rows in
    let em = end_messages ends in
    place_of-append place hm (rm ++ em) ∙ ap (λ (p : Place). place_of p (rm ++ em)) inside ∙ place_of-append (Inside s y) rm em
    ∙ ap (λ (p : Place). place_of p em) (place_of-rows s y rows)

have_come : (come : List (List ℕ)) (head : Option HeadValue) (rows : List (List ℕ)) (ends : Bool)
    → rows_come come (head_messages head ++ (row_messages rows ++ end_messages ends))
    ≡ rows_come (rows_come come (head_messages head) ++ rows) (end_messages ends)
have_come come head rows ends =
    let hm = head_messages head in
    let rm = row_messages rows in
    let em = end_messages ends in
    let first : List (List ℕ) = rows_come come hm in
    come_append come hm (rm ++ em) ∙ come_append first rm em ∙ ap (λ (l : List (List ℕ)). rows_come l em) (rows_have_come first rows)

-- the answers to a part
answers_to_part : (tool : Tool) (place : Place) (s : Shape) (y : ℕ) (come : List (List ℕ)) (head : Option HeadValue) (rows : List (List ℕ)) (ends : Bool)
    → place_of place (head_messages head) ≡ Inside s y
    → answers_from tool place come (head_messages head ++ (row_messages rows ++ end_messages ends))
    ≡ answers_from tool place come (head_messages head)
    ++ (row_messages (rows_answer tool s y rows)
    ++ (row_messages (end_answer_if ends tool s (rows_come come (head_messages head) ++ rows)) ++ end_messages ends))
answers_to_part tool place s y come head rows ends inside =
    let hm = head_messages head in
    let rm = row_messages rows in
    let em = end_messages ends in
    let first : List (List ℕ) = rows_come come hm in
    let before : List Message = answers_from tool place come hm in
    let rest : List Message = row_messages (rows_answer tool s y rows) in
    answers_from-append tool place come hm (rm ++ em)
    ∙ ap (λ (p : Place). before ++ answers_from tool p first (rm ++ em)) inside
    ∙ ap (λ (l : List Message). before ++ l) (answers_from-append tool (Inside s y) first rm em
    ∙ ap (λ (l : List Message). l ++ answers_from tool (place_of (Inside s y) rm) (rows_come first rm) em) (answers_to_rows tool s y first rows)
    ∙ ap (λ (p : Place). rest ++ answers_from tool p (rows_come first rm) em) (place_of-rows s y rows)
    ∙ ap (λ (l : List (List ℕ)). rest ++ answers_from tool (Inside s (y + length rows)) l em) (rows_have_come first rows)
    ∙ ap (λ (l : List Message). rest ++ l) (answers_to_end tool s (y + length rows) (first ++ rows) ends))

-- what waits of them
waits_of_part : (made : Option HeadValue) (due : List (List ℕ)) (ends : Bool)
    → waiting_by (phase_of ends) made None due ≡ head_messages made ++ (row_messages due ++ end_messages ends)
waits_of_part made due false = ap (λ (l : List Message). head_messages made ++ l) (sym (append-nil (row_messages due)))
waits_of_part made due true = refl

ready_unless_ended : {W : Type 0} (ready_for : W → Shape → List (List ℕ) → Type 0) (new : W) (s : Shape) (y : ℕ) (come : List (List ℕ)) (ends : Bool)
    → IsReadyUnless ends ready_for new (Inside s y) come
    → IsReadyFor ready_for new (place_of (Inside s y) (end_messages ends)) (rows_come come (end_messages ends))
ready_unless_ended ready_for new s y come false ready = ready
ready_unless_ended ready_for new s y come true ready = tt

suits_end : {W : Type 0} (due kept : W → List (List ℕ)) (new : W) (s : Shape) (y : ℕ) (ends : Bool)
    → SuitsPlace due kept new (place_of (Inside s y) (end_messages ends)) (phase_of ends)
suits_end due kept new s y false = tt
suits_end due kept new s y true = tt

some_due : (ends : Bool) → is_idle (phase_of ends) ≡ false
some_due false = refl
some_due true = refl

pub part_is_accepted : {W : Type 0} (tool_at : W → Tool) (ready_for : W → Shape → List (List ℕ) → Type 0) (due kept : W → List (List ℕ))
    (old begun taken new : W) (place : Place) (s : Shape) (y : ℕ) (head made : Option HeadValue) (rows : Option (List (List ℕ))) (ends : Bool)
    → HasBegun tool_at ready_for due old place head begun s y made
    → HasTaken tool_at ready_for due begun s y (rows_list rows) taken
    → HasEnded tool_at ready_for due ends taken s (y + length (rows_list rows)) new
    → AreAccepted tool_at ready_for due kept old place (part_messages head rows ends) new record { phase = phase_of ends; head = made; ahead = None }
part_is_accepted tool_at ready_for due kept old begun taken new place s y head made rows ends first then last =
    let list : List (List ℕ) = rows_list rows in
    let tool : Tool = tool_at old in
    let hm = head_messages head in
    let rm = row_messages list in
    let em = end_messages ends in
    let to = leads place s y head list ends first.inside in
    record {
      taken = taken_append tool hm (rm ++ em) first.taken (taken_append tool rm em (rows_are_taken tool list) (end_is_taken tool ends));
      tool = last.tool ∙ then.tool ∙ first.tool;
      ready = λ come ready.
          let at_end = ready_unless_ended ready_for new s (y + length list) (rows_come come hm ++ list) ends
          (last.ready (rows_come come hm ++ list) (then.ready (rows_come come hm) (first.ready come ready))) in
          subst (λ (p : Place). IsReadyFor ready_for new p (rows_come come (hm ++ (rm ++ em)))) (sym to)
          (subst (IsReadyFor ready_for new (place_of (Inside s (y + length list)) em)) (sym (have_come come head list ends)) at_end);
      some_due = some_due ends;
      answer = λ come ready.
          let come_then : List (List ℕ) = rows_come come hm ++ list in
          let rest : List (List ℕ) = rows_answer tool s y list in
          let left : List (List ℕ) = end_answer_if ends tool s come_then in
          let is_due : due new ≡ rest ++ left = last.answer come_then (then.ready (rows_come come hm) (first.ready come ready))
          ∙ ap (λ (l : List (List ℕ)). l ++ end_answer_if ends (tool_at taken) s come_then) then.answer
          ∙ ap (λ (k : Tool). rows_answer k s y list ++ end_answer_if ends (tool_at taken) s come_then) first.tool
          ∙ ap (λ (k : Tool). rest ++ end_answer_if ends k s come_then) (then.tool ∙ first.tool) in
          waits_of_part made (due new) ends ∙ ap (λ (l : List (List ℕ)). head_messages made ++ (row_messages l ++ em)) is_due
          ∙ ap (λ (l : List Message). head_messages made ++ (l ++ em)) (map-append Row rest left)
          ∙ ap (λ (l : List Message). head_messages made ++ l) (append_assoc (row_messages rest) (row_messages left) em)
          ∙ ap (λ (l : List Message). l ++ (row_messages rest ++ (row_messages left ++ em))) (first.answer come)
          ∙ sym (answers_to_part tool place s y come head list ends first.inside);
      suits = λ _. subst (λ (p : Place). SuitsPlace due kept new p (phase_of ends)) (sym to) (suits_end due kept new s (y + length list) ends);
    }
