-- Lawful lists of messages: the place after them, their prefixes, and one message more.
use Rattle.std.proofs.Common.{◌≡◌, ◌≤◌, ◌+◌, ℕ, List, [], ◌∷◌, ◌++◌, length, refl, ap, ◌∙◌, arith, Option, Some, None, subst, sym}
use Rattle.std.specs.List.{AllByRecursion}
use Rattle.pnm_image.specs.declared.shape.Shape.{Shape}
use Rattle.pnm_image.specs.declared.message.Message.{Message}
use Rattle.pnm_image.specs.declared.place.Place.{Place}
use Rattle.pnm_image.specs.declared.place.Place.TheVariants.{Between, Inside, After}
use Rattle.pnm_image.specs.Places.{Accepts, IsLawfulFrom, IsRowOf, LeadsTo, place_after, place_of}
use Rattle.pnm_image.specs.Rows.{row_messages}

-- a prefix of a lawful list
pub lawful_prefix : (place : Place) (a b : List Message) → IsLawfulFrom place (a ++ b) → IsLawfulFrom place a
lawful_prefix place [] b lawful = tt
lawful_prefix place (m ∷ a) b lawful = (lawful.0, lawful_prefix (place_after place m) a b lawful.1)

-- one message more
pub lawful_more : (place : Place) (l : List Message) (m : Message) → IsLawfulFrom place l → Accepts (place_of place l) m → IsLawfulFrom place (l ++ m ∷ [])
lawful_more place [] m h a = (a, tt)
lawful_more place (n ∷ l) m h a = (h.0, lawful_more (place_after place n) l m h.1 a)

-- each message could come after those before it
pub next_may_come : (place : Place) (a : List Message) (m : Message) (b : List Message) → IsLawfulFrom place (a ++ m ∷ b) → Accepts (place_of place a) m
next_may_come place [] m b lawful = lawful.0
next_may_come place (n ∷ a) m b lawful = next_may_come (place_after place n) a m b lawful.1

-- the place after two lists
pub place_of-append : (place : Place) (a b : List Message) → place_of place (a ++ b) ≡ place_of (place_of place a) b
place_of-append place [] b = refl
place_of-append place (m ∷ a) b = place_of-append (place_after place m) a b

-- rows lead on by as many
pub place_of-rows : (s : Shape) (y : ℕ) (rows : List (List ℕ)) → place_of (Inside s y) (row_messages rows) ≡ Inside s (y + length rows)
place_of-rows s y [] = let same : y ≡ y + 0 = omega (arith) in ap (Inside s) same
place_of-rows s y (row ∷ rows) =
    let same : y + 1 + length rows ≡ y + length (row ∷ rows) = omega (arith) in
    place_of-rows s (y + 1) rows ∙ ap (Inside s) same

-- rows may come where the image has as many more, and each is one of it
pub lawful_rows : (s : Shape) (y : ℕ) (rows : List (List ℕ)) → y + length rows ≤ s.height → AllByRecursion (IsRowOf s) rows
    → IsLawfulFrom (Inside s y) (row_messages rows)
lawful_rows s y [] below are = tt
lawful_rows s y (row ∷ rows) below are = ((omega (arith, below), are.0), lawful_rows s (y + 1) rows (omega (arith, below)) are.1)

-- and nowhere else
pub rows_are_lawful : (s : Shape) (y : ℕ) (rows : List (List ℕ)) → 1 ≤ length rows → IsLawfulFrom (Inside s y) (row_messages rows)
    → (y + length rows ≤ s.height) × AllByRecursion (IsRowOf s) rows
rows_are_lawful s y [] some lawful = let no : ⊥ = omega (arith, some) in absurd no
rows_are_lawful s y (row ∷ []) some lawful = (omega (arith, lawful.0.0), (lawful.0.1, tt))
rows_are_lawful s y (row ∷ next ∷ rows) some lawful =
    let later = rows_are_lawful s (y + 1) (next ∷ rows) (omega (arith)) lawful.1 in
    (omega (arith, later.0), (lawful.0.1, later.1))

-- no row may come outside an image
pub rows_lie_inside : (place : Place) (rows : List (List ℕ)) → 1 ≤ length rows → IsLawfulFrom place (row_messages rows)
    → (s : Shape) × (y : ℕ) × (place ≡ Inside s y)
rows_lie_inside place [] some lawful = let no : ⊥ = omega (arith, some) in absurd no
rows_lie_inside Between (row ∷ rows) some lawful = absurd lawful.0
rows_lie_inside (Inside s y) (row ∷ rows) some lawful = (s, y, refl)
rows_lie_inside After (row ∷ rows) some lawful = absurd lawful.0

-- the rest of a lawful list
pub lawful_suffix : (place : Place) (a b : List Message) → IsLawfulFrom place (a ++ b) → IsLawfulFrom (place_of place a) b
lawful_suffix place [] b lawful = lawful
lawful_suffix place (m ∷ a) b lawful = lawful_suffix (place_after place m) a b lawful.1

-- two lists one after another
pub lawful_append : (place : Place) (a b : List Message) → IsLawfulFrom place a → IsLawfulFrom (place_of place a) b → IsLawfulFrom place (a ++ b)
lawful_append place [] b first then = then
lawful_append place (m ∷ a) b first then = (first.0, lawful_append (place_after place m) a b first.1 then)

-- messages lead on from the place to which the messages before them lead
pub leads_on : (place inside : Place) (a b : List Message) (end : Option Place) → LeadsTo place a (Some inside) → LeadsTo inside b end
    → LeadsTo place (a ++ b) end
leads_on place inside a b (Some end) first then =
    let lawful = subst (λ (p : Place). IsLawfulFrom p b) first.1 then.0 in
    (lawful_append place a b first.0 lawful, then.1 ∙ ap (λ (p : Place). place_of p b) first.1 ∙ sym (place_of-append place a b))
leads_on place inside a b None first then =
    λ lawful. then (subst (λ (p : Place). IsLawfulFrom p b) (sym first.1) (lawful_suffix place a b lawful))

-- and nowhere if these lead nowhere
pub leads_nowhere : (place : Place) (a b : List Message) → LeadsTo place a None → LeadsTo place (a ++ b) None
leads_nowhere place a b first = λ lawful. first (lawful_prefix place a b lawful)

-- rows lead on by as many, where the image has so many more
pub rows_lead : (s : Shape) (y end : ℕ) (rows : List (List ℕ)) → end ≡ y + length rows → end ≤ s.height → AllByRecursion (IsRowOf s) rows
    → LeadsTo (Inside s y) (row_messages rows) (Some (Inside s end))
rows_lead s y end rows is below are = (lawful_rows s y rows (omega (arith, is, below)) are, ap (Inside s) is ∙ sym (place_of-rows s y rows))

-- and nowhere else
pub rows_lead_nowhere : (s : Shape) (y end : ℕ) (rows : List (List ℕ)) → end ≡ y + length rows → 1 ≤ length rows
    → (end ≤ s.height → AllByRecursion (IsRowOf s) rows → ⊥) → LeadsTo (Inside s y) (row_messages rows) None
rows_lead_nowhere s y end rows is some not = λ lawful.
    let are = rows_are_lawful s y rows some lawful in not (omega (arith, is, are.0)) are.1
