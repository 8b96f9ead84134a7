-- Parts of an image, and their bytes.
use Rattle.pnm_write.proofs.Words.{◌≡◌, ℕ, ◌+◌, Bool, true, false, List, [], ◌∷◌, ◌++◌, Option, Some, None, ◌⊎◌, inl, inr, refl, ap, ap₂, subst, ◌∙◌}
use Rattle.pnm_write.proofs.Words.{AllByRecursion, Form, Message, Begin, Place, Between, Inside, After, Shape, HeadValue, part_messages, end_messages}
use Rattle.pnm_write.proofs.Words.{rest_messages, IsRowOf, IsLawfulFrom, row_messages, rows_list, row_bytes, header_text, bytes_from, rows_bytes}

-- rows of an image are written, and its end has no bytes
bytes_inside : (form : Form) (s : Shape) (y : ℕ) (rows : List (List ℕ)) (ends : Bool)
    → bytes_from form (Inside s y) (row_messages rows ++ end_messages ends) ≡ rows_bytes form s rows
bytes_inside form s y [] false = refl
bytes_inside form s y [] true = refl
bytes_inside form s y (row ∷ rows) ends = ap (λ (l : List ℕ). row_bytes form s row ++ l) (bytes_inside form s (y + 1) rows ends)

-- and outside an image there are none
bytes_between : (form : Form) (rows : List (List ℕ)) (ends : Bool) → bytes_from form Between (row_messages rows ++ end_messages ends) ≡ []
bytes_between form [] false = refl
bytes_between form [] true = refl
bytes_between form (row ∷ rows) ends = bytes_between form rows ends

bytes_after : (form : Form) (rows : List (List ℕ)) (ends : Bool) → bytes_from form After (row_messages rows ++ end_messages ends) ≡ []
bytes_after form [] false = refl
bytes_after form [] true = refl
bytes_after form (row ∷ rows) ends = bytes_after form rows ends

-- rows that may come in an image are its rows
rows_of_image : (s : Shape) (y : ℕ) (rows : List (List ℕ)) (more : List Message) → IsLawfulFrom (Inside s y) (row_messages rows ++ more)
    → AllByRecursion (IsRowOf s) rows
rows_of_image s y [] more lawful = tt
rows_of_image s y (row ∷ rows) more lawful = (lawful.0.1, rows_of_image s (y + 1) rows more lawful.1)

module _ {o : Option HeadValue} {part : List Message} where
  -- a part that begins an image
  begun : {head : HeadValue} (rows : Option (List (List ℕ))) (ends : Bool) → o ≡ Some head → part ≡ part_messages o rows ends
      → part ≡ Begin head ∷ rest_messages rows ends
  begun rows ends some is = is ∙ ap (λ (o : Option HeadValue). part_messages o rows ends) some

  pub begun_bytes : (form : Form) (place : Place) {head : HeadValue} (rows : Option (List (List ℕ))) (ends : Bool) → o ≡ Some head
      → part ≡ part_messages o rows ends → bytes_from form place part ≡ header_text form head ++ rows_bytes form head.shape (rows_list rows)
  begun_bytes form place {head} rows ends some is =
      ap (bytes_from form place) (begun rows ends some is)
      ∙ ap (λ (l : List ℕ). header_text form head ++ l) (bytes_inside form head.shape 0 (rows_list rows) ends)

  pub begun_rows : (place : Place) {head : HeadValue} (rows : Option (List (List ℕ))) (ends : Bool) → o ≡ Some head → part ≡ part_messages o rows ends
      → IsLawfulFrom place part → AllByRecursion (IsRowOf head.shape) (rows_list rows)
  begun_rows place {head} rows ends some is lawful =
      rows_of_image head.shape 0 (rows_list rows) (end_messages ends) (subst (IsLawfulFrom place) (begun rows ends some is) lawful).1

  -- a part without a head
  going_on : (rows : Option (List (List ℕ))) (ends : Bool) → o ≡ None → part ≡ part_messages o rows ends → part ≡ rest_messages rows ends
  going_on rows ends none is = is ∙ ap (λ (o : Option HeadValue). part_messages o rows ends) none

  pub inside_bytes : (form : Form) {place : Place} {s : Shape} {y : ℕ} (rows : Option (List (List ℕ))) (ends : Bool) → place ≡ Inside s y → o ≡ None
      → part ≡ part_messages o rows ends → bytes_from form place part ≡ rows_bytes form s (rows_list rows)
  inside_bytes form {s} {y} rows ends here none is = ap₂ (bytes_from form) here (going_on rows ends none is) ∙ bytes_inside form s y (rows_list rows) ends

  pub inside_rows : {place : Place} {s : Shape} {y : ℕ} (rows : Option (List (List ℕ))) (ends : Bool) → place ≡ Inside s y → o ≡ None
      → part ≡ part_messages o rows ends → IsLawfulFrom place part → AllByRecursion (IsRowOf s) (rows_list rows)
  inside_rows {s} {y} rows ends here none is lawful =
      let from : IsLawfulFrom (Inside s y) part = subst (λ (p : Place). IsLawfulFrom p part) here lawful in
      rows_of_image s y (rows_list rows) (end_messages ends) (subst (IsLawfulFrom (Inside s y)) (going_on rows ends none is) from)

  pub outside_bytes : (form : Form) (place : Place) (rows : Option (List (List ℕ))) (ends : Bool) → (place ≡ Between) ⊎ (place ≡ After) → o ≡ None
      → part ≡ part_messages o rows ends → bytes_from form place part ≡ []
  outside_bytes form place rows ends (inl here) none is = ap₂ (bytes_from form) here (going_on rows ends none is) ∙ bytes_between form (rows_list rows) ends
  outside_bytes form place rows ends (inr here) none is = ap₂ (bytes_from form) here (going_on rows ends none is) ∙ bytes_after form (rows_list rows) ends
