-- What becomes of an image that isn't refused.
use Rattle.pnm_tools.proofs.Words.{◌≡◌, ℕ, zero, suc, ◌+◌, List, [], ◌∷◌, ◌++◌, map, Result, Ok, Err, refl, sym, ap, ◌∙◌, append_assoc, append-nil, flat_map}
use Rattle.pnm_tools.proofs.Words.{range_with_len, map-append, Shape, Message, Begin, Row, ImageEnd, Between, Inside, HeadValue, Image, rows_of}
use Rattle.pnm_tools.proofs.Words.{messages_of_image, ToolFault, Tool, result_head, result_sample, applied, row_answer, end_answer, image_by, answers_from}

-- what becomes of an image by a formula and what becomes of its head
abbrev pub made_by : (ℕ → ℕ → ℕ → ℕ) → Result HeadValue ToolFault → Result Image ToolFault
made_by sample r = elim r [ Ok head ↦ Ok (image_by head sample) | Err fault ↦ Err fault ]

-- an image by its head
pub record IsBy (r : Result HeadValue ToolFault) (sample : ℕ → ℕ → ℕ → ℕ) (j : Image) : Type 0 where
  pub head : r ≡ Ok j.head
  pub whole : image_by j.head sample ≡ j

by_head : (sample : ℕ → ℕ → ℕ → ℕ) (r : Result HeadValue ToolFault) (j : Image) → made_by sample r ≡ Ok j → IsBy r sample j
by_head sample (Ok head) j e =
    let same : image_by head sample ≡ j = cc in
    record { head = ap (λ (k : Image). Ok k.head) same; whole = ap (λ (k : Image). image_by k.head sample) (sym same) ∙ same }
by_head sample (Err fault) j e = absurd cc

-- a result is of the result's head
pub result_by_head : (tool : Tool) (i j : Image) → applied tool i ≡ Ok j → IsBy (result_head tool i.head) (result_sample tool i) j
result_by_head tool i j e = by_head (result_sample tool i) (result_head tool i.head) j e

-- the rows that answer rows as they come, row y first
abbrev pub answers_to_rows : Tool → Shape → ℕ → List (List ℕ) → List (List ℕ)
answers_to_rows tool s y [] = []
answers_to_rows tool s y (row ∷ rows) = row_answer tool s y row ++ answers_to_rows tool s (y + 1) rows

-- where each row is answered by one
pub each_row_answered : (tool : Tool) (s : Shape) (f : List ℕ → List ℕ) → ((y : ℕ) (row : List ℕ) → row_answer tool s y row ≡ f row ∷ [])
    → (y : ℕ) (rows : List (List ℕ)) → answers_to_rows tool s y rows ≡ map f rows
each_row_answered tool s f one y [] = refl
each_row_answered tool s f one y (row ∷ rows) =
    ap (λ (l : List (List ℕ)). l ++ answers_to_rows tool s (y + 1) rows) (one y row)
    ∙ ap (λ (l : List (List ℕ)). f row ∷ l) (each_row_answered tool s f one (y + 1) rows)

-- the answers to rows that are given by their numbers
pub numbered_rows_answered : (tool : Tool) (s : Shape) (row : ℕ → List ℕ) (y n : ℕ) → answers_to_rows tool s y (map row (range_with_len y n))
    ≡ flat_map (λ k. row_answer tool s k (row k)) (range_with_len y n)
numbered_rows_answered tool s row y zero = refl
numbered_rows_answered tool s row y (suc n) = ap (λ (l : List (List ℕ)). row_answer tool s y (row y) ++ l) (numbered_rows_answered tool s row (y + 1) n)

-- the answer to the rows and the end of an image, of which some rows have come
pub rows_answered : (tool : Tool) (s : Shape) (y : ℕ) (come rows : List (List ℕ))
    → answers_from tool (Inside s y) come (map Row rows ++ ImageEnd ∷ []) ≡ map Row (answers_to_rows tool s y rows ++ end_answer tool s (come ++ rows))
    ++ ImageEnd ∷ []
rows_answered tool s y come [] =
    append-nil (map Row (end_answer tool s come) ++ ImageEnd ∷ [])
    ∙ ap (λ (l : List (List ℕ)). map Row (end_answer tool s l) ++ ImageEnd ∷ []) (sym (append-nil come))
rows_answered tool s y come (row ∷ rows) =
    let first : List (List ℕ) = row_answer tool s y row in
    let others : List (List ℕ) = answers_to_rows tool s (y + 1) rows in
    let last : List (List ℕ) = end_answer tool s (come ++ row ∷ rows) in
    ap (λ (l : List Message). map Row first ++ l) (rows_answered tool s (y + 1) (come ++ row ∷ []) rows)
    ∙ ap (λ (l : List (List ℕ)). map Row first ++ (map Row (others ++ end_answer tool s l) ++ ImageEnd ∷ [])) (append_assoc come (row ∷ []) rows)
    ∙ sym (append_assoc (map Row first) (map Row (others ++ last)) (ImageEnd ∷ []))
    ∙ ap (λ (l : List Message). l ++ ImageEnd ∷ []) (sym (map-append Row first (others ++ last)))
    ∙ ap (λ (l : List (List ℕ)). map Row l ++ ImageEnd ∷ []) (sym (append_assoc first others last))

-- an image that isn't refused is answered by its result, where its rows and its end are
pub answered_by_rows : (tool : Tool) (i j : Image) → applied tool i ≡ Ok j
    → answers_to_rows tool i.head.shape 0 (rows_of i) ++ end_answer tool i.head.shape (rows_of i) ≡ rows_of (image_by j.head (result_sample tool i))
    → answers_from tool Between [] (messages_of_image i) ≡ messages_of_image j
answered_by_rows tool i j e rows =
    let made = result_by_head tool i j e in
    let rest : List Message = answers_from tool (Inside i.head.shape 0) [] (map Row (rows_of i) ++ ImageEnd ∷ []) in
    ap (λ (r : Result HeadValue ToolFault). elim r [ Ok result ↦ Begin result ∷ [] | Err fault ↦ [] ] ++ rest) made.head
    ∙ ap (λ (l : List Message). Begin j.head ∷ l) (rows_answered tool i.head.shape 0 [] (rows_of i)
    ∙ ap (λ (l : List (List ℕ)). map Row l ++ ImageEnd ∷ []) rows)
    ∙ ap messages_of_image made.whole
