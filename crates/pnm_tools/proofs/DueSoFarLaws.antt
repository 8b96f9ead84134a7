-- What is due so far is a prefix of the answers.
use Rattle.pnm_tools.proofs.Words.{◌≡◌, ◌⊎◌, inl, inr, ℕ, zero, suc, ◌+◌, Bool, true, false, List, [], ◌∷◌, ◌++◌, map, Result, Ok, Err, refl, sym, ap, subst}
use Rattle.pnm_tools.proofs.Words.{◌∙◌, append_assoc, append-nil, Shape, Message, Begin, Row, ImageEnd, StreamEnd, Stop, Place, Between, Inside, HeadValue}
use Rattle.pnm_tools.proofs.Words.{Image, IsImage, AreImages, rows_of, messages_of_image, messages_of_stream, place_of, IsPrefixOf, place_of-append, ToolFault}
use Rattle.pnm_tools.proofs.Words.{Tool, result_head, applied, images_ended, begun_of, answers_from}
use Rattle.pnm_tools.specs.Answers.{due_so_far}
use Rattle.pnm_tools.proofs.AnsweringLaws.{AnswersImages, Prefixes, prefixes, ends_between, answered_after_image}

-- an image and more: one image more has ended
rows_ended : (rows : List (List ℕ)) (more : List Message) → images_ended ((map Row rows ++ ImageEnd ∷ []) ++ more) ≡ suc (images_ended more)
rows_ended [] more = refl
rows_ended (row ∷ rows) more = rows_ended rows more

image_ended : (i : Image) (more : List Message) → images_ended (messages_of_image i ++ more) ≡ suc (images_ended more)
image_ended i more = rows_ended (rows_of i) more

-- a prefix of the rows and the end of an image is all of it, or within the image
abbrev IsInside : Shape → ℕ → List Message → List Message → List Message → Type 0
IsInside s y whole f more = ((f ≡ whole) × (more ≡ [])) ⊎ ((images_ended f ≡ 0) × (begun_of (place_of (Inside s y) f) ≡ true))

rows_inside : (s : Shape) (y : ℕ) (rows : List (List ℕ)) (f more : List Message) → map Row rows ++ ImageEnd ∷ [] ≡ f ++ more
    → IsInside s y (map Row rows ++ ImageEnd ∷ []) f more
rows_inside s y rows [] more e = inr (refl, refl)
rows_inside s y [] (ImageEnd ∷ []) more e = inl (refl, let none : [] ≡ more = cc in sym none)
rows_inside s y [] (ImageEnd ∷ n ∷ f) more e = absurd cc
rows_inside s y [] (Begin head ∷ f) more e = absurd cc
rows_inside s y [] (Row row ∷ f) more e = absurd cc
rows_inside s y [] (StreamEnd ∷ f) more e = absurd cc
rows_inside s y [] (Stop ∷ f) more e = absurd cc
rows_inside s y (r ∷ rows) (Row row ∷ f) more e =
    let first : r ≡ row = cc in
    let others : map Row rows ++ ImageEnd ∷ [] ≡ f ++ more = cc in
    elim (rows_inside s (y + 1) rows f more others) [
      | inl h ↦ inl (ap (λ (l : List Message). Row row ∷ l) h.0 ∙ ap (λ (x : List ℕ). Row x ∷ (map Row rows ++ ImageEnd ∷ [])) (sym first), h.1)
      | inr h ↦ inr h
    ]
rows_inside s y (r ∷ rows) (Begin head ∷ f) more e = absurd cc
rows_inside s y (r ∷ rows) (ImageEnd ∷ f) more e = absurd cc
rows_inside s y (r ∷ rows) (StreamEnd ∷ f) more e = absurd cc
rows_inside s y (r ∷ rows) (Stop ∷ f) more e = absurd cc

-- what is due of nothing
nothing_due : (tool : Tool) (n : ℕ) (b : Bool) → due_so_far tool n b [] ≡ []
unfolding due_so_far
nothing_due tool zero true = refl
nothing_due tool zero false = refl
nothing_due tool (suc n) true = refl
nothing_due tool (suc n) false = refl

due_none : (tool : Tool) (i : Image) (is : List Image) → due_so_far tool zero false (i ∷ is) ≡ []
unfolding due_so_far
due_none tool i is = refl

-- where an image has begun, its head
abbrev head_by : Result HeadValue ToolFault → List Message
head_by r = elim r [ Ok head ↦ Begin head ∷ [] | Err fault ↦ [] ]

due_head : (tool : Tool) (i : Image) (is : List Image) → due_so_far tool zero true (i ∷ is) ≡ head_by (result_head tool i.head)
unfolding due_so_far
due_head tool i is = refl

abbrev image_so_far : Tool → ℕ → Bool → List Image → Result Image ToolFault → List Message
image_so_far tool n b is r = elim r [ Ok j ↦ messages_of_image j ++ due_so_far tool n b is | Err fault ↦ [] ]

due_image : (tool : Tool) (n : ℕ) (b : Bool) (i : Image) (is : List Image) → due_so_far tool (suc n) b (i ∷ is) ≡ image_so_far tool n b is (applied tool i)
unfolding due_so_far
due_image tool n b i is = refl

abbrev IsPrefixSoFar : Tool → List Image → List Message → Type 0
IsPrefixSoFar tool is l = IsPrefixOf (due_so_far tool (images_ended l) (begun_of (place_of Between l)) is) (answers_from tool Between [] l)

-- a whole image, and more
beyond_image : (tool : Tool) (i : Image) (is : List Image) (l more : List Message) (r : Result Image ToolFault) → AnswersImages tool → IsImage i
    → applied tool i ≡ r → l ≡ messages_of_image i ++ more → IsPrefixSoFar tool is more → IsPrefixSoFar tool (i ∷ is) l
beyond_image tool i is l more (Err fault) answers image a e others =
    let count : images_ended l ≡ suc (images_ended more) = ap images_ended e ∙ image_ended i more in
    let b : Bool = begun_of (place_of Between l) in
    let nothing : due_so_far tool (images_ended l) b (i ∷ is) ≡ [] = ap (λ (n : ℕ). due_so_far tool n b (i ∷ is)) count
    ∙ due_image tool (images_ended more) b i is ∙ ap (image_so_far tool (images_ended more) b is) a in
    (answers_from tool Between [] l, ap (λ (x : List Message). x ++ answers_from tool Between [] l) (sym nothing))
beyond_image tool i is l more (Ok j) answers image a e others =
    let count : images_ended l ≡ suc (images_ended more) = ap images_ended e ∙ image_ended i more in
    let place : place_of Between l ≡ place_of Between more = ap (place_of Between) e ∙ place_of-append Between (messages_of_image i) more
    ∙ ap (λ (p : Place). place_of p more) (ends_between i) in
    let b : Bool = begun_of (place_of Between more) in
    let all : due_so_far tool (images_ended l) (begun_of (place_of Between l)) (i ∷ is) ≡ messages_of_image j ++ due_so_far tool (images_ended more) b is =
    ap (λ (p : Place). due_so_far tool (images_ended l) (begun_of p) (i ∷ is)) place ∙ ap (λ (n : ℕ). due_so_far tool n b (i ∷ is)) count
    ∙ due_image tool (images_ended more) b i is ∙ ap (image_so_far tool (images_ended more) b is) a in
    let answer : answers_from tool Between [] l ≡ messages_of_image j ++ answers_from tool Between [] more = ap (answers_from tool Between []) e
    ∙ answered_after_image tool i more ∙ ap (λ (x : List Message). x ++ answers_from tool Between [] more) (answers i j image a) in (
      others.0,
      answer ∙ ap (λ (x : List Message). messages_of_image j ++ x) others.1
          ∙ sym (append_assoc (messages_of_image j) (due_so_far tool (images_ended more) b is) others.0) ∙ ap (λ (x : List Message). x ++ others.0) (sym all),
    )

-- an image that has begun
within_image : (tool : Tool) (i : Image) (is : List Image) (f : List Message) → images_ended f ≡ 0 → begun_of (place_of (Inside i.head.shape 0) f) ≡ true
    → IsPrefixSoFar tool (i ∷ is) (Begin i.head ∷ f)
within_image tool i is f none begun =
    let all : due_so_far tool (images_ended f) (begun_of (place_of (Inside i.head.shape 0) f)) (i ∷ is) ≡ head_by (result_head tool i.head) =
    ap (λ (b : Bool). due_so_far tool (images_ended f) b (i ∷ is)) begun ∙ ap (λ (n : ℕ). due_so_far tool n true (i ∷ is)) none ∙ due_head tool i is in
    (answers_from tool (Inside i.head.shape 0) [] f, ap (λ (x : List Message). x ++ answers_from tool (Inside i.head.shape 0) [] f) (sym all))

-- messages of one image, or beyond it
of_image : (tool : Tool) (i : Image) (is : List Image) (l rest : List Message) → AnswersImages tool → IsImage i
    → ((more : List Message) → messages_of_stream is ≡ more ++ rest → IsPrefixSoFar tool is more)
    → ((more : List Message) → more ≡ [] → IsPrefixSoFar tool is more)
    → Prefixes (messages_of_image i) (messages_of_stream is) l rest → IsPrefixSoFar tool (i ∷ is) l
of_image tool i is l rest answers image others none (inr h) = beyond_image tool i is l h.0 (applied tool i) answers image refl h.1 (others h.0 h.2)
of_image tool i is [] rest answers image others none (inl h) = ([], ap (λ (x : List Message). x ++ []) (sym (due_none tool i is)))
of_image tool i is (Begin head ∷ f) rest answers image others none (inl h) =
    let same : i.head ≡ head = let e = h.1 in cc in
    let tail : map Row (rows_of i) ++ ImageEnd ∷ [] ≡ f ++ h.0 = let e = h.1 in cc in
    elim (rows_inside i.head.shape 0 (rows_of i) f h.0 tail) [
      | inl w ↦ beyond_image tool i is (Begin head ∷ f) [] (applied tool i) answers image refl (ap (λ (x : List Message). Begin head ∷ x) w.0
          ∙ ap (λ (k : HeadValue). Begin k ∷ (map Row (rows_of i) ++ ImageEnd ∷ [])) (sym same) ∙ sym (append-nil (messages_of_image i))) (none [] refl)
      | inr w ↦ subst (λ (k : HeadValue). IsPrefixSoFar tool (i ∷ is) (Begin k ∷ f)) same (within_image tool i is f w.0 w.1)
    ]
of_image tool i is (Row row ∷ f) rest answers image others none (inl h) = let e = h.1 in absurd cc
of_image tool i is (ImageEnd ∷ f) rest answers image others none (inl h) = let e = h.1 in absurd cc
of_image tool i is (StreamEnd ∷ f) rest answers image others none (inl h) = let e = h.1 in absurd cc
of_image tool i is (Stop ∷ f) rest answers image others none (inl h) = let e = h.1 in absurd cc

-- nothing is due before the first message
pub nothing_yet : (tool : Tool) (is : List Image) → IsPrefixSoFar tool is []
nothing_yet tool [] = ([], ap (λ (x : List Message). x ++ []) (sym (nothing_due tool 0 false)))
nothing_yet tool (i ∷ is) = ([], ap (λ (x : List Message). x ++ []) (sym (due_none tool i is)))

-- of messages that images complete, what is due so far is a prefix of the answers
pub due_so_far_is_answered : (tool : Tool) (is : List Image) (l rest : List Message) → AnswersImages tool → AreImages is → messages_of_stream is ≡ l ++ rest
    → IsPrefixSoFar tool is l
due_so_far_is_answered tool [] l rest answers are e = (
  answers_from tool Between [] l,
  ap (λ (x : List Message). x ++ answers_from tool Between [] l)
      (sym (nothing_due tool (images_ended l) (begun_of (place_of Between l)))),
)
due_so_far_is_answered tool (i ∷ is) l rest answers are e =
    of_image tool i is l rest answers are.0 (λ more f. due_so_far_is_answered tool is more rest answers are.1 f)
    (λ more n. subst (IsPrefixSoFar tool is) (sym n) (nothing_yet tool is)) (prefixes (messages_of_image i) (messages_of_stream is) l rest e)
