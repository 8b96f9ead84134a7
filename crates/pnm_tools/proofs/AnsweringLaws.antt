-- What tools have given message by message is a prefix of the output due.
use Rattle.pnm_tools.proofs.Words.{◌≡◌, ◌⊎◌, inl, inr, ℕ, List, [], ◌∷◌, ◌++◌, map, Result, Ok, Err, refl, sym, ap, subst, ◌∙◌, append_assoc, Message, Begin}
use Rattle.pnm_tools.proofs.Words.{Row, ImageEnd, StreamEnd, Stop, Place, Between, Inside, HeadValue, Image, IsImage, AreImages, rows_of, messages_of_image}
use Rattle.pnm_tools.proofs.Words.{messages_of_stream, place_after, place_of, IsPrefixOf, ToolFault, Tool, AreTaken, result_head, result_sample, applied}
use Rattle.pnm_tools.proofs.Words.{image_by, answers_at, answers_from, rows_after, rows_come, Begins}
use Rattle.pnm_tools.specs.Tools.{output_due}

-- the answer to a prefix, and then to the rest
pub answers_from-append : (tool : Tool) (place : Place) (rows : List (List ℕ)) (a b : List Message)
    → answers_from tool place rows (a ++ b) ≡ answers_from tool place rows a ++ answers_from tool (place_of place a) (rows_come rows a) b
answers_from-append tool place rows [] b = refl
answers_from-append tool place rows (m ∷ a) b =
    ap (λ (l : List Message). answers_at tool place rows m ++ l) (answers_from-append tool (place_after place m) (rows_after rows m) a b)
    ∙ sym (append_assoc (answers_at tool place rows m) (answers_from tool (place_after place m) (rows_after rows m) a)
    (answers_from tool (place_of (place_after place m) a) (rows_come (rows_after rows m) a) b))

-- two prefixes of one list: one is a prefix of the other
abbrev pub Prefixes : List Message → List Message → List Message → List Message → Type 0
Prefixes a b x y = ((more : List Message) × (a ≡ x ++ more) × (y ≡ more ++ b)) ⊎ ((more : List Message) × (x ≡ a ++ more) × (b ≡ more ++ y))

pub prefixes : (a b x y : List Message) → a ++ b ≡ x ++ y → Prefixes a b x y
prefixes [] b x y e = inr (x, refl, e)
prefixes (m ∷ a) b [] y e = inl (m ∷ a, refl, sym e)
prefixes (m ∷ a) b (n ∷ x) y e =
    let first : m ≡ n = cc in
    let others : a ++ b ≡ x ++ y = cc in
    elim (prefixes a b x y others) [
      | inl h ↦ inl (h.0, ap (λ (k : Message). k ∷ a) first ∙ ap (λ (l : List Message). n ∷ l) h.1, h.2)
      | inr h ↦ inr (h.0, ap (λ (l : List Message). n ∷ l) h.1 ∙ ap (λ (k : Message). k ∷ (a ++ h.0)) (sym first), h.2)
    ]

-- a whole image that isn't refused is answered by its result (what each tool has to show)
abbrev pub AnswersImages : Tool → Type 0
AnswersImages tool = (i j : Image) → IsImage i → applied tool i ≡ Ok j → answers_from tool Between [] (messages_of_image i) ≡ messages_of_image j

pub taken_rest : (tool : Tool) (a b : List Message) → AreTaken tool (a ++ b) → AreTaken tool b
taken_rest tool [] b t = t
taken_rest tool (Begin head ∷ a) b t = taken_rest tool a b t.1
taken_rest tool (Row row ∷ a) b t = taken_rest tool a b t
taken_rest tool (ImageEnd ∷ a) b t = taken_rest tool a b t
taken_rest tool (StreamEnd ∷ a) b t = taken_rest tool a b t
taken_rest tool (Stop ∷ a) b t = taken_rest tool a b t

-- one message more
pub taken_more : (tool : Tool) (l : List Message) (m : Message) → AreTaken tool l → Begins tool m → AreTaken tool (l ++ m ∷ [])
taken_more tool [] (Begin head) t b = (b, tt)
taken_more tool [] (Row row) t b = tt
taken_more tool [] ImageEnd t b = tt
taken_more tool [] StreamEnd t b = tt
taken_more tool [] Stop t b = tt
taken_more tool (Begin head ∷ l) m t b = (t.0, taken_more tool l m t.1 b)
taken_more tool (Row row ∷ l) m t b = taken_more tool l m t b
taken_more tool (ImageEnd ∷ l) m t b = taken_more tool l m t b
taken_more tool (StreamEnd ∷ l) m t b = taken_more tool l m t b
taken_more tool (Stop ∷ l) m t b = taken_more tool l m t b

-- after an image the place is between images
ends_rows : (place : Place) (rows : List (List ℕ)) → place_of place (map Row rows ++ ImageEnd ∷ []) ≡ Between
ends_rows place [] = refl
ends_rows place (row ∷ rows) = ends_rows (place_after place (Row row)) rows

pub ends_between : (i : Image) → place_of Between (messages_of_image i) ≡ Between
ends_between i = ends_rows (Inside i.head.shape 0) (rows_of i)

-- and no row of the next one has come
none_after : (come rows : List (List ℕ)) → rows_come come (map Row rows ++ ImageEnd ∷ []) ≡ []
none_after come [] = refl
none_after come (row ∷ rows) = none_after (come ++ row ∷ []) rows

pub ends_without_rows : (i : Image) → rows_come [] (messages_of_image i) ≡ []
ends_without_rows i = none_after [] (rows_of i)

-- the answer to an image, and then to what comes after it
pub answered_after_image : (tool : Tool) (i : Image) (more : List Message) → answers_from tool Between [] (messages_of_image i ++ more)
    ≡ answers_from tool Between [] (messages_of_image i) ++ answers_from tool Between [] more
answered_after_image tool i more =
    answers_from-append tool Between [] (messages_of_image i) more
    ∙ ap (λ (p : Place). answers_from tool Between [] (messages_of_image i) ++ answers_from tool p (rows_come [] (messages_of_image i)) more) (ends_between i)
    ∙ ap (λ (rows : List (List ℕ)). answers_from tool Between [] (messages_of_image i) ++ answers_from tool Between rows more) (ends_without_rows i)

-- the output due by what becomes of the first image
abbrev pub due_by : Tool → List Image → Result Image ToolFault → List Message
due_by tool is r = elim r [ Ok j ↦ messages_of_image j ++ output_due tool is | Err fault ↦ [] ]

pub due_is : (tool : Tool) (i : Image) (is : List Image) → output_due tool (i ∷ is) ≡ due_by tool is (applied tool i)
unfolding output_due
due_is tool i is = refl

abbrev IsDuePrefix : Tool → List Message → List Message → Type 0
IsDuePrefix tool l due = IsPrefixOf (answers_from tool Between [] l) due

-- an image that is refused hasn't begun
abbrev pub applied_by : (HeadValue → Image) → Result HeadValue ToolFault → Result Image ToolFault
applied_by make r = elim r [ Ok head ↦ Ok (make head) | Err fault ↦ Err fault ]

head_refused : (make : HeadValue → Image) (r : Result HeadValue ToolFault) (fault : ToolFault) (result : HeadValue) → applied_by make r ≡ Err fault
    → r ≡ Ok result → ⊥
head_refused make (Ok head) fault result a e = absurd cc
head_refused make (Err other) fault result a e = absurd cc

refused_prefix : (tool : Tool) (i : Image) (is : List Image) (l rest : List Message) (fault : ToolFault) → applied tool i ≡ Err fault
    → messages_of_image i ++ messages_of_stream is ≡ l ++ rest → AreTaken tool l → IsDuePrefix tool l []
refused_prefix tool i is [] rest fault a e t = ([], refl)
refused_prefix tool i is (Begin head ∷ l) rest fault a e t =
    let same : i.head ≡ head = cc in
    absurd (head_refused (λ h. image_by h (result_sample tool i)) (result_head tool i.head) fault t.0.0 a (ap (result_head tool) same ∙ t.0.1))
refused_prefix tool i is (Row row ∷ l) rest fault a e t = absurd cc
refused_prefix tool i is (ImageEnd ∷ l) rest fault a e t = absurd cc
refused_prefix tool i is (StreamEnd ∷ l) rest fault a e t = absurd cc
refused_prefix tool i is (Stop ∷ l) rest fault a e t = absurd cc

-- messages within the first image, or beyond it
image_prefix : (tool : Tool) (i j : Image) (is : List Image) (l rest : List Message) → answers_from tool Between [] (messages_of_image i) ≡ messages_of_image j
    → AreTaken tool l
    → ((more : List Message) → messages_of_stream is ≡ more ++ rest → AreTaken tool more → IsDuePrefix tool more (output_due tool is))
    → Prefixes (messages_of_image i) (messages_of_stream is) l rest → IsDuePrefix tool l (messages_of_image j ++ output_due tool is)
image_prefix tool i j is l rest a t others (inl h) =
    let rest : List Message = answers_from tool (place_of Between l) (rows_come [] l) h.0 in
    let parts : messages_of_image j ≡ answers_from tool Between [] l ++ rest = sym a ∙ ap (answers_from tool Between []) h.1
    ∙ answers_from-append tool Between [] l h.0 in (
      rest ++ output_due tool is,
      ap (λ (x : List Message). x ++ output_due tool is) parts
          ∙ append_assoc (answers_from tool Between [] l) rest (output_due tool is),
    )
image_prefix tool i j is l rest a t others (inr h) =
    let more : List Message = h.0 in
    let taken : AreTaken tool more = taken_rest tool (messages_of_image i) more (subst (AreTaken tool) h.1 t) in
    let due = others more h.2 taken in
    let answer : answers_from tool Between [] l ≡ messages_of_image j ++ answers_from tool Between [] more = ap (answers_from tool Between []) h.1
    ∙ answered_after_image tool i more ∙ ap (λ (x : List Message). x ++ answers_from tool Between [] more) a in (
      due.0,
      ap (λ (x : List Message). messages_of_image j ++ x) due.1 ∙ sym (append_assoc (messages_of_image j) (answers_from tool Between [] more) due.0)
          ∙ ap (λ (x : List Message). x ++ due.0) (sym answer),
    )

prefix_by : (tool : Tool) (i : Image) (is : List Image) (l rest : List Message) (r : Result Image ToolFault) → AnswersImages tool → IsImage i
    → applied tool i ≡ r → messages_of_image i ++ messages_of_stream is ≡ l ++ rest → AreTaken tool l
    → ((more : List Message) → messages_of_stream is ≡ more ++ rest → AreTaken tool more → IsDuePrefix tool more (output_due tool is))
    → IsDuePrefix tool l (due_by tool is r)
prefix_by tool i is l rest (Err fault) answers image a e t others = refused_prefix tool i is l rest fault a e t
prefix_by tool i is l rest (Ok j) answers image a e t others =
    image_prefix tool i j is l rest (answers i j image a) t others (prefixes (messages_of_image i) (messages_of_stream is) l rest e)

end_prefix : (tool : Tool) (l rest : List Message) → StreamEnd ∷ [] ≡ l ++ rest → IsDuePrefix tool l (StreamEnd ∷ [])
end_prefix tool [] rest e = (StreamEnd ∷ [], refl)
end_prefix tool (StreamEnd ∷ []) rest e = ([], refl)
end_prefix tool (StreamEnd ∷ n ∷ l) rest e = absurd cc
end_prefix tool (Begin head ∷ l) rest e = absurd cc
end_prefix tool (Row row ∷ l) rest e = absurd cc
end_prefix tool (ImageEnd ∷ l) rest e = absurd cc
end_prefix tool (Stop ∷ l) rest e = absurd cc

-- of messages that images complete, none of whose heads is refused, the answers are a prefix of the output due
pub answers_are_due : (tool : Tool) (is : List Image) (l rest : List Message) → AnswersImages tool → AreImages is → messages_of_stream is ≡ l ++ rest
    → AreTaken tool l → IsPrefixOf (answers_from tool Between [] l) (output_due tool is)
unfolding output_due
answers_are_due tool [] l rest answers are e t = end_prefix tool l rest e
answers_are_due tool (i ∷ is) l rest answers are e t =
    subst (IsDuePrefix tool l) (sym (due_is tool i is))
    (prefix_by tool i is l rest (applied tool i) answers are.0 refl e t (λ more f u. answers_are_due tool is more rest answers are.1 f u))
