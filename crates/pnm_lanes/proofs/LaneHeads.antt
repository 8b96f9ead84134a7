-- Heads, dealt to a lane: which ones a row-wise tool takes, and which one it refuses first.
use Rattle.pnm_lanes.proofs.Words.{◌≡◌, ℕ, ◌+◌, ◌<◌, ◌%◌, Bool, true, false, List, [], ◌∷◌, ◌++◌, map, Result, Ok, Err, refl, sym, ap, subst, ◌∙◌, ◌==◌}
use Rattle.pnm_lanes.proofs.Words.{if◌then◌else◌, Message, Begin, Row, ImageEnd, StreamEnd, Stop, Place, Between, Inside, After, HeadValue, IsHead, Image}
use Rattle.pnm_lanes.proofs.Words.{IsImage, AreImages, messages_of_stream, IsMessage, place_after, all_of_prefix, each-middle, completion, AllByRecursion}
use Rattle.pnm_lanes.proofs.Words.{ToolFault, Tool, dealt_head, dealt_image, dealt_message, dealt_from, dealt, dealt_result, IsRowWise, image_by, IsLawfulTool}
use Rattle.pnm_lanes.proofs.Words.{is_row_wise, result_head, result_sample, AreTaken, taken_rest, row_wise_tools_commute, dealt_head_result}

-- ---- one head

first_head : {h : HeadValue} (is : List Image) {rest : List Message} → AreImages is → messages_of_stream is ≡ Begin h ∷ rest
    → (i : Image) × IsImage i × (i.head ≡ h)
first_head [] are e = absurd cc
first_head (i ∷ is) are e = (i, are.0, cc)

-- each head is that of an image
image_with_head : {h : HeadValue} → IsHead h → (i : Image) × IsImage i × (i.head ≡ h)
image_with_head {h} is =
    let c = completion (Begin h ∷ []) (is, tt) (tt, tt) in
    first_head c.0 c.1 c.2.1

abbrev applied_by : (HeadValue → Image) → Result HeadValue ToolFault → Result Image ToolFault
applied_by make r = elim r [ Ok head ↦ Ok (make head) | Err fault ↦ Err fault ]

abbrev the_image : Image → Result Image ToolFault
the_image i = Ok i

abbrev the_fault : ToolFault → Result Image ToolFault
the_fault fault = Err fault

same_image : (i j : Image) → the_image i ≡ the_image j → i ≡ j
same_image i j e = cc

same_fault : (a b : ToolFault) → the_fault a ≡ the_fault b → a ≡ b
same_fault a b e = cc

head_by_image : (lane lanes : ℕ) (part whole : ℕ → ℕ → ℕ → ℕ) (r s : Result HeadValue ToolFault)
    → applied_by (λ h. image_by h part) r ≡ dealt_result lane lanes (applied_by (λ h. image_by h whole) s) → r ≡ dealt_head_result lane lanes s
head_by_image lane lanes part whole (Ok a) (Ok b) e =
    ap (λ (h : HeadValue). Ok h) (ap (λ (i : Image). i.head) (same_image (image_by a part) (dealt_image lane lanes (image_by b whole)) e))
head_by_image lane lanes part whole (Ok a) (Err f) e = absurd cc
head_by_image lane lanes part whole (Err f) (Ok b) e = absurd cc
head_by_image lane lanes part whole (Err f) (Err g) e = ap (λ (k : ToolFault). Err k) (same_fault f g e)

pub head_is_dealt : (tool : Tool) (lane lanes : ℕ) {h : HeadValue} → IsLawfulTool tool → is_row_wise tool ≡ true → lane < lanes → IsHead h
    → result_head tool (dealt_head lane lanes h) ≡ dealt_head_result lane lanes (result_head tool h)
head_is_dealt tool lane lanes lawful row_wise below is =
    let found = image_with_head is in
    let commutes : IsRowWise tool = (row_wise_tools_commute tool lawful).0 row_wise in
    subst (λ (k : HeadValue). result_head tool (dealt_head lane lanes k) ≡ dealt_head_result lane lanes (result_head tool k)) found.2
    (head_by_image lane lanes (result_sample tool (dealt_image lane lanes found.0)) (result_sample tool found.0)
    (result_head tool (dealt_head lane lanes found.0.head)) (result_head tool found.0.head) (commutes found.0 lane lanes found.1 below))

-- ---- heads that are taken

taken_by : (lane lanes : ℕ) (r : Result HeadValue ToolFault) {result : HeadValue} → dealt_head_result lane lanes r ≡ Ok result
    → (whole : HeadValue) × (r ≡ Ok whole)
taken_by lane lanes (Ok head) e = (head, refl)
taken_by lane lanes (Err fault) e = absurd cc

-- where no head that a lane gets is refused, none is
taken_from : (tool : Tool) (lane lanes : ℕ) (place : Place) (l : List Message) → IsLawfulTool tool → is_row_wise tool ≡ true → lane < lanes
    → AllByRecursion IsMessage l → AreTaken tool (dealt_from lane lanes place l) → AreTaken tool l
taken_from tool lane lanes place [] lawful row_wise below are taken = tt
taken_from tool lane lanes place (Begin head ∷ l) lawful row_wise below are taken = (
  taken_by lane lanes (result_head tool head) (sym (head_is_dealt tool lane lanes lawful row_wise below are.0) ∙ taken.0.1),
  taken_from tool lane lanes (place_after place (Begin head)) l lawful row_wise below are.1 taken.1,
)
taken_from tool lane lanes place (Row row ∷ l) lawful row_wise below are taken =
    taken_from tool lane lanes (place_after place (Row row)) l lawful row_wise below are.1
    (taken_rest tool (dealt_message lane lanes place (Row row)) (dealt_from lane lanes (place_after place (Row row)) l) taken)
taken_from tool lane lanes place (ImageEnd ∷ l) lawful row_wise below are taken =
    taken_from tool lane lanes (place_after place ImageEnd) l lawful row_wise below are.1 taken
taken_from tool lane lanes place (StreamEnd ∷ l) lawful row_wise below are taken =
    taken_from tool lane lanes (place_after place StreamEnd) l lawful row_wise below are.1 taken
taken_from tool lane lanes place (Stop ∷ l) lawful row_wise below are taken = taken_from tool lane lanes (place_after place Stop) l lawful row_wise below are.1
    taken

pub whole_is_taken : (tool : Tool) (lane lanes : ℕ) (l : List Message) → IsLawfulTool tool → is_row_wise tool ≡ true → lane < lanes → AllByRecursion IsMessage l
    → AreTaken tool (dealt lane lanes l) → AreTaken tool l
whole_is_taken tool lane lanes l lawful row_wise below are taken = taken_from tool lane lanes Between l lawful row_wise below are taken

-- ---- a head in what a lane gets

-- a head that a lane gets, with what came before it and after it, and the head that it comes from
pub record IsBeginIn (lane lanes : ℕ) (place : Place) (l : List Message) (before : List Message) (part : HeadValue) : Type 0 where
  pub prefix : List Message
  pub head : HeadValue
  pub rest : List Message
  pub parts : l ≡ prefix ++ Begin head ∷ rest
  pub earlier : before ≡ dealt_from lane lanes place prefix
  pub comes : part ≡ dealt_head lane lanes head

-- a message more before it
one_more : (lane lanes : ℕ) (place : Place) (m : Message) (l before : List Message) (part : HeadValue)
    → IsBeginIn lane lanes (place_after place m) l before part → IsBeginIn lane lanes place (m ∷ l) (dealt_message lane lanes place m ++ before) part
one_more lane lanes place m l before part is = record {
  prefix = m ∷ is.prefix;
  head = is.head;
  rest = is.rest;
  parts = ap (λ (x : List Message). m ∷ x) is.parts;
  earlier = ap (λ (x : List Message). dealt_message lane lanes place m ++ x) is.earlier;
  comes = is.comes;
}

abbrev Finds : ℕ → ℕ → Place → List Message → Type 0
Finds lane lanes place l = (before : List Message) (part : HeadValue) (after : List Message) → dealt_from lane lanes place l ≡ before ++ Begin part ∷ after
    → IsBeginIn lane lanes place l before part

-- after a message that the lane gets as one that begins no image
after_one : (lane lanes : ℕ) (place : Place) (m : Message) {x : Message} (l : List Message) → dealt_message lane lanes place m ≡ x ∷ []
    → ((part : HeadValue) → x ≡ Begin part → ⊥) → Finds lane lanes (place_after place m) l → Finds lane lanes place (m ∷ l)
after_one lane lanes place m {x} l one none finds [] part after e =
    let first : x ∷ dealt_from lane lanes (place_after place m) l ≡ Begin part ∷ after =
    ap (λ (y : List Message). y ++ dealt_from lane lanes (place_after place m) l) (sym one) ∙ e in
    absurd (none part cc)
after_one lane lanes place m {x} l one none finds (y ∷ before) part after e =
    let first : x ∷ dealt_from lane lanes (place_after place m) l ≡ y ∷ (before ++ Begin part ∷ after) =
    ap (λ (z : List Message). z ++ dealt_from lane lanes (place_after place m) l) (sym one) ∙ e in
    let same : x ≡ y = cc in
    let rest : dealt_from lane lanes (place_after place m) l ≡ before ++ Begin part ∷ after = cc in
    let here : dealt_message lane lanes place m ++ before ≡ y ∷ before = ap (λ (z : List Message). z ++ before) one ∙ ap (λ (z : Message). z ∷ before) same in
    subst (λ (z : List Message). IsBeginIn lane lanes place (m ∷ l) z part) here (one_more lane lanes place m l before part (finds before part after rest))

-- after a message of which the lane gets nothing
after_none : (lane lanes : ℕ) (place : Place) (m : Message) (l : List Message) → dealt_message lane lanes place m ≡ []
    → Finds lane lanes (place_after place m) l → Finds lane lanes place (m ∷ l)
after_none lane lanes place m l none finds before part after e =
    let rest : dealt_from lane lanes (place_after place m) l ≡ before ++ Begin part ∷ after =
    ap (λ (z : List Message). z ++ dealt_from lane lanes (place_after place m) l) (sym none) ∙ e in
    subst (λ (z : List Message). IsBeginIn lane lanes place (m ∷ l) z part) (ap (λ (z : List Message). z ++ before) none)
    (one_more lane lanes place m l before part (finds before part after rest))

no_row_begins : {row : List ℕ} (part : HeadValue) → Row row ≡ Begin part → ⊥
no_row_begins part e = absurd cc

after_row : (lane lanes : ℕ) (place : Place) (row : List ℕ) (l : List Message) (b : Bool)
    → dealt_message lane lanes place (Row row) ≡ map Row (if b then row ∷ [] else []) → Finds lane lanes (place_after place (Row row)) l
    → Finds lane lanes place (Row row ∷ l)
after_row lane lanes place row l true e finds = after_one lane lanes place (Row row) l e (no_row_begins) finds
after_row lane lanes place row l false e finds = after_none lane lanes place (Row row) l e finds

nothing_begins : (lane lanes : ℕ) (place : Place) → Finds lane lanes place []
nothing_begins lane lanes place [] part after e = absurd cc
nothing_begins lane lanes place (x ∷ before) part after e = absurd cc

after_begin : (lane lanes : ℕ) (place : Place) (head : HeadValue) (l : List Message) → Finds lane lanes (place_after place (Begin head)) l
    → Finds lane lanes place (Begin head ∷ l)
after_begin lane lanes place head l finds [] part after e = record {
  prefix = [];
  head = head;
  rest = l;
  parts = refl;
  earlier = refl;
  comes = let same : dealt_head lane lanes head ≡ part = cc in sym same;
}
after_begin lane lanes place head l finds (x ∷ before) part after e =
    let same : Begin (dealt_head lane lanes head) ≡ x = cc in
    let rest : dealt_from lane lanes (place_after place (Begin head)) l ≡ before ++ Begin part ∷ after = cc in
    subst (λ (z : Message). IsBeginIn lane lanes place (Begin head ∷ l) (z ∷ before) part) same
    (one_more lane lanes place (Begin head) l before part (finds before part after rest))

finds_begin : (lane lanes : ℕ) (place : Place) (l : List Message) → Finds lane lanes place l
finds_begin lane lanes place [] = nothing_begins lane lanes place
finds_begin lane lanes place (Begin head ∷ l) = after_begin lane lanes place head l (finds_begin lane lanes (place_after place (Begin head)) l)
finds_begin lane lanes Between (Row row ∷ l) = after_none lane lanes Between (Row row) l refl (finds_begin lane lanes Between l)
finds_begin lane lanes (Inside s y) (Row row ∷ l) = after_row lane lanes (Inside s y) row l ((y % lanes) == lane) refl
    (finds_begin lane lanes (Inside s (y + 1)) l)
finds_begin lane lanes After (Row row ∷ l) = after_none lane lanes After (Row row) l refl (finds_begin lane lanes After l)
finds_begin lane lanes place (ImageEnd ∷ l) = after_one lane lanes place ImageEnd l refl (λ part e. absurd cc)
    (finds_begin lane lanes (place_after place ImageEnd) l)
finds_begin lane lanes place (StreamEnd ∷ l) = after_one lane lanes place StreamEnd l refl (λ part e. absurd cc)
    (finds_begin lane lanes (place_after place StreamEnd) l)
finds_begin lane lanes place (Stop ∷ l) = after_one lane lanes place Stop l refl (λ part e. absurd cc) (finds_begin lane lanes (place_after place Stop) l)

pub begin_is_dealt : {lane lanes : ℕ} {l before : List Message} {part : HeadValue} (after : List Message) → dealt lane lanes l ≡ before ++ Begin part ∷ after
    → IsBeginIn lane lanes Between l before part
begin_is_dealt {lane} {lanes} {l} {before} {part} after e = finds_begin lane lanes Between l before part after e

-- ---- the head that is refused

refused_by : (lane lanes : ℕ) (r : Result HeadValue ToolFault) {fault : ToolFault} → dealt_head_result lane lanes r ≡ Err fault → r ≡ Err fault
refused_by lane lanes (Ok head) e = absurd cc
refused_by lane lanes (Err other) {fault} e = let same : other ≡ fault = cc in ap (λ (k : ToolFault). Err k) same

-- the first head that a lane refuses comes from the first that the tool refuses, by the same fault
pub refused_head_is_dealt : (tool : Tool) (lane lanes : ℕ) (l before : List Message) (part : HeadValue) (after : List Message) (fault : ToolFault)
    → IsLawfulTool tool → is_row_wise tool ≡ true → lane < lanes → AllByRecursion IsMessage l
    → dealt lane lanes l ≡ before ++ Begin part ∷ after → AreTaken tool before → result_head tool part ≡ Err fault
    → (prefix : List Message) × (head : HeadValue) × (rest : List Message) × (l ≡ prefix ++ Begin head ∷ rest) × AreTaken tool prefix
    × (result_head tool head ≡ Err fault)
refused_head_is_dealt tool lane lanes l before part after fault lawful row_wise below are e taken refused =
    let found = begin_is_dealt after e in
    let messages : AllByRecursion IsMessage (found.prefix ++ Begin found.head ∷ found.rest) = subst (AllByRecursion IsMessage) found.parts are in
    let head : IsHead found.head = each-middle IsMessage found.prefix (Begin found.head) found.rest messages in (
      found.prefix,
      found.head,
      found.rest,
      found.parts,
      whole_is_taken tool lane lanes found.prefix lawful row_wise below (all_of_prefix IsMessage found.prefix (Begin found.head ∷ found.rest) messages)
          (subst (AreTaken tool) found.earlier taken),
      refused_by lane lanes (result_head tool found.head) (sym (head_is_dealt tool lane lanes lawful row_wise below head)
          ∙ ap (result_head tool) (sym found.comes) ∙ refused),
    )
