-- What is due for images and an image that has begun, dealt to a lane.
use Rattle.pnm_lanes.proofs.Words.{◌≡◌, ℕ, zero, suc, ◌<◌, ◌%◌, Bool, true, false, List, [], ◌∷◌, ◌++◌, map, Result, Ok, Err, refl, sym, ap, ◌∙◌, ◌==◌}
use Rattle.pnm_lanes.proofs.Words.{if◌then◌else◌, Message, Begin, Row, ImageEnd, StreamEnd, Stop, Place, Between, Inside, After, HeadValue, Image, IsImage}
use Rattle.pnm_lanes.proofs.Words.{AreImages, messages_of_image, place_after, place_of, place_of-append, ToolFault, Tool, images_ended, begun_of, dealt_image}
use Rattle.pnm_lanes.proofs.Words.{dealt_message, dealt_from, dealt, dealt_result, IsRowWise, IsLawfulTool, is_row_wise, result_head, applied, result_is_image}
use Rattle.pnm_lanes.proofs.Words.{row_wise_tools_commute, dealt_images, dealt_head_result}
use Rattle.pnm_tools.specs.Answers.{due_so_far}
use Rattle.pnm_lanes.proofs.LaneLaws.{image_is_dealt}
use Rattle.pnm_lanes.proofs.LaneHeads.{head_is_dealt}

-- ---- how far the messages go

rows_end_none : (b : Bool) (row : List ℕ) (rest : List Message) → images_ended (map Row (if b then row ∷ [] else []) ++ rest) ≡ images_ended rest
rows_end_none true row rest = refl
rows_end_none false row rest = refl

row_begins_none : (q : Place) (row : List ℕ) → begun_of (place_after q (Row row)) ≡ begun_of q
row_begins_none Between row = refl
row_begins_none (Inside s y) row = refl
row_begins_none After row = refl

rows_begin_none : (q : Place) (b : Bool) (row : List ℕ) → begun_of (place_of q (map Row (if b then row ∷ [] else []))) ≡ begun_of q
rows_begin_none q true row = row_begins_none q row
rows_begin_none q false row = refl

abbrev head_so_far : Result HeadValue ToolFault → List Message
head_so_far r = elim r [ Ok head ↦ Begin head ∷ [] | Err fault ↦ [] ]

due_head : (tool : Tool) (i : Image) (is : List Image) → due_so_far tool zero true (i ∷ is) ≡ head_so_far (result_head tool i.head)
unfolding due_so_far
due_head tool i is = refl

abbrev image_so_far : Tool → ℕ → Bool → List Image → Result Image ToolFault → List Message
image_so_far tool n b is r = elim r [ Ok j ↦ messages_of_image j ++ due_so_far tool n b is | Err fault ↦ [] ]

due_image : (tool : Tool) (n : ℕ) (b : Bool) (i : Image) (is : List Image) → due_so_far tool (suc n) b (i ∷ is) ≡ image_so_far tool n b is (applied tool i)
unfolding due_so_far
due_image tool n b i is = refl

module _ (lane lanes : ℕ) where
  row_ends_none : (place : Place) (row : List ℕ) (rest : List Message) → images_ended (dealt_message lane lanes place (Row row) ++ rest) ≡ images_ended rest
  row_ends_none Between row rest = refl
  row_ends_none (Inside s y) row rest = rows_end_none ((y % lanes) == lane) row rest
  row_ends_none After row rest = refl

  -- as many images have ended in what a lane gets
  ended_from : (place : Place) (l : List Message) → images_ended (dealt_from lane lanes place l) ≡ images_ended l
  ended_from place [] = refl
  ended_from place (Begin head ∷ l) = ended_from (place_after place (Begin head)) l
  ended_from place (Row row ∷ l) = row_ends_none place row (dealt_from lane lanes (place_after place (Row row)) l)
      ∙ ended_from (place_after place (Row row)) l
  ended_from place (ImageEnd ∷ l) = ap suc (ended_from (place_after place ImageEnd) l)
  ended_from place (StreamEnd ∷ l) = ended_from (place_after place StreamEnd) l
  ended_from place (Stop ∷ l) = ended_from (place_after place Stop) l

  pub dealt_ended : (l : List Message) → images_ended (dealt lane lanes l) ≡ images_ended l
  dealt_ended l = ended_from Between l

  -- one message does the same to both places
  begun_after : (place q : Place) (m : Message) → begun_of q ≡ begun_of place
      → begun_of (place_of q (dealt_message lane lanes place m)) ≡ begun_of (place_after place m)
  begun_after place q (Begin head) same = refl
  begun_after Between q (Row row) same = same
  begun_after (Inside s y) q (Row row) same = rows_begin_none q ((y % lanes) == lane) row ∙ same
  begun_after After q (Row row) same = same
  begun_after place q ImageEnd same = refl
  begun_after place q StreamEnd same = refl
  begun_after place q Stop same = refl

  begun_from : (place q : Place) (l : List Message) → begun_of q ≡ begun_of place
      → begun_of (place_of q (dealt_from lane lanes place l)) ≡ begun_of (place_of place l)
  begun_from place q [] same = same
  begun_from place q (m ∷ l) same =
      ap begun_of (place_of-append q (dealt_message lane lanes place m) (dealt_from lane lanes (place_after place m) l))
      ∙ begun_from (place_after place m) (place_of q (dealt_message lane lanes place m)) l (begun_after place q m same)

  -- an image has begun in what a lane gets where one has
  pub dealt_begun : (l : List Message) → begun_of (place_of Between (dealt lane lanes l)) ≡ begun_of (place_of Between l)
  dealt_begun l = begun_from Between Between l refl

  -- ---- what is due so far

  nothing_due : (tool : Tool) (n : ℕ) (b : Bool) → due_so_far tool n b [] ≡ dealt lane lanes (due_so_far tool n b [])
  unfolding due_so_far
  nothing_due tool zero true = refl
  nothing_due tool zero false = refl
  nothing_due tool (suc n) true = refl
  nothing_due tool (suc n) false = refl

  due_none : (tool : Tool) (i : Image) (is : List Image)
      → due_so_far tool zero false (dealt_images lane lanes (i ∷ is)) ≡ dealt lane lanes (due_so_far tool zero false (i ∷ is))
  unfolding due_so_far
  due_none tool i is = refl

  head_so_far_is_dealt : (r : Result HeadValue ToolFault) → head_so_far (dealt_head_result lane lanes r) ≡ dealt lane lanes (head_so_far r)
  head_so_far_is_dealt (Ok head) = refl
  head_so_far_is_dealt (Err fault) = refl

  image_so_far_is_dealt : (tool : Tool) (n : ℕ) (b : Bool) {i : Image} (is : List Image) (r : Result Image ToolFault) → IsLawfulTool tool → IsImage i
      → applied tool i ≡ r → due_so_far tool n b (dealt_images lane lanes is) ≡ dealt lane lanes (due_so_far tool n b is)
      → image_so_far tool n b (dealt_images lane lanes is) (dealt_result lane lanes r) ≡ dealt lane lanes (image_so_far tool n b is r)
  image_so_far_is_dealt tool n b {i} is (Ok j) lawful image made others =
      ap (λ (x : List Message). messages_of_image (dealt_image lane lanes j) ++ x) others
      ∙ sym (image_is_dealt lane lanes (due_so_far tool n b is) (result_is_image tool i j lawful image made))
  image_so_far_is_dealt tool n b is (Err fault) lawful image made others = refl

-- what is due from a lane is what it gets of what is due
pub due_so_far_is_dealt : (tool : Tool) (lane lanes n : ℕ) (b : Bool) (is : List Image) → IsLawfulTool tool → is_row_wise tool ≡ true → lane < lanes
    → AreImages is
    → due_so_far tool n b (dealt_images lane lanes is) ≡ dealt lane lanes (due_so_far tool n b is)
due_so_far_is_dealt tool lane lanes n b [] lawful row_wise below are = nothing_due lane lanes tool n b
due_so_far_is_dealt tool lane lanes zero false (i ∷ is) lawful row_wise below are = due_none lane lanes tool i is
due_so_far_is_dealt tool lane lanes zero true (i ∷ is) lawful row_wise below are =
    due_head tool (dealt_image lane lanes i) (dealt_images lane lanes is)
    ∙ ap head_so_far (head_is_dealt tool lane lanes lawful row_wise below are.0.head)
    ∙ head_so_far_is_dealt lane lanes (result_head tool i.head)
    ∙ ap (dealt lane lanes) (sym (due_head tool i is))
due_so_far_is_dealt tool lane lanes (suc n) b (i ∷ is) lawful row_wise below are =
    let commutes : IsRowWise tool = (row_wise_tools_commute tool lawful).0 row_wise in
    due_image tool n b (dealt_image lane lanes i) (dealt_images lane lanes is)
    ∙ ap (image_so_far tool n b (dealt_images lane lanes is)) (commutes i lane lanes are.0 below)
    ∙ image_so_far_is_dealt lane lanes tool n b is (applied tool i) lawful are.0 refl (due_so_far_is_dealt tool lane lanes n b is lawful row_wise below are.1)
    ∙ ap (dealt lane lanes) (sym (due_image tool n b i is))
