-- Streams, results and what is due, dealt to a lane.
use Rattle.pnm_lanes.proofs.Words.{◌≡◌, ℕ, ◌+◌, ◌<◌, true, List, [], ◌∷◌, ◌++◌, map, Result, Ok, Err, refl, sym, ap, ◌∙◌, append_assoc, map-append, Message}
use Rattle.pnm_lanes.proofs.Words.{Begin, Row, ImageEnd, Between, Inside, Shape, Image, IsImage, AreImages, rows_of, messages_of_image, messages_of_stream}
use Rattle.pnm_lanes.proofs.Words.{ToolFault, Tool, AreResults, dealt_row, dealt_rows, dealt_head, dealt_image, dealt_from, dealt, dealt_result, IsRowWise}
use Rattle.pnm_lanes.proofs.Words.{IsLawfulTool, is_row_wise, applied, due_by, due_is, rows_of-dealt_image, dealt_image_is_image, result_is_image}
use Rattle.pnm_lanes.proofs.Words.{row_wise_tools_commute, dealt_images}
use Rattle.pnm_tools.specs.Tools.{output_due}

-- ---- images

pub dealt_are_images : (lane lanes : ℕ) (is : List Image) → AreImages is → AreImages (dealt_images lane lanes is)
dealt_are_images lane lanes [] are = tt
dealt_are_images lane lanes (i ∷ is) are = (dealt_image_is_image lane lanes i are.0, dealt_are_images lane lanes is are.1)

-- the rows of an image from row y on and its end, dealt, and then more
rows_are_dealt : (lane lanes : ℕ) (s : Shape) (y : ℕ) (rows : List (List ℕ)) (rest : List Message)
    → dealt_from lane lanes (Inside s y) ((map Row rows ++ ImageEnd ∷ []) ++ rest) ≡ (map Row (dealt_rows lane lanes y rows) ++ ImageEnd ∷ [])
    ++ dealt_from lane lanes Between rest
rows_are_dealt lane lanes s y [] rest = refl
rows_are_dealt lane lanes s y (row ∷ rows) rest =
    let here : List Message = map Row (dealt_row lane lanes y row) in
    let others : List Message = map Row (dealt_rows lane lanes (y + 1) rows) in
    let more : List Message = dealt_from lane lanes Between rest in
    let all : map Row (dealt_rows lane lanes y (row ∷ rows)) ≡ here ++ others =
    map-append Row (dealt_row lane lanes y row) (dealt_rows lane lanes (y + 1) rows) in
    ap (λ (x : List Message). here ++ x) (rows_are_dealt lane lanes s (y + 1) rows rest)
    ∙ sym (append_assoc here (others ++ ImageEnd ∷ []) more)
    ∙ ap (λ (x : List Message). x ++ more) (sym (append_assoc here others (ImageEnd ∷ [])))
    ∙ ap (λ (x : List Message). (x ++ ImageEnd ∷ []) ++ more) (sym all)

-- an image, dealt, and then more
pub image_is_dealt : (lane lanes : ℕ) {i : Image} (rest : List Message) → IsImage i
    → dealt lane lanes (messages_of_image i ++ rest) ≡ messages_of_image (dealt_image lane lanes i) ++ dealt lane lanes rest
image_is_dealt lane lanes {i} rest is =
    ap (λ (x : List Message). Begin (dealt_head lane lanes i.head) ∷ x) (rows_are_dealt lane lanes i.head.shape 0 (rows_of i) rest)
    ∙ ap (λ (rows : List (List ℕ)). Begin (dealt_head lane lanes i.head) ∷ ((map Row rows ++ ImageEnd ∷ []) ++ dealt lane lanes rest))
    (sym (rows_of-dealt_image lane lanes i is))

pub stream_is_dealt : (lane lanes : ℕ) (is : List Image) → AreImages is
    → dealt lane lanes (messages_of_stream is) ≡ messages_of_stream (dealt_images lane lanes is)
stream_is_dealt lane lanes [] are = refl
stream_is_dealt lane lanes (i ∷ is) are =
    image_is_dealt lane lanes (messages_of_stream is) are.0 ∙ ap (λ (x : List Message). messages_of_image (dealt_image lane lanes i) ++ x)
    (stream_is_dealt lane lanes is are.1)

-- ---- what is due

-- by what becomes of the first image
due_by_is_dealt : (tool : Tool) (lane lanes : ℕ) {i : Image} (is : List Image) (r : Result Image ToolFault) → IsLawfulTool tool → IsImage i
    → applied tool i ≡ r → output_due tool (dealt_images lane lanes is) ≡ dealt lane lanes (output_due tool is) → due_by tool (dealt_images lane lanes is)
    (dealt_result lane lanes r) ≡ dealt lane lanes (due_by tool is r)
due_by_is_dealt tool lane lanes is (Err fault) lawful image made others = refl
due_by_is_dealt tool lane lanes {i} is (Ok j) lawful image made others =
    ap (λ (x : List Message). messages_of_image (dealt_image lane lanes j) ++ x) others
    ∙ sym (image_is_dealt lane lanes (output_due tool is) (result_is_image tool i j lawful image made))

nothing_due : (tool : Tool) (lane lanes : ℕ) → output_due tool [] ≡ dealt lane lanes (output_due tool [])
unfolding output_due
nothing_due tool lane lanes = refl

pub due_is_dealt : (tool : Tool) (lane lanes : ℕ) (is : List Image) → IsLawfulTool tool → is_row_wise tool ≡ true → lane < lanes → AreImages is
    → output_due tool (dealt_images lane lanes is) ≡ dealt lane lanes (output_due tool is)
due_is_dealt tool lane lanes [] lawful row_wise below are = nothing_due tool lane lanes
due_is_dealt tool lane lanes (i ∷ is) lawful row_wise below are =
    let commutes : IsRowWise tool = (row_wise_tools_commute tool lawful).0 row_wise in
    due_is tool (dealt_image lane lanes i) (dealt_images lane lanes is)
    ∙ ap (due_by tool (dealt_images lane lanes is)) (commutes i lane lanes are.0 below)
    ∙ due_by_is_dealt tool lane lanes is (applied tool i) lawful are.0 refl (due_is_dealt tool lane lanes is lawful row_wise below are.1)
    ∙ ap (dealt lane lanes) (sym (due_is tool i is))

-- ---- results

result_is_dealt : (lane lanes : ℕ) (r : Result Image ToolFault) {k : Image} → dealt_result lane lanes r ≡ Ok k
    → (j : Image) × (r ≡ Ok j) × (k ≡ dealt_image lane lanes j)
result_is_dealt lane lanes (Ok j) {k} e = (j, refl, let same : dealt_image lane lanes j ≡ k = cc in sym same)
result_is_dealt lane lanes (Err fault) e = absurd cc

pub results_are_dealt : (tool : Tool) (lane lanes : ℕ) (is made : List Image) → IsLawfulTool tool → is_row_wise tool ≡ true → lane < lanes → AreImages is
    → AreResults tool (dealt_images lane lanes is) made → (results : List Image) × AreResults tool is results × (made ≡ dealt_images lane lanes results)
results_are_dealt tool lane lanes [] [] lawful row_wise below are made = ([], tt, refl)
results_are_dealt tool lane lanes [] (k ∷ ks) lawful row_wise below are made = absurd made
results_are_dealt tool lane lanes (i ∷ is) [] lawful row_wise below are made = absurd made
results_are_dealt tool lane lanes (i ∷ is) (k ∷ ks) lawful row_wise below are made =
    let commutes : IsRowWise tool = (row_wise_tools_commute tool lawful).0 row_wise in
    let first = result_is_dealt lane lanes (applied tool i) (sym (commutes i lane lanes are.0 below) ∙ made.0) in
    let others = results_are_dealt tool lane lanes is ks lawful row_wise below are.1 made.1 in
    (first.0 ∷ others.0, (first.1, others.1), ap (λ (x : Image). x ∷ ks) first.2 ∙ ap (λ (l : List Image). dealt_image lane lanes first.0 ∷ l) others.2)
