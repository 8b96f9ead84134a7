-- The tools that are called row-wise commute with dealing, and no others do.
use Rattle.pnm_tools.proofs.Words.{◌≡◌, ◌↔◌, ℕ, ◌*◌, ◌≤◌, Bool, true, false, ◌||◌, List, [], ◌∷◌, ◌++◌, map, nat_lt, Result, Ok, Err, refl, sym, ap, subst, ◌∙◌}
use Rattle.pnm_tools.proofs.Words.{arith, append-nil, if◌then◌else◌, list_all, eqb-true, le-ltb, not-true, All-nil, All-cons, Shape, Message, Begin, Row}
use Rattle.pnm_tools.proofs.Words.{ImageEnd, Between, Inside, HeadValue, IsHead, with_height, row_length, is_too_large, Image, IsImage, rows_of}
use Rattle.pnm_tools.proofs.Words.{messages_of_image, MAX_DEPTH, MAX_ROW_LENGTH, MAX_SIDE, same_first, same_rest, concat-cut_rows, image_of, ToolFault}
use Rattle.pnm_tools.proofs.Words.{ChannelOutside, TooLarge, OutOfOrder, FlipWay, Transform, Tool, Invert, Cut, Depth, Channel, Enlarge, Flip, Tile}
use Rattle.pnm_tools.proofs.Words.{answers_from, Picks, picked_row, picked_head_value, dealt_height, dealt_head, dealt_image, dealt_result, dealt_rows}
use Rattle.pnm_tools.proofs.Words.{IsRowWise, column, enlarged_head_value, enlarged_row, transform, transform_of, moves_rows, moved_rows, transformed_head}
use Rattle.pnm_tools.proofs.Words.{transformed_row, image_by, within_limits, SampleRule, IsLawfulTool, is_row_wise, applied, result_sample, row_answer}
use Rattle.pnm_tools.proofs.Words.{end_answer}
use Rattle.pnm_tools.specs.Tools.{result_head}
use Rattle.pnm_tools.proofs.DepthLaws.{depth_is_samplewise}
use Rattle.pnm_tools.proofs.InvertLaws.{invert_is_samplewise}
use Rattle.pnm_tools.proofs.SamplewiseLaws.{IsSamplewise, head_of_rule, no_end_of_rule, row_of_rule}
use Rattle.pnm_tools.proofs.DealingLaws.{dealt_height_within, dealt_image_is_image, rows_of-dealt_image, dealt_rows-map}
use Rattle.pnm_tools.proofs.FormulaLaws.{length-image_by}
use Rattle.pnm_tools.proofs.HeadFaultLaws.{head_is_refused_by_name, no_rows_refused}
use Rattle.pnm_tools.proofs.ImageLaws.{result_by_head, answers_to_rows, each_row_answered, rows_answered}
use Rattle.pnm_tools.proofs.RowLaws.{row_of_channel, row_of_enlarge}
use Rattle.pnm_tools.proofs.ToolLaws.{tool_answers_images}
use Rattle.pnm_tools.proofs.TransformLaws.{row_stays}

-- ---- the rows of a result, by the rows that answer

same_row : (a b : List ℕ) → Row a ≡ Row b → a ≡ b
same_row a b e = cc

rows_are_same : (a b : List (List ℕ)) → map Row a ++ ImageEnd ∷ [] ≡ map Row b ++ ImageEnd ∷ [] → a ≡ b
rows_are_same [] [] e = refl
rows_are_same [] (y ∷ b) e = absurd cc
rows_are_same (x ∷ a) [] e = absurd cc
rows_are_same (x ∷ a) (y ∷ b) e =
    let first : x ≡ y = same_row x y (same_first (Row x) (Row y) (map Row a ++ ImageEnd ∷ []) (map Row b ++ ImageEnd ∷ []) e) in
    let rest : a ≡ b = rows_are_same a b (same_rest (Row x) (Row y) (map Row a ++ ImageEnd ∷ []) (map Row b ++ ImageEnd ∷ []) e) in
    ap (λ (r : List ℕ). r ∷ a) first ∙ ap (λ (l : List (List ℕ)). y ∷ l) rest

-- the rows of the result are those that answer the rows and the end of the image
rows_of_result : (tool : Tool) (i j : Image) → IsLawfulTool tool → IsImage i → applied tool i ≡ Ok j
    → answers_to_rows tool i.head.shape 0 (rows_of i) ++ end_answer tool i.head.shape (rows_of i) ≡ rows_of j
rows_of_result tool i j lawful is e =
    let made = result_by_head tool i j e in
    let answers : List (List ℕ) = answers_to_rows tool i.head.shape 0 (rows_of i) ++ end_answer tool i.head.shape (rows_of i) in
    let rest : List Message = answers_from tool (Inside i.head.shape 0) [] (map Row (rows_of i) ++ ImageEnd ∷ []) in
    let begun : answers_from tool Between [] (messages_of_image i) ≡ Begin j.head ∷ rest =
    ap (λ (r : Result HeadValue ToolFault). elim r [ Ok result ↦ Begin result ∷ [] | Err fault ↦ [] ] ++ rest) made.head in
    let all : Begin j.head ∷ rest ≡ Begin j.head ∷ (map Row (rows_of j) ++ ImageEnd ∷ []) = sym begun ∙ tool_answers_images tool lawful i j is e in
    rows_are_same answers (rows_of j) (sym (rows_answered tool i.head.shape 0 [] (rows_of i))
    ∙ same_rest (Begin j.head) (Begin j.head) rest (map Row (rows_of j) ++ ImageEnd ∷ []) all)

-- ---- tools that answer each row by one

-- what a lane gets of the head of a result, or the same refusal
abbrev dealt_head_result : ℕ → ℕ → Result HeadValue ToolFault → Result HeadValue ToolFault
dealt_head_result lane lanes (Ok head) = Ok (dealt_head lane lanes head)
dealt_head_result lane lanes (Err fault) = Err fault

-- a row is answered by one that depends on no height, and the end by none; and the head of the result has the image's height
record AnswersRowByRow (tool : Tool) : Type 0 where
  row : Shape → List ℕ → List ℕ
  one : (s : Shape) (y : ℕ) (r : List ℕ) → row_answer tool s y r ≡ row s r ∷ []
  none : (s : Shape) (rows : List (List ℕ)) → end_answer tool s rows ≡ []
  any_height : (s : Shape) (height : ℕ) (r : List ℕ) → row (record s { height = height }) r ≡ row s r
  head : (lane lanes : ℕ) (h : HeadValue) → IsHead h → result_head tool (dealt_head lane lanes h) ≡ dealt_head_result lane lanes (result_head tool h)

-- its result has the rows of the image, each changed
rows_changed : (tool : Tool) (by : AnswersRowByRow tool) (i j : Image) → IsLawfulTool tool → IsImage i → applied tool i ≡ Ok j
    → rows_of j ≡ map (by.row i.head.shape) (rows_of i)
rows_changed tool by i j lawful is e =
    let s : Shape = i.head.shape in
    let answers : List (List ℕ) = answers_to_rows tool s 0 (rows_of i) in
    sym (rows_of_result tool i j lawful is e)
    ∙ ap (λ (l : List (List ℕ)). answers ++ l) (by.none s (rows_of i))
    ∙ append-nil answers
    ∙ each_row_answered tool s (by.row s) (λ y r. by.one s y r) 0 (rows_of i)

map_alike : (f g : List ℕ → List ℕ) (rows : List (List ℕ)) → ((r : List ℕ) → f r ≡ g r) → map f rows ≡ map g rows
map_alike f g [] same = refl
map_alike f g (r ∷ rows) same = ap (λ (x : List ℕ). x ∷ map f rows) (same r) ∙ ap (λ (l : List (List ℕ)). g r ∷ l) (map_alike f g rows same)

-- an image that is given by a formula is that of its head and its rows
by_head_and_rows : (head : HeadValue) (sample : ℕ → ℕ → ℕ → ℕ) → image_of head (rows_of (image_by head sample)) ≡ image_by head sample
by_head_and_rows head sample =
    ap (λ (samples : List ℕ). record { head = head; samples = samples })
    (concat-cut_rows head.shape.height (row_length head.shape) (image_by head sample).samples (length-image_by head sample))

-- what the head rule says of both, and what the images are then
commutes_by : (tool : Tool) (by : AnswersRowByRow tool) (i : Image) (lane lanes : ℕ) (r r' : Result HeadValue ToolFault) → IsLawfulTool tool → IsImage i
    → result_head tool i.head ≡ r → result_head tool (dealt_head lane lanes i.head) ≡ r' → r' ≡ dealt_head_result lane lanes r
    → applied tool (dealt_image lane lanes i) ≡ dealt_result lane lanes (applied tool i)
commutes_by tool by i lane lanes (Err fault) r' lawful is e e' same =
    ap (λ (x : Result HeadValue ToolFault). elim x [ Ok head ↦ Ok (image_by head (result_sample tool (dealt_image lane lanes i))) | Err f ↦ Err f ]) (e' ∙ same)
    ∙ ap (λ (x : Result HeadValue ToolFault). dealt_result lane lanes (elim x [ Ok head ↦ Ok (image_by head (result_sample tool i)) | Err f ↦ Err f ])) (sym e)
commutes_by tool by i lane lanes (Ok head) r' lawful is e e' same =
    let part : Image = dealt_image lane lanes i in
    let part_head : HeadValue = dealt_head lane lanes head in
    let whole : Image = image_by head (result_sample tool i) in
    let made : Image = image_by part_head (result_sample tool part) in
    let of_whole : applied tool i ≡ Ok whole = ap (λ (x : Result HeadValue ToolFault). elim x [ Ok h ↦ Ok (image_by h (result_sample tool i)) | Err f ↦ Err f ])
    e in
    let of_part : applied tool part ≡ Ok made =
    ap (λ (x : Result HeadValue ToolFault). elim x [ Ok h ↦ Ok (image_by h (result_sample tool part)) | Err f ↦ Err f ]) (e' ∙ same) in
    let s : Shape = i.head.shape in
    let rows : rows_of made ≡ dealt_rows lane lanes 0 (rows_of whole) =
    rows_changed tool by part made lawful (dealt_image_is_image lane lanes i is) of_part
    ∙ map_alike (by.row part.head.shape) (by.row s) (rows_of part) (λ r. by.any_height s (dealt_height lane lanes s.height) r)
    ∙ ap (map (by.row s)) (rows_of-dealt_image lane lanes i is)
    ∙ sym (dealt_rows-map (by.row s) lane lanes 0 (rows_of i))
    ∙ ap (dealt_rows lane lanes 0) (sym (rows_changed tool by i whole lawful is of_whole)) in
    let same_image : made ≡ dealt_image lane lanes whole =
    sym (by_head_and_rows part_head (result_sample tool part)) ∙ ap (image_of part_head) rows in
    of_part ∙ ap (λ (x : Image). Ok x) same_image ∙ ap (dealt_result lane lanes) (sym of_whole)

commutes : (tool : Tool) → AnswersRowByRow tool → IsLawfulTool tool → IsRowWise tool
commutes tool by lawful i lane lanes is lt =
    commutes_by tool by i lane lanes (result_head tool i.head) (result_head tool (dealt_head lane lanes i.head)) lawful is refl refl
    (by.head lane lanes i.head is.head)

-- ---- the head rules

-- a result of another height within the limits
limits_dealt : (b b' : Bool) (lane lanes : ℕ) (head : HeadValue) → b' ≡ b
    → ◌≡◌ {A = Result HeadValue ToolFault} (if b' then Err TooLarge else Ok (dealt_head lane lanes head))
    (dealt_head_result lane lanes (if b then Err TooLarge else Ok head))
limits_dealt true b' lane lanes head e = ap (λ (x : Bool). if x then Err TooLarge else Ok (dealt_head lane lanes head)) e
limits_dealt false b' lane lanes head e = ap (λ (x : Bool). if x then Err TooLarge else Ok (dealt_head lane lanes head)) e

height_aside : (w h h' d r : Bool) → h ≡ false → h' ≡ false → (w || h' || d || r) ≡ (w || h || d || r)
height_aside w h h' d r e e' = ap (λ (x : Bool). w || x || d || r) (e' ∙ sym e)

within_limits_dealt : (lane lanes : ℕ) (head : HeadValue) → head.shape.height ≤ MAX_SIDE
    → within_limits (dealt_head lane lanes head) ≡ dealt_head_result lane lanes (within_limits head)
within_limits_dealt lane lanes head within =
    let s : Shape = head.shape in
    let low : dealt_height lane lanes s.height ≤ s.height = dealt_height_within lane lanes s.height in
    limits_dealt (is_too_large s) (is_too_large (dealt_head lane lanes head).shape) lane lanes head
    (height_aside (nat_lt MAX_SIDE s.width) (nat_lt MAX_SIDE s.height) (nat_lt MAX_SIDE (dealt_height lane lanes s.height)) (nat_lt MAX_DEPTH s.depth)
    (nat_lt MAX_ROW_LENGTH (row_length s))
    (le-ltb MAX_SIDE s.height within) (le-ltb MAX_SIDE (dealt_height lane lanes s.height) (omega arith)))

either_dealt : (b : Bool) (lane lanes : ℕ) (r r' : Result HeadValue ToolFault) (fault : ToolFault) → r' ≡ dealt_head_result lane lanes r
    → (if b then r' else Err fault) ≡ dealt_head_result lane lanes (if b then r else Err fault)
either_dealt true lane lanes r r' fault same = same
either_dealt false lane lanes r r' fault same = refl

-- ---- tool by tool

samplewise_by_rows : {tool : Tool} {rule : SampleRule} → IsSamplewise tool rule → AnswersRowByRow tool
samplewise_by_rows {rule = rule} by = record {
  row = λ s. map (rule.sample s.maxval);
  one = row_of_rule by;
  none = no_end_of_rule by;
  any_height = λ s height r. refl;
  head = λ lane lanes h is.
      head_of_rule by (dealt_head lane lanes h) ∙ ap (dealt_head_result lane lanes) (sym (head_of_rule by h));
}

channel_by_rows : (planes : Picks) → AnswersRowByRow (Channel planes)
unfolding result_head
channel_by_rows planes = record {
  row = picked_row planes;
  one = λ s y r. row_of_channel planes s y r;
  none = λ s rows. refl;
  any_height = λ s height r. refl;
  head = λ lane lanes h is.
      either_dealt (list_all (λ number. nat_lt number h.shape.depth) planes.numbers) lane lanes (within_limits (picked_head_value planes h))
      (within_limits (picked_head_value planes (dealt_head lane lanes h))) ChannelOutside
      (within_limits_dealt lane lanes (picked_head_value planes h) is.limits.height_high);
}

-- where rows aren't repeated
enlarged_once : (across lane lanes : ℕ) (h : HeadValue) → IsHead h → within_limits (enlarged_head_value across 1 (dealt_head lane lanes h))
    ≡ dealt_head_result lane lanes (within_limits (enlarged_head_value across 1 h))
enlarged_once across lane lanes h is =
    let height : ℕ = h.shape.height in
    let once : height * 1 ≡ height = omega arith in
    let dealt_once : dealt_height lane lanes height * 1 ≡ dealt_height lane lanes (height * 1) = omega (arith, ap (dealt_height lane lanes) once) in
    ap (λ (n : ℕ). within_limits (with_height (enlarged_head_value across 1 h) n)) dealt_once
    ∙ within_limits_dealt lane lanes (enlarged_head_value across 1 h) (omega (arith, once, is.limits.height_high))

enlarge_by_rows : (across : ℕ) → AnswersRowByRow (Enlarge across 1)
unfolding result_head
enlarge_by_rows across = record {
  row = enlarged_row across;
  one = λ s y r. row_of_enlarge across 1 s y r;
  none = λ s rows. refl;
  any_height = λ s height r. refl;
  head = λ lane lanes h is. enlarged_once across lane lanes h is;
}

-- a head is kept where rows stay in their places
head_kept : (columns rows exchanged : Bool) (h : HeadValue) → moves_rows (transform columns rows exchanged) ≡ false
    → transformed_head (transform columns rows exchanged) h ≡ Ok h
head_kept columns rows true h e = absurd cc
head_kept columns true false h e = absurd cc
head_kept columns false false h e = refl

kept_head_dealt : (t : Transform) (lane lanes : ℕ) (h : HeadValue) → moves_rows t ≡ false
    → transformed_head t (dealt_head lane lanes h) ≡ dealt_head_result lane lanes (transformed_head t h)
kept_head_dealt t lane lanes h stays =
    head_kept t.columns_reversed t.rows_reversed t.exchanged (dealt_head lane lanes h) stays
    ∙ ap (dealt_head_result lane lanes) (sym (head_kept t.columns_reversed t.rows_reversed t.exchanged h stays))

flip_by_rows : (way : FlipWay) → moves_rows (transform_of way) ≡ false → AnswersRowByRow (Flip way)
unfolding result_head
flip_by_rows way stays = record {
  row = transformed_row (transform_of way);
  one = λ s y r. row_stays way s y r stays;
  none = λ s rows. ap (λ (b : Bool). if b then moved_rows (transform_of way) s rows else []) stays;
  any_height = λ s height r. refl;
  head = λ lane lanes h is. kept_head_dealt (transform_of way) lane lanes h stays;
}

-- a tool that is called row-wise answers row by row
by_rows : (tool : Tool) → is_row_wise tool ≡ true → AnswersRowByRow tool
by_rows Invert e = samplewise_by_rows invert_is_samplewise
by_rows (Cut box) e = absurd cc
by_rows (Depth maxval) e = samplewise_by_rows (depth_is_samplewise maxval)
by_rows (Channel planes) e = channel_by_rows planes
by_rows (Enlarge across down) e = subst (λ (n : ℕ). AnswersRowByRow (Enlarge across n)) (sym (eqb-true down 1 e)) (enlarge_by_rows across)
by_rows (Flip way) e = flip_by_rows way (not-true (moves_rows (transform_of way)) e)
by_rows (Tile width height) e = absurd cc

-- ---- no others

-- an image of one row, of which the second of two lanes gets none
one_pixel : Image
one_pixel = column 1 (0 ∷ [])

one_pixel_is_image : IsImage one_pixel
unfolding one_pixel
one_pixel_is_image = record {
  head = record {
    limits = record {
      width_low = omega arith;
      width_high = omega arith;
      height_high = omega arith;
      depth_low = omega arith;
      depth_high = omega arith;
      row_high = omega arith;
      maxval_low = omega arith;
      maxval_high = omega arith;
    };
    suits = (refl, refl);
  };
  count = refl;
  range = All-cons (λ sample. sample ≤ 9) 0 [] (omega arith) (All-nil (λ sample. sample ≤ 9));
}

refused_whole : (sample : ℕ → ℕ → ℕ → ℕ) (r : Result HeadValue ToolFault) → dealt_result 1 2 (elim r [ Ok head ↦ Ok (image_by head sample) | Err f ↦ Err f ])
    ≡ Err OutOfOrder → r ≡ Err OutOfOrder
refused_whole sample (Ok head) e = absurd cc
refused_whole sample (Err fault) e = let same : fault ≡ OutOfOrder = cc in ap (λ (f : ToolFault). Err f) same

-- a tool that isn't called so refuses what that lane sees, since it has no rows, and doesn't refuse the image as that
not_row_wise : (tool : Tool) → is_row_wise tool ≡ false → ¬ IsRowWise tool
unfolding one_pixel
not_row_wise tool whole is =
    let part : Image = dealt_image 1 2 one_pixel in
    let no_rows : result_head tool part.head ≡ Err OutOfOrder = no_rows_refused tool part.head whole refl in
    let refused : applied tool part ≡ Err OutOfOrder =
    ap (λ (x : Result HeadValue ToolFault). elim x [ Ok head ↦ Ok (image_by head (result_sample tool part)) | Err f ↦ Err f ]) no_rows in
    let out_of_order : result_head tool one_pixel.head ≡ Err OutOfOrder = refused_whole (result_sample tool one_pixel) (result_head tool one_pixel.head)
    (sym (is one_pixel 1 2 one_pixel_is_image (omega arith)) ∙ refused) in
    let named = head_is_refused_by_name tool one_pixel.head OutOfOrder out_of_order in
    absurd (omega (arith, named.1))

called_row_wise : (tool : Tool) (b : Bool) → is_row_wise tool ≡ b → IsRowWise tool → is_row_wise tool ≡ true
called_row_wise tool true e is = e
called_row_wise tool false e is = absurd (not_row_wise tool e is)

-- the tools that are called row-wise are those that are
pub row_wise_tools_commute : (tool : Tool) → IsLawfulTool tool → is_row_wise tool ≡ true ↔ IsRowWise tool
row_wise_tools_commute tool lawful = (λ called. commutes tool (by_rows tool called) lawful, λ is. called_row_wise tool (is_row_wise tool) refl is)
