-- Lists of messages: which images they are of, that they are of no others, and how they can go on.
use Rattle.std.proofs.Common.{◌≡◌, ℕ, ◌+◌, ◌-◌, ◌<◌, ◌≤◌, List, [], ◌∷◌, ◌++◌, length, map, replicate, refl, sym, ap, ◌∙◌, ap₂, subst, arith}
use Rattle.std.specs.List.{AllByRecursion}
use Rattle.std.proofs.lemmas.List.{length-replicate}
use Rattle.std.proofs.lemmas.List.Elements.{All-replicate, recursion_from_All}
use Rattle.pnm_image.specs.declared.shape.Shape.{Shape}
use Rattle.pnm_image.specs.declared.message.Message.{Message}
use Rattle.pnm_image.specs.declared.message.Message.TheVariants.{Begin, Row, ImageEnd, StreamEnd, Stop}
use Rattle.pnm_image.specs.declared.place.Place.{Place}
use Rattle.pnm_image.specs.declared.place.Place.TheVariants.{Between, Inside, After}
use Rattle.pnm_image.specs.Heads.{HeadValue, IsHead, row_length}
use Rattle.pnm_image.specs.Messages.{IsMessage, EndsStream, without_stop}
use Rattle.pnm_image.specs.Places.{IsRowOf, IsLawfulFrom, IsLawful}
use Rattle.pnm_image.specs.Images.{Image, AreImages, rows_of, messages_of_stream}
use Rattle.pnm_image.specs.Completion.{IsPrefixOf, IsStreamOf}
use Rattle.pnm_image.proofs.RowLaws.{AreRowsOf, image_of, IsImage-image_of, rows_of-image_of, image_of-rows_of, length-rows_of, AreRowsOf-rows_of}

-- the rows of an image that are still to come, its end, and what follows the image
abbrev pub rest_of_image : List (List ℕ) → List Message → List Message
rest_of_image rows rest = (map Row rows ++ ImageEnd ∷ []) ++ rest

-- the messages of the image of a head and rows, and of more images
pub stream_of_image : (head : HeadValue) (rows : List (List ℕ)) (is : List Image) → length rows ≡ head.shape.height → AreRowsOf head.shape rows
    → messages_of_stream (image_of head rows ∷ is) ≡ Begin head ∷ rest_of_image rows (messages_of_stream is)
stream_of_image head rows is count are = ap (λ (rs : List (List ℕ)). Begin head ∷ rest_of_image rs (messages_of_stream is))
    (rows_of-image_of head rows count are)

-- ---- a lawful list that ends the stream is the messages of images

-- what a list of messages holds that ends the stream, from a place on
abbrev IsRestOfStream : Place → List Message → Type 0
IsRestOfStream Between l = (is : List Image) × AreImages is × (l ≡ messages_of_stream is)
IsRestOfStream (Inside s y) l = (rows : List (List ℕ)) × (is : List Image) × (length rows + y ≡ s.height) × AreRowsOf s rows × AreImages is
    × (l ≡ rest_of_image rows (messages_of_stream is))
IsRestOfStream After l = ⊥

-- no message comes after the end
nothing_after : (ms : List Message) → IsLawfulFrom After ms → ms ≡ []
nothing_after [] lawful = refl
nothing_after (m ∷ ms) lawful = absurd lawful.0

-- an image begins: its rows are those that come, and the images are one more
begin_rest : (head : HeadValue) (ms : List Message) → IsHead head → IsRestOfStream (Inside head.shape 0) ms → IsRestOfStream Between (Begin head ∷ ms)
begin_rest head ms h r =
    let count : length r.0 ≡ head.shape.height = omega (arith, r.2) in (
      image_of head r.0 ∷ r.1,
      (IsImage-image_of head r.0 h count r.3, r.4),
      ap (λ (rest : List Message). Begin head ∷ rest) r.5
          ∙ sym (stream_of_image head r.0 r.1 count r.3),
    )

-- a row comes: the rows are one more
row_rest : (s : Shape) (y : ℕ) (row : List ℕ) (ms : List Message) → IsRowOf s row → IsRestOfStream (Inside s (y + 1)) ms
    → IsRestOfStream (Inside s y) (Row row ∷ ms)
row_rest s y row ms h r = (row ∷ r.0, r.1, omega (arith, r.2), (h, r.3), r.4, ap (λ (rest : List Message). Row row ∷ rest) r.5)

-- the image ends: no rows are left, and images follow
end_rest : (s : Shape) (y : ℕ) (ms : List Message) → y ≡ s.height → IsRestOfStream Between ms → IsRestOfStream (Inside s y) (ImageEnd ∷ ms)
end_rest s y ms h r = ([], r.0, omega (arith, h), tt, r.1, ap (λ (rest : List Message). ImageEnd ∷ rest) r.2)

-- a lawful list that ends the stream is the rest of a stream
rest_of_stream : (place : Place) (l : List Message) → AllByRecursion IsMessage l → IsLawfulFrom place l → EndsStream l → IsRestOfStream place l
rest_of_stream place [] are lawful ends = absurd ends
rest_of_stream Between (Begin head ∷ ms) are lawful ends = begin_rest head ms are.0 (rest_of_stream (Inside head.shape 0) ms are.1 lawful.1 ends)
rest_of_stream Between (Row row ∷ ms) are lawful ends = absurd lawful.0
rest_of_stream Between (ImageEnd ∷ ms) are lawful ends = absurd lawful.0
rest_of_stream Between (StreamEnd ∷ ms) are lawful ends = ([], tt, ap (λ (rest : List Message). StreamEnd ∷ rest) (nothing_after ms lawful.1))
rest_of_stream Between (Stop ∷ ms) are lawful ends = absurd (subst EndsStream (nothing_after ms lawful.1) ends)
rest_of_stream (Inside s y) (Begin head ∷ ms) are lawful ends = absurd lawful.0
rest_of_stream (Inside s y) (Row row ∷ ms) are lawful ends = row_rest s y row ms lawful.0.1 (rest_of_stream (Inside s (y + 1)) ms are.1 lawful.1 ends)
rest_of_stream (Inside s y) (ImageEnd ∷ ms) are lawful ends = end_rest s y ms lawful.0 (rest_of_stream Between ms are.1 lawful.1 ends)
rest_of_stream (Inside s y) (StreamEnd ∷ ms) are lawful ends = absurd lawful.0
rest_of_stream (Inside s y) (Stop ∷ ms) are lawful ends = absurd (subst EndsStream (nothing_after ms lawful.1) ends)
rest_of_stream After (m ∷ ms) are lawful ends = absurd lawful.0

-- ---- a list is the messages of no other images

-- where the rest of a stream has two forms, the rows are the same, and so is what follows the image
same_rest_of_image : (rows others : List (List ℕ)) (rest more : List Message) → rest_of_image rows rest ≡ rest_of_image others more
    → (rows ≡ others) × (rest ≡ more)
same_rest_of_image [] [] rest more e = (refl, cc)
same_rest_of_image [] (other ∷ others) rest more e = absurd cc
same_rest_of_image (row ∷ rows) [] rest more e = absurd cc
same_rest_of_image (row ∷ rows) (other ∷ others) rest more e =
    let first : row ≡ other = cc in
    let left : rest_of_image rows rest ≡ rest_of_image others more = cc in
    let parts = same_rest_of_image rows others rest more left in
    (ap₂ (λ (r : List ℕ) (rs : List (List ℕ)). r ∷ rs) first parts.0, parts.1)

-- lists of images with the same messages are the same
same_images : (is js : List Image) → AreImages is → AreImages js → messages_of_stream is ≡ messages_of_stream js → is ≡ js
same_images [] [] are others e = refl
same_images [] (j ∷ js) are others e = absurd cc
same_images (i ∷ is) [] are others e = absurd cc
same_images (i ∷ is) (j ∷ js) are others e =
    let heads : i.head ≡ j.head = cc in
    let left : rest_of_image (rows_of i) (messages_of_stream is) ≡ rest_of_image (rows_of j) (messages_of_stream js) = cc in
    let parts = same_rest_of_image (rows_of i) (rows_of j) (messages_of_stream is) (messages_of_stream js) left in
    let first : i ≡ j = sym (image_of-rows_of i are.0) ∙ ap₂ image_of heads parts.0 ∙ image_of-rows_of j others.0 in
    ap₂ (λ (k : Image) (ks : List Image). k ∷ ks) first (same_images is js are.1 others.1 parts.1)

-- a lawful list that ends the stream is the messages of one list of images, and of no other
pub is_stream_of : (l : List Message) → AllByRecursion IsMessage l → IsLawful l → EndsStream l → (is : List Image) × IsStreamOf l is
is_stream_of l are lawful ends =
    let r : IsRestOfStream Between l = rest_of_stream Between l are lawful ends in
    (r.0, record { images = r.1; messages = r.2; only = λ js others e. same_images js r.0 others r.1 (sym e ∙ r.2) })

-- ---- the messages of images are a lawful list that ends the stream

-- rows up to the height, and the image's end, may come where so many rows have passed
lawful_rows : (s : Shape) (y : ℕ) (rows : List (List ℕ)) (rest : List Message) → length rows + y ≡ s.height → AreRowsOf s rows → IsLawful rest
    → IsLawfulFrom (Inside s y) (rest_of_image rows rest)
lawful_rows s y [] rest count are lawful = (omega arith, lawful)
lawful_rows s y (row ∷ rows) rest count are lawful = ((omega arith, are.0), lawful_rows s (y + 1) rows rest (omega arith) are.1 lawful)

-- rows and an image's end keep the rule of messages
messages_of_rows : (rows : List (List ℕ)) (rest : List Message) → AllByRecursion IsMessage rest → AllByRecursion IsMessage (rest_of_image rows rest)
messages_of_rows [] rest are = (tt, are)
messages_of_rows (row ∷ rows) rest are = (tt, messages_of_rows rows rest are)

-- the stream ends after rows and an image's end, where the rest ends it
ends_after_rows : (rows : List (List ℕ)) (rest : List Message) → EndsStream rest → EndsStream (rest_of_image rows rest)
ends_after_rows [] rest ends = ends
ends_after_rows (row ∷ rows) rest ends = ends_after_rows rows rest ends

-- the messages of images keep the rule of messages
pub stream_is_messages : (is : List Image) → AreImages is → AllByRecursion IsMessage (messages_of_stream is)
stream_is_messages [] are = (tt, tt)
stream_is_messages (i ∷ is) are = (are.0.head, messages_of_rows (rows_of i) (messages_of_stream is) (stream_is_messages is are.1))

-- the messages of images are lawful
pub stream_is_lawful : (is : List Image) → AreImages is → IsLawful (messages_of_stream is)
stream_is_lawful [] are = (tt, tt)
stream_is_lawful (i ∷ is) are = (
  tt,
  lawful_rows i.head.shape 0 (rows_of i) (messages_of_stream is) (omega (arith, length-rows_of i)) (AreRowsOf-rows_of i are.0)
      (stream_is_lawful is are.1),
)

-- the messages of images end the stream
pub stream_ends : (is : List Image) → EndsStream (messages_of_stream is)
stream_ends [] = tt
stream_ends (i ∷ is) = ends_after_rows (rows_of i) (messages_of_stream is) (stream_ends is)

-- ---- a lawful list can be completed

-- images that a list of messages is the prefix of, from a place on
abbrev HasCompletion : Place → List Message → Type 0
HasCompletion Between l = (is : List Image) × AreImages is × IsPrefixOf (without_stop l) (messages_of_stream is)
HasCompletion (Inside s y) l = (rows : List (List ℕ)) × (is : List Image) × (length rows + y ≡ s.height) × AreRowsOf s rows × AreImages is
    × IsPrefixOf (without_stop l) (rest_of_image rows (messages_of_stream is))
HasCompletion After l = Unit {0}

-- no more rows have passed than the image has
abbrev IsReached : Place → Type 0
IsReached Between = Unit {0}
IsReached (Inside s y) = y ≤ s.height
IsReached After = Unit {0}

-- one message more before both
prefix_more : (m : Message) (prefix whole : List Message) → IsPrefixOf prefix whole → IsPrefixOf (m ∷ prefix) (m ∷ whole)
prefix_more m prefix whole f = (f.0, ap (λ (rest : List Message). m ∷ rest) f.1)

-- a row of zeros
zeros_are_row : (s : Shape) → IsRowOf s (replicate (row_length s) 0)
zeros_are_row s = record { count = length-replicate (row_length s) 0; range = All-replicate (λ sample. sample ≤ s.maxval) (row_length s) 0 (omega arith) }

-- where the messages break off, nothing more is needed between images, and rows of zeros in an image
complete_here : (place : Place) → IsReached place → HasCompletion place []
complete_here Between reached = ([], tt, (StreamEnd ∷ [], refl))
complete_here (Inside s y) reached =
    let zeros : List (List ℕ) = replicate (s.height - y) (replicate (row_length s) 0) in
    let count : length zeros ≡ s.height - y = length-replicate (s.height - y) (replicate (row_length s) 0) in
    let are : AreRowsOf s zeros =
    recursion_from_All (IsRowOf s) zeros (All-replicate (IsRowOf s) (s.height - y) (replicate (row_length s) 0) (zeros_are_row s)) in
    (zeros, [], omega arith, are, tt, (rest_of_image zeros (StreamEnd ∷ []), refl))
complete_here After reached = tt

-- an image begins: the rows that complete it make an image
complete_begin : (head : HeadValue) (ms : List Message) → IsHead head → HasCompletion (Inside head.shape 0) ms → HasCompletion Between (Begin head ∷ ms)
complete_begin head ms h r =
    let count : length r.0 ≡ head.shape.height = omega (arith, r.2) in
    let f = prefix_more (Begin head) (without_stop ms) (rest_of_image r.0 (messages_of_stream r.1)) r.5 in
    (image_of head r.0 ∷ r.1, (IsImage-image_of head r.0 h count r.3, r.4), (f.0, stream_of_image head r.0 r.1 count r.3 ∙ f.1))

-- a row comes: the rows are one more
complete_row : (s : Shape) (y : ℕ) (row : List ℕ) (ms : List Message) → IsRowOf s row → HasCompletion (Inside s (y + 1)) ms
    → HasCompletion (Inside s y) (Row row ∷ ms)
complete_row s y row ms h r =
    (row ∷ r.0, r.1, omega (arith, r.2), (h, r.3), r.4, prefix_more (Row row) (without_stop ms) (rest_of_image r.0 (messages_of_stream r.1)) r.5)

-- the image ends: no rows are left, and images follow
complete_end : (s : Shape) (y : ℕ) (ms : List Message) → y ≡ s.height → HasCompletion Between ms → HasCompletion (Inside s y) (ImageEnd ∷ ms)
complete_end s y ms h r = ([], r.0, omega (arith, h), tt, r.1, prefix_more ImageEnd (without_stop ms) (messages_of_stream r.0) r.2)

-- a lawful list from a place on can be completed
completion_from : (place : Place) (l : List Message) → IsReached place → AllByRecursion IsMessage l → IsLawfulFrom place l → HasCompletion place l
completion_from place [] reached are lawful = complete_here place reached
completion_from Between (Begin head ∷ ms) reached are lawful =
    complete_begin head ms are.0 (completion_from (Inside head.shape 0) ms (omega arith) are.1 lawful.1)
completion_from Between (Row row ∷ ms) reached are lawful = absurd lawful.0
completion_from Between (ImageEnd ∷ ms) reached are lawful = absurd lawful.0
completion_from Between (StreamEnd ∷ ms) reached are lawful = subst (λ (rest : List Message). HasCompletion Between (StreamEnd ∷ rest))
    (sym (nothing_after ms lawful.1)) ([], tt, ([], refl))
completion_from Between (Stop ∷ ms) reached are lawful = subst (λ (rest : List Message). HasCompletion Between (Stop ∷ rest)) (sym (nothing_after ms lawful.1))
    (complete_here Between reached)
completion_from (Inside s y) (Begin head ∷ ms) reached are lawful = absurd lawful.0
completion_from (Inside s y) (Row row ∷ ms) reached are lawful =
    let below : y < s.height = lawful.0.0 in
    complete_row s y row ms lawful.0.1 (completion_from (Inside s (y + 1)) ms (omega arith) are.1 lawful.1)
completion_from (Inside s y) (ImageEnd ∷ ms) reached are lawful = complete_end s y ms lawful.0 (completion_from Between ms tt are.1 lawful.1)
completion_from (Inside s y) (StreamEnd ∷ ms) reached are lawful = absurd lawful.0
completion_from (Inside s y) (Stop ∷ ms) reached are lawful =
    subst (λ (rest : List Message). HasCompletion (Inside s y) (Stop ∷ rest)) (sym (nothing_after ms lawful.1)) (complete_here (Inside s y) reached)
completion_from After (m ∷ ms) reached are lawful = absurd lawful.0

-- every lawful list can be completed
pub completion : (l : List Message) → AllByRecursion IsMessage l → IsLawful l → (is : List Image) × AreImages is
    × IsPrefixOf (without_stop l) (messages_of_stream is)
completion l are lawful = completion_from Between l tt are lawful
