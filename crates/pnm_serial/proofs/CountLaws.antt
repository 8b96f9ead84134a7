-- The messages of a stream count its images and its rows.
use Rattle.pnm_serial.proofs.Words.{◌≡◌, ℕ, ◌+◌, List, [], ◌∷◌, ◌++◌, length, map, sum_by, refl, ap, ◌∙◌, append_assoc, arith, sum_by-cons, Message, Row}
use Rattle.pnm_serial.proofs.Words.{ImageEnd, Image, rows_of, messages_of_stream, length-rows_of, saturate_u64, images_in, rows_in}

-- the messages of an image after its head, and more messages
after_head : (rows : List (List ℕ)) (rest : List Message) → (map Row rows ++ ImageEnd ∷ []) ++ rest ≡ map Row rows ++ ImageEnd ∷ rest
after_head rows rest = append_assoc (map Row rows) (ImageEnd ∷ []) rest

images_in-rows : (images : ℕ) (rows : List (List ℕ)) (rest : List Message) → images_in images (map Row rows ++ rest) ≡ images_in images rest
images_in-rows images [] rest = refl
images_in-rows images (row ∷ rows) rest = images_in-rows images rows rest

-- the messages of a stream count its images
pub images_in-stream : (n : ℕ) (is : List Image) → images_in (saturate_u64 n) (messages_of_stream is) ≡ saturate_u64 (n + length is)
images_in-stream n [] = omega arith
images_in-stream n (i ∷ is) =
    let one : saturate_u64 (saturate_u64 n + 1) ≡ saturate_u64 (n + 1) = omega arith in
    ap (images_in (saturate_u64 n)) (after_head (rows_of i) (messages_of_stream is))
    ∙ images_in-rows (saturate_u64 n) (rows_of i) (ImageEnd ∷ messages_of_stream is)
    ∙ ap (λ k. images_in k (messages_of_stream is)) one
    ∙ images_in-stream (n + 1) is
    ∙ ap saturate_u64 (omega arith)

rows_in-rows : (n : ℕ) (rows : List (List ℕ)) (rest : List Message) → rows_in (saturate_u64 n) (map Row rows ++ rest) ≡ rows_in (saturate_u64 (n + length rows))
    rest
rows_in-rows n [] rest = ap (λ k. rows_in k rest) (omega arith)
rows_in-rows n (row ∷ rows) rest =
    let one : saturate_u64 (saturate_u64 n + 1) ≡ saturate_u64 (n + 1) = omega arith in
    ap (λ k. rows_in k (map Row rows ++ rest)) one ∙ rows_in-rows (n + 1) rows rest ∙ ap (λ k. rows_in (saturate_u64 k) rest) (omega arith)

-- the messages of a stream count its rows
pub rows_in-stream : (n : ℕ) (is : List Image) → rows_in (saturate_u64 n) (messages_of_stream is) ≡ saturate_u64 (n + sum_by (λ i. i.head.shape.height) is)
rows_in-stream n [] = omega arith
rows_in-stream n (i ∷ is) =
    ap (rows_in (saturate_u64 n)) (after_head (rows_of i) (messages_of_stream is))
    ∙ rows_in-rows n (rows_of i) (ImageEnd ∷ messages_of_stream is)
    ∙ ap (λ k. rows_in (saturate_u64 (n + k)) (messages_of_stream is)) (length-rows_of i)
    ∙ rows_in-stream (n + i.head.shape.height) is
    ∙ ap saturate_u64 (omega (arith, sum_by-cons (λ j. j.head.shape.height) i is))
