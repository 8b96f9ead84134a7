-- Lists of messages, and more messages.
use Rattle.pnm_serial.proofs.Words.{◌≡◌, ◌≤◌, ℕ, ◌+◌, Bool, true, false, Option, None, Some, List, [], ◌∷◌, ◌++◌, length, refl, ap, ◌∙◌, arith, AllByRecursion}
use Rattle.pnm_serial.proofs.Words.{Form, Message, Between, place_of, lawful_prefix, lawful_suffix, all_of_prefix, HeadValue, end_messages, rest_messages}
use Rattle.pnm_serial.proofs.Words.{part_messages, row_messages, rows_list, bytes_from, bytes_of, HasRows, AreInOrderFrom, bytes_from-append, saturate_u64}
use Rattle.pnm_serial.proofs.Words.{image_count_after, row_count_after, images_in, rows_in, AreInOrder}

pub images_in-append : (images : ℕ) (ms more : List Message) → images_in images (ms ++ more) ≡ images_in (images_in images ms) more
images_in-append images [] more = refl
images_in-append images (m ∷ ms) more = images_in-append (image_count_after images m) ms more

pub rows_in-append : (rows : ℕ) (ms more : List Message) → rows_in rows (ms ++ more) ≡ rows_in (rows_in rows ms) more
rows_in-append rows [] more = refl
rows_in-append rows (m ∷ ms) more = rows_in-append (row_count_after rows m) ms more

-- rows are counted, and no images
pub images_in-rows : (images : ℕ) (rows : List (List ℕ)) → images_in images (row_messages rows) ≡ images
images_in-rows images [] = refl
images_in-rows images (row ∷ rows) = images_in-rows images rows

rows_in-saturated : (n : ℕ) (rows : List (List ℕ)) → rows_in (saturate_u64 n) (row_messages rows) ≡ saturate_u64 (n + length rows)
rows_in-saturated n [] = omega arith
rows_in-saturated n (row ∷ rows) =
    let one : saturate_u64 (saturate_u64 n + 1) ≡ saturate_u64 (n + 1) = omega arith in
    ap (λ (k : ℕ). rows_in k (row_messages rows)) one ∙ rows_in-saturated (n + 1) rows ∙ ap saturate_u64 (omega arith)

pub rows_in-rows : (n : ℕ) (rows : List (List ℕ)) → 1 ≤ length rows → rows_in n (row_messages rows) ≡ saturate_u64 (n + length rows)
rows_in-rows n [] some = absurd (omega (arith, some))
rows_in-rows n (row ∷ rows) some = rows_in-saturated (n + 1) rows ∙ ap saturate_u64 (omega arith)

-- of a part, the end of the image is counted, and its rows
images_in-rest : (n : ℕ) (rows : Option (List (List ℕ))) (ends : Bool) → images_in n (rest_messages rows ends) ≡ images_in n (end_messages ends)
images_in-rest n rows ends = images_in-append n (row_messages (rows_list rows)) (end_messages ends)
    ∙ ap (λ (k : ℕ). images_in k (end_messages ends)) (images_in-rows n (rows_list rows))

pub images_in-part : (n : ℕ) (head : Option HeadValue) (rows : Option (List (List ℕ))) (ends : Bool)
    → images_in n (part_messages head rows ends) ≡ images_in n (end_messages ends)
images_in-part n None rows ends = images_in-rest n rows ends
images_in-part n (Some head) rows ends = images_in-rest n rows ends

rows_in-end : (n : ℕ) (ends : Bool) → rows_in n (end_messages ends) ≡ n
rows_in-end n false = refl
rows_in-end n true = refl

rows_in-rest : (n : ℕ) (rows : Option (List (List ℕ))) (ends : Bool) → rows_in n (rest_messages rows ends) ≡ rows_in n (row_messages (rows_list rows))
rows_in-rest n rows ends = rows_in-append n (row_messages (rows_list rows)) (end_messages ends)
    ∙ rows_in-end (rows_in n (row_messages (rows_list rows))) ends

pub rows_in-part : (n : ℕ) (head : Option HeadValue) (rows : Option (List (List ℕ))) (ends : Bool)
    → rows_in n (part_messages head rows ends) ≡ rows_in n (row_messages (rows_list rows))
rows_in-part n None rows ends = rows_in-rest n rows ends
rows_in-part n (Some head) rows ends = rows_in-rest n rows ends

-- the bytes of messages are a prefix of the bytes of these and more
pub bytes_of-append : (form : Form) (ms ns : List Message) → (more : List ℕ) × (bytes_of form (ms ++ ns) ≡ bytes_of form ms ++ more)
bytes_of-append form ms ns = (bytes_from form (place_of Between ms) ns, bytes_from-append form Between ms ns)

pub prefix_is_writable : (ms ns : List Message) → AreInOrder (ms ++ ns) → AreInOrder ms
prefix_is_writable ms ns writable = (lawful_prefix Between ms ns writable.0, all_of_prefix HasRows ms ns writable.1)

-- the rest of messages that come in order does so where those before it lead
each_after : (ms more : List Message) → AllByRecursion HasRows (ms ++ more) → AllByRecursion HasRows more
each_after [] more all = all
each_after (m ∷ ms) more all = each_after ms more all.1

pub last_are_in_order : (ms more : List Message) → AreInOrder (ms ++ more) → AreInOrderFrom (place_of Between ms) more
last_are_in_order ms more writable = (lawful_suffix Between ms more writable.0, each_after ms more writable.1)
