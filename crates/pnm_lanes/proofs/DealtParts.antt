-- What lanes get of messages that go on, and of the messages of images.
use Rattle.pnm_lanes.proofs.Words.{◌≡◌, ◌≢◌, ◌⊎◌, inl, inr, ℕ, Bool, true, false, List, [], ◌∷◌, ◌++◌, map, refl, sym, ap, ◌∙◌, length, arith, if◌then◌else◌}
use Rattle.pnm_lanes.proofs.Words.{AllByRecursion, Message, Begin, Row, ImageEnd, StreamEnd, Stop, Place, Between, Inside, After, IsPrefixOf, same_first}
use Rattle.pnm_lanes.proofs.Words.{same_rest, Image, AreImages, rows_of, messages_of_stream, IsMessage, without_stop, ending_of, EndsBy, IsLawfulFrom}
use Rattle.pnm_lanes.proofs.Words.{place_after, place_of, More, Whole, dealt_head, dealt_message, dealt_from, dealt_head_is_head, EndNothing, ends_nothing}
use Rattle.pnm_lanes.proofs.Words.{BeginsOrEnds, IsOfStream}
use Rattle.std.proofs.Common.{◌==◌, length-append}
use Rattle.std.specs.Prelude.{◌%◌}
use Rattle.pnm_lanes.proofs.PartLaws.{begins_so}
use Rattle.pnm_lanes.proofs.TakenParts.{message_of_stream}

-- ---- lists of messages

pub all_of_both : (P : Message → Type 0) (a b : List Message) → AllByRecursion P a → AllByRecursion P b → AllByRecursion P (a ++ b)
all_of_both P [] b first second = second
all_of_both P (m ∷ a) b first second = (first.0, all_of_both P a b first.1 second)

pub all_of_rest : (P : Message → Type 0) (a b : List Message) → AllByRecursion P (a ++ b) → AllByRecursion P b
all_of_rest P [] b all = all
all_of_rest P (m ∷ a) b all = all_of_rest P a b all.1

pub all_messages : (l : List Message) → AllByRecursion IsOfStream l → AllByRecursion IsMessage l
all_messages [] are = tt
all_messages (m ∷ l) are = (message_of_stream m are.0, all_messages l are.1)

-- no last Stop is cut off from these
pub stream_keeps_all : (l : List Message) → AllByRecursion IsOfStream l → without_stop l ≡ l
stream_keeps_all [] are = refl
stream_keeps_all (Begin head ∷ l) are = ap (λ (x : List Message). Begin head ∷ x) (stream_keeps_all l are.1)
stream_keeps_all (Row row ∷ l) are = ap (λ (x : List Message). Row row ∷ x) (stream_keeps_all l are.1)
stream_keeps_all (ImageEnd ∷ l) are = ap (λ (x : List Message). ImageEnd ∷ x) (stream_keeps_all l are.1)
stream_keeps_all (StreamEnd ∷ l) are = ap (λ (x : List Message). StreamEnd ∷ x) (stream_keeps_all l are.1)
stream_keeps_all (Stop ∷ l) are = absurd are.0

pub lawful_rest : (place : Place) (a b : List Message) → IsLawfulFrom place (a ++ b) → IsLawfulFrom (place_of place a) b
lawful_rest place [] b lawful = lawful
lawful_rest place (m ∷ a) b lawful = lawful_rest (place_after place m) a b lawful.1

goes_on : (l : List Message) → EndNothing l → EndsBy More l
goes_on [] none = refl
goes_on (m ∷ []) none = none.0
goes_on (m ∷ n ∷ l) none = (none.0, goes_on (n ∷ l) none.1)

both_nothing : (a b : List Message) → EndNothing a → EndNothing b → EndNothing (a ++ b)
both_nothing [] b first second = second
both_nothing (m ∷ a) b first second = (first.0, both_nothing a b first.1 second)

-- ---- what a lane gets

one_row : (P : Message → Type 0) (b : Bool) (row : List ℕ) → P (Row row) → AllByRecursion P (map Row (if b then row ∷ [] else []))
one_row P true row is = (is, tt)
one_row P false row is = tt

dealt_one : (lane lanes : ℕ) (place : Place) (m : Message) → IsOfStream m → AllByRecursion IsOfStream (dealt_message lane lanes place m)
dealt_one lane lanes place (Begin head) is = (dealt_head_is_head lane lanes head is, tt)
dealt_one lane lanes Between (Row row) is = tt
dealt_one lane lanes (Inside s y) (Row row) is = one_row IsOfStream ((y % lanes) == lane) row tt
dealt_one lane lanes After (Row row) is = tt
dealt_one lane lanes Between ImageEnd is = (tt, tt)
dealt_one lane lanes (Inside s y) ImageEnd is = (tt, tt)
dealt_one lane lanes After ImageEnd is = (tt, tt)
dealt_one lane lanes Between StreamEnd is = (tt, tt)
dealt_one lane lanes (Inside s y) StreamEnd is = (tt, tt)
dealt_one lane lanes After StreamEnd is = (tt, tt)
dealt_one lane lanes place Stop is = absurd is

pub dealt_of_stream : (lane lanes : ℕ) (place : Place) (l : List Message) → AllByRecursion IsOfStream l
    → AllByRecursion IsOfStream (dealt_from lane lanes place l)
dealt_of_stream lane lanes place [] are = tt
dealt_of_stream lane lanes place (m ∷ l) are =
    all_of_both IsOfStream (dealt_message lane lanes place m) (dealt_from lane lanes (place_after place m) l) (dealt_one lane lanes place m are.0)
    (dealt_of_stream lane lanes (place_after place m) l are.1)

row_goes_on : (b : Bool) (row : List ℕ) → EndNothing (map Row (if b then row ∷ [] else []))
row_goes_on true row = (refl, tt)
row_goes_on false row = tt

one_goes_on : (lane lanes : ℕ) (place : Place) (m : Message) → ending_of m ≡ More → EndNothing (dealt_message lane lanes place m)
one_goes_on lane lanes place (Begin head) more = (refl, tt)
one_goes_on lane lanes Between (Row row) more = tt
one_goes_on lane lanes (Inside s y) (Row row) more = row_goes_on ((y % lanes) == lane) row
one_goes_on lane lanes After (Row row) more = tt
one_goes_on lane lanes Between ImageEnd more = (refl, tt)
one_goes_on lane lanes (Inside s y) ImageEnd more = (refl, tt)
one_goes_on lane lanes After ImageEnd more = (refl, tt)
one_goes_on lane lanes place StreamEnd more = absurd cc
one_goes_on lane lanes place Stop more = absurd cc

dealt_nothing : (lane lanes : ℕ) (place : Place) (l : List Message) → EndNothing l → EndNothing (dealt_from lane lanes place l)
dealt_nothing lane lanes place [] none = tt
dealt_nothing lane lanes place (m ∷ l) none =
    both_nothing (dealt_message lane lanes place m) (dealt_from lane lanes (place_after place m) l) (one_goes_on lane lanes place m none.0)
    (dealt_nothing lane lanes (place_after place m) l none.1)

-- of messages that go on
pub dealt_goes_on : (lane lanes : ℕ) (place : Place) (l : List Message) → EndsBy More l → EndsBy More (dealt_from lane lanes place l)
dealt_goes_on lane lanes place l more = goes_on (dealt_from lane lanes place l) (dealt_nothing lane lanes place l (ends_nothing l more))

-- each lane gets the end of the stream
pub dealt_end : (lane lanes : ℕ) (place : Place) (m : Message) → ending_of m ≡ Whole → dealt_message lane lanes place m ≡ m ∷ []
dealt_end lane lanes place (Begin head) whole = absurd cc
dealt_end lane lanes place (Row row) whole = absurd cc
dealt_end lane lanes place ImageEnd whole = absurd cc
dealt_end lane lanes Between StreamEnd whole = refl
dealt_end lane lanes (Inside s y) StreamEnd whole = refl
dealt_end lane lanes After StreamEnd whole = refl
dealt_end lane lanes place Stop whole = absurd cc

-- and what begins or ends an image, which isn't Stop
pub record GetsPart (lane lanes : ℕ) (place : Place) (m : Message) : Type 0 where
  pub part : Message
  pub gets : dealt_message lane lanes place m ≡ part ∷ []
  pub is_part : part ≢ Stop

pub gets_part : {lane lanes : ℕ} (place : Place) (m : Message) → BeginsOrEnds m → GetsPart lane lanes place m
gets_part {lane} {lanes} place (Begin head) is = record { part = Begin (dealt_head lane lanes head); gets = refl; is_part = λ e. absurd cc }
gets_part place (Row row) is = absurd is
gets_part Between ImageEnd is = record { part = ImageEnd; gets = refl; is_part = λ e. absurd cc }
gets_part (Inside s y) ImageEnd is = record { part = ImageEnd; gets = refl; is_part = λ e. absurd cc }
gets_part After ImageEnd is = record { part = ImageEnd; gets = refl; is_part = λ e. absurd cc }
gets_part place StreamEnd is = absurd is
gets_part place Stop is = absurd is

-- ---- the messages of images

rows_of_stream : (rows : List (List ℕ)) (rest : List Message) → AllByRecursion IsOfStream rest
    → AllByRecursion IsOfStream ((map Row rows ++ ImageEnd ∷ []) ++ rest)
rows_of_stream [] rest are = (tt, are)
rows_of_stream (row ∷ rows) rest are = (tt, rows_of_stream rows rest are)

pub images_of_stream : (is : List Image) → AreImages is → AllByRecursion IsOfStream (messages_of_stream is)
images_of_stream [] are = (tt, tt)
images_of_stream (i ∷ is) are = (are.0.head, rows_of_stream (rows_of i) (messages_of_stream is) (images_of_stream is are.1))

-- ---- two prefixes of one list

later : {m n : Message} (a c : List Message) → m ≡ n → IsPrefixOf c a ⊎ ((x : Message) × (xs : List Message) × (c ≡ a ++ x ∷ xs)) → IsPrefixOf (n ∷ c)
    (m ∷ a) ⊎ ((x : Message) × (xs : List Message) × (n ∷ c ≡ (m ∷ a) ++ x ∷ xs))
later {n} a c same (inl prefix) = inl (prefix.0, ap (λ (x : Message). x ∷ a) same ∙ ap (λ (l : List Message). n ∷ l) prefix.1)
later {m} a c same (inr more) = inr (more.0, more.1, ap (λ (x : Message). x ∷ c) (sym same) ∙ ap (λ (l : List Message). m ∷ l) more.2)

-- the second goes no further than the first, or goes on after it
pub prefixes_in_order : (a b c d : List Message) → a ++ b ≡ c ++ d → IsPrefixOf c a ⊎ ((x : Message) × (xs : List Message) × (c ≡ a ++ x ∷ xs))
prefixes_in_order a b [] d same = inl (a, refl)
prefixes_in_order [] b (n ∷ c) d same = inr (n, c, refl)
prefixes_in_order (m ∷ a) b (n ∷ c) d same =
    later a c (same_first m n (a ++ b) (c ++ d) same) (prefixes_in_order a b c d (same_rest m n (a ++ b) (c ++ d) same))

-- what is left of a list that ends by a message does so
pub last_stays : (a : List Message) (m x : Message) (xs l : List Message) → l ++ m ∷ [] ≡ a ++ x ∷ xs → (ys : List Message) × (x ∷ xs ≡ ys ++ m ∷ [])
last_stays [] m x xs l same = (l, sym same)
last_stays (n ∷ a) m x xs [] same = absurd (omega (arith, ap length same, length-append a (x ∷ xs)))
last_stays (n ∷ a) m x xs (k ∷ l) same = last_stays a m x xs l (same_rest k n (l ++ m ∷ []) (a ++ x ∷ xs) same)

-- nothing but Stop is a prefix of Stop alone
pub not_before_stop : (a : List Message) (m : Message) → m ≢ Stop → IsPrefixOf (a ++ m ∷ []) (Stop ∷ []) → ⊥
not_before_stop [] m differ prefix = differ (begins_so m Stop [] [] prefix)
not_before_stop (n ∷ a) m differ prefix = absurd (omega (arith, ap length prefix.1, length-append (a ++ m ∷ []) prefix.0, length-append a (m ∷ [])))
