-- Lists of messages without Stop, of images that have rows: how they end, their prefixes, and what completes them.
use Rattle.pnm_tools.proofs.Words.{◌≡◌, inl, inr, ℕ, ◌<◌, List, [], ◌∷◌, ◌++◌, map, Result, Ok, Err, refl, sym, ap, subst, ◌∙◌, append_assoc, AllByRecursion}
use Rattle.pnm_tools.proofs.Words.{Message, Begin, Row, ImageEnd, StreamEnd, Stop, Place, HeadValue, without_stop, ending_of, EndsBy, IsLawfulFrom, place_after}
use Rattle.pnm_tools.proofs.Words.{Image, IsImage, AreImages, rows_of, messages_of_image, messages_of_stream, IsPrefixOf, ToolFault, Tool, IsLawfulTool}
use Rattle.pnm_tools.proofs.Words.{applied, Ending, More, Whole, BrokenOff, IsSound}
use Rattle.pnm_tools.specs.Tools.{output_due}
use Rattle.pnm_tools.proofs.AnsweringLaws.{Prefixes, prefixes, due_by, due_is}
use Rattle.pnm_tools.proofs.ResultLaws.{result_is_image, result_has_rows}

-- ---- ends

-- an ending that isn't broken off
abbrev pub IsUnbroken : Ending → Type 0
IsUnbroken More = Unit {0}
IsUnbroken Whole = Unit {0}
IsUnbroken BrokenOff = ⊥

abbrev pub EndsUnbroken : List Message → Type 0
EndsUnbroken l = (e : Ending) × IsUnbroken e × EndsBy e l

more_ends : (m : Message) (l : List Message) → ending_of m ≡ More → EndsUnbroken l → EndsUnbroken (m ∷ l)
more_ends m [] more ends = (More, tt, more)
more_ends m (n ∷ l) more ends = (ends.0, ends.1, (more, ends.2))

-- lawful lists without Stop end so
pub sound_ends : (place : Place) (l : List Message) → IsLawfulFrom place l → AllByRecursion IsSound l → EndsUnbroken l
sound_ends place [] lawful sound = (More, tt, refl)
sound_ends place (Begin head ∷ l) lawful sound = more_ends (Begin head) l refl (sound_ends (place_after place (Begin head)) l lawful.1 sound.1)
sound_ends place (Row row ∷ l) lawful sound = more_ends (Row row) l refl (sound_ends (place_after place (Row row)) l lawful.1 sound.1)
sound_ends place (ImageEnd ∷ l) lawful sound = more_ends ImageEnd l refl (sound_ends (place_after place ImageEnd) l lawful.1 sound.1)
sound_ends place (StreamEnd ∷ []) lawful sound = (Whole, tt, refl)
sound_ends place (StreamEnd ∷ n ∷ l) lawful sound = absurd lawful.1.0
sound_ends place (Stop ∷ l) lawful sound = absurd sound.0

-- no last Stop is cut off from these
pub unbroken_keeps_all : (e : Ending) (g : List Message) → IsUnbroken e → EndsBy e g → without_stop g ≡ g
unbroken_keeps_all e [] unbroken ends = refl
unbroken_keeps_all e (Begin head ∷ []) unbroken ends = refl
unbroken_keeps_all e (Row row ∷ []) unbroken ends = refl
unbroken_keeps_all e (ImageEnd ∷ []) unbroken ends = refl
unbroken_keeps_all e (StreamEnd ∷ []) unbroken ends = refl
unbroken_keeps_all e (Stop ∷ []) unbroken ends = absurd (subst IsUnbroken (sym ends) unbroken)
unbroken_keeps_all e (Begin head ∷ n ∷ g) unbroken ends = ap (λ (l : List Message). Begin head ∷ l) (unbroken_keeps_all e (n ∷ g) unbroken ends.1)
unbroken_keeps_all e (Row row ∷ n ∷ g) unbroken ends = ap (λ (l : List Message). Row row ∷ l) (unbroken_keeps_all e (n ∷ g) unbroken ends.1)
unbroken_keeps_all e (ImageEnd ∷ n ∷ g) unbroken ends = ap (λ (l : List Message). ImageEnd ∷ l) (unbroken_keeps_all e (n ∷ g) unbroken ends.1)
unbroken_keeps_all e (StreamEnd ∷ n ∷ g) unbroken ends = ap (λ (l : List Message). StreamEnd ∷ l) (unbroken_keeps_all e (n ∷ g) unbroken ends.1)
unbroken_keeps_all e (Stop ∷ n ∷ g) unbroken ends = ap (λ (l : List Message). Stop ∷ l) (unbroken_keeps_all e (n ∷ g) unbroken ends.1)

pub sound_keeps_all : (l : List Message) → AllByRecursion IsSound l → without_stop l ≡ l
sound_keeps_all [] sound = refl
sound_keeps_all (Begin head ∷ l) sound = ap (λ (x : List Message). Begin head ∷ x) (sound_keeps_all l sound.1)
sound_keeps_all (Row row ∷ l) sound = ap (λ (x : List Message). Row row ∷ x) (sound_keeps_all l sound.1)
sound_keeps_all (ImageEnd ∷ l) sound = ap (λ (x : List Message). ImageEnd ∷ x) (sound_keeps_all l sound.1)
sound_keeps_all (StreamEnd ∷ l) sound = ap (λ (x : List Message). StreamEnd ∷ x) (sound_keeps_all l sound.1)
sound_keeps_all (Stop ∷ l) sound = absurd sound.0

-- ---- prefixes

all_of_rest : (P : Message → Type 0) (a b : List Message) → AllByRecursion P (a ++ b) → AllByRecursion P b
all_of_rest P [] b all = all
all_of_rest P (m ∷ a) b all = all_of_rest P a b all.1

pub both_all : {A : Type 0} (P : A → Type 0) (a b : List A) → AllByRecursion P a → AllByRecursion P b → AllByRecursion P (a ++ b)
both_all P [] b first second = second
both_all P (m ∷ a) b first second = (first.0, both_all P a b first.1 second)

-- messages before both keep a prefix
pub prefix_after : (ms prefix whole : List Message) → IsPrefixOf prefix whole → IsPrefixOf (ms ++ prefix) (ms ++ whole)
prefix_after ms prefix whole f = (f.0, ap (λ (l : List Message). ms ++ l) f.1 ∙ sym (append_assoc ms prefix f.0))

-- ---- images that have rows

abbrev pub HasRows : Image → Type 0
HasRows i = 0 < i.head.shape.height

rows_are_sound : (rows : List (List ℕ)) → AllByRecursion IsSound (map Row rows ++ ImageEnd ∷ [])
rows_are_sound [] = (tt, tt)
rows_are_sound (row ∷ rows) = (tt, rows_are_sound rows)

pub stream_is_sound : (is : List Image) → AllByRecursion HasRows is → AllByRecursion IsSound (messages_of_stream is)
stream_is_sound [] have = (tt, tt)
stream_is_sound (i ∷ is) have = both_all IsSound (messages_of_image i) (messages_of_stream is) (have.0, rows_are_sound (rows_of i)) (stream_is_sound is have.1)

-- messages are a prefix of those of images that have rows
abbrev pub HasSoundImages : List Message → Type 0
HasSoundImages l = (is : List Image) × AreImages is × AllByRecursion HasRows is × IsPrefixOf l (messages_of_stream is)

-- messages within the first image, or beyond it
sound_beyond : (i : Image) (is : List Image) (l rest : List Message) → IsImage i → HasRows i → AllByRecursion IsSound l
    → ((more : List Message) → messages_of_stream is ≡ more ++ rest → AllByRecursion IsSound more → HasSoundImages more)
    → Prefixes (messages_of_image i) (messages_of_stream is) l rest → HasSoundImages l
sound_beyond i is l rest image rows sound others (inl h) =
    (i ∷ [], (image, tt), (rows, tt), (h.0 ++ StreamEnd ∷ [], ap (λ (x : List Message). x ++ StreamEnd ∷ []) h.1 ∙ append_assoc l h.0 (StreamEnd ∷ [])))
sound_beyond i is l rest image rows sound others (inr h) =
    let more : List Message = h.0 in
    let left = others more h.2 (all_of_rest IsSound (messages_of_image i) more (subst (AllByRecursion IsSound) h.1 sound)) in (
      i ∷ left.0,
      (image, left.1),
      (rows, left.2),
      subst (λ (x : List Message). IsPrefixOf x (messages_of_stream (i ∷ left.0))) (sym h.1)
          (prefix_after (messages_of_image i) more (messages_of_stream left.0) left.3),
    )

-- of images that complete messages whose heads have rows, those that have begun do so too
pub sound_images : (is : List Image) (l rest : List Message) → AreImages is → messages_of_stream is ≡ l ++ rest → AllByRecursion IsSound l → HasSoundImages l
sound_images [] l rest are e sound = ([], tt, tt, (rest, e))
sound_images (i ∷ is) [] rest are e sound = ([], tt, tt, (StreamEnd ∷ [], refl))
sound_images (i ∷ is) (Begin head ∷ l) rest are e sound =
    let same : i.head ≡ head = cc in
    let rows : HasRows i = subst (λ (h : HeadValue). 0 < h.shape.height) (sym same) sound.0 in
    sound_beyond i is (Begin head ∷ l) rest are.0 rows sound (λ more f s. sound_images is more rest are.1 f s)
    (prefixes (messages_of_image i) (messages_of_stream is) (Begin head ∷ l) rest e)
sound_images (i ∷ is) (Row row ∷ l) rest are e sound = absurd cc
sound_images (i ∷ is) (ImageEnd ∷ l) rest are e sound = absurd cc
sound_images (i ∷ is) (StreamEnd ∷ l) rest are e sound = absurd cc
sound_images (i ∷ is) (Stop ∷ l) rest are e sound = absurd cc

-- the output due for images that have rows
due_of_first : (tool : Tool) (i : Image) (is : List Image) (r : Result Image ToolFault) → IsLawfulTool tool → IsImage i → HasRows i → applied tool i ≡ r
    → HasSoundImages (output_due tool is) → HasSoundImages (due_by tool is r)
due_of_first tool i is (Err fault) lawful image rows made others = ([], tt, tt, (StreamEnd ∷ [], refl))
due_of_first tool i is (Ok j) lawful image rows made others = (
  j ∷ others.0,
  (result_is_image tool i j lawful image made, others.1),
  (result_has_rows tool i j lawful image rows made, others.2),
  prefix_after (messages_of_image j) (output_due tool is) (messages_of_stream others.0) others.3,
)

pub due_is_sound : (tool : Tool) (is : List Image) → IsLawfulTool tool → AreImages is → AllByRecursion HasRows is → HasSoundImages (output_due tool is)
unfolding output_due
due_is_sound tool [] lawful are have = ([], tt, tt, ([], refl))
due_is_sound tool (i ∷ is) lawful are have =
    subst HasSoundImages (sym (due_is tool i is)) (due_of_first tool i is (applied tool i) lawful are.0 have.0 refl (due_is_sound tool is lawful are.1 have.1))
