-- How lists of messages end.
use Rattle.pnm_stages.proofs.Words.{◌≡◌, inl, inr, List, [], ◌∷◌, ◌++◌, refl, sym, ◌∙◌, Message, Begin, Row, ImageEnd, StreamEnd, Stop, Image, rows_of}
use Rattle.pnm_stages.proofs.Words.{messages_of_image, messages_of_stream, EndsStream, ending_of, EndsBy, Ending, More, Whole, BrokenOff, ends_after}
use Rattle.pnm_stages.proofs.Words.{end_ends_nothing, IsEnded}

-- what comes before a message goes on
pub prefix_goes_on : (e : Ending) (a : List Message) (m : Message) (b : List Message) → EndsBy e (a ++ m ∷ b) → EndsBy More a
prefix_goes_on e [] m b ends = refl
prefix_goes_on e (x ∷ []) m b ends = ends.0
prefix_goes_on e (x ∷ y ∷ a) m b ends = (ends.0, prefix_goes_on e (y ∷ a) m b ends.1)

-- a list ends in one way
pub one_ending : (a b : Ending) (l : List Message) → EndsBy a l → EndsBy b l → a ≡ b
one_ending a b [] first second = first ∙ sym second
one_ending a b (m ∷ []) first second = sym first ∙ second
one_ending a b (m ∷ n ∷ l) first second = one_ending a b (n ∷ l) first.1 second.1

-- nothing follows a list that has ended
pub nothing_follows : (l left : List Message) → IsEnded l → IsEnded (l ++ left) → left ≡ []
nothing_follows l [] ended whole = refl
nothing_follows l (m ∷ left) (inl first) (inl whole) = let same = one_ending More Whole l (prefix_goes_on Whole l m left whole) first in absurd cc
nothing_follows l (m ∷ left) (inl first) (inr whole) = let same = one_ending More Whole l (prefix_goes_on BrokenOff l m left whole) first in absurd cc
nothing_follows l (m ∷ left) (inr first) (inl whole) = let same = one_ending More BrokenOff l (prefix_goes_on Whole l m left whole) first in absurd cc
nothing_follows l (m ∷ left) (inr first) (inr whole) = let same = one_ending More BrokenOff l (prefix_goes_on BrokenOff l m left whole) first in absurd cc

pub stream_ends_whole : (is : List Image) → EndsBy Whole (messages_of_stream is)
stream_ends_whole [] = refl
stream_ends_whole (i ∷ is) = ends_after Whole (messages_of_image i) (messages_of_stream is) (refl, end_ends_nothing (rows_of i)) (stream_ends_whole is)

-- a whole list ends the stream
last_is_end : (m : Message) → ending_of m ≡ Whole → EndsStream (m ∷ [])
last_is_end (Begin head) whole = absurd cc
last_is_end (Row row) whole = absurd cc
last_is_end ImageEnd whole = absurd cc
last_is_end StreamEnd whole = tt
last_is_end Stop whole = absurd cc

later_end : (m n : Message) (l : List Message) → EndsStream (n ∷ l) → EndsStream (m ∷ n ∷ l)
later_end (Begin head) n l ends = ends
later_end (Row row) n l ends = ends
later_end ImageEnd n l ends = ends
later_end StreamEnd n l ends = ends
later_end Stop n l ends = ends

pub ends_stream : (l : List Message) → EndsBy Whole l → EndsStream l
ends_stream [] whole = absurd cc
ends_stream (m ∷ []) whole = last_is_end m whole
ends_stream (m ∷ n ∷ l) whole = later_end m n l (ends_stream (n ∷ l) whole.1)
