-- A full answer to a stream is the tool's stream.
use Rattle.pnm_tools.proofs.Words.{◌≡◌, List, [], ◌∷◌, ◌++◌, Result, Ok, Err, refl, sym, ap, ◌∙◌, append-nil, Message, StreamEnd, Image, AreImages, rows_of}
use Rattle.pnm_tools.proofs.Words.{messages_of_image, messages_of_stream, Completes, same_first, same_rest, ToolFault, Tool, applied, More, Whole, ending_of}
use Rattle.pnm_tools.proofs.Words.{EndsBy, AnswersInFull, AreResults}
use Rattle.pnm_tools.specs.Tools.{output_due}
use Rattle.pnm_tools.proofs.AnsweringLaws.{due_by, due_is}
use Rattle.pnm_tools.proofs.InFullLaws.{EndNothing, end_ends_nothing, ends_after}
use Rattle.pnm_tools.proofs.SoundLaws.{unbroken_keeps_all}

not_whole : {A : Type 0} → More ≡ Whole → A
not_whole e = absurd cc

none_ends : {A : Type 0} → EndsBy Whole [] → A
none_ends e = absurd cc

-- a prefix that ends the stream goes beyond messages that don't
record Beyond (ms due g rest : List Message) : Type 0 where
  more : List Message
  whole : g ≡ ms ++ more
  left : due ≡ more ++ rest
  ends : EndsBy Whole more

goes_beyond : (ms due g rest : List Message) → EndNothing ms → ms ++ due ≡ g ++ rest → EndsBy Whole g → Beyond ms due g rest
goes_beyond [] due g rest on e ends = record { more = g; whole = refl; left = e; ends = ends }
goes_beyond (m ∷ ms) due [] rest on e ends = none_ends ends
goes_beyond (m ∷ ms) due (x ∷ []) rest on e ends = not_whole (sym on.0 ∙ ap ending_of (same_first m x (ms ++ due) rest e) ∙ ends)
goes_beyond (m ∷ ms) due (x ∷ y ∷ g) rest on e ends =
    let r = goes_beyond ms due (y ∷ g) rest on.1 (same_rest m x (ms ++ due) (y ∷ g ++ rest) e) ends.1 in
    record {
      more = r.more;
      whole = ap (λ (l : List Message). x ∷ l) r.whole
          ∙ ap (λ (k : Message). k ∷ (ms ++ r.more)) (sym (same_first m x (ms ++ due) (y ∷ g ++ rest) e));
      left = r.left;
      ends = r.ends;
    }

image_goes_on : (i : Image) → EndNothing (messages_of_image i)
image_goes_on i = (refl, end_ends_nothing (rows_of i))

abbrev IsResult : Tool → List Image → List Message → Type 0
IsResult tool is g = (js : List Image) × AreResults tool is js × (g ≡ messages_of_stream js)

no_prefix : {A : Type 0} (g rest : List Message) → [] ≡ g ++ rest → EndsBy Whole g → A
no_prefix [] rest e ends = none_ends ends
no_prefix (m ∷ g) rest e ends = absurd cc

end_alone : (tool : Tool) (g rest : List Message) → StreamEnd ∷ [] ≡ g ++ rest → EndsBy Whole g → IsResult tool [] g
end_alone tool [] rest e ends = none_ends ends
end_alone tool (x ∷ []) rest e ends = ([], tt, ap (λ (m : Message). m ∷ []) (sym (same_first StreamEnd x [] rest e)))
end_alone tool (x ∷ y ∷ g) rest e ends = let none = same_rest StreamEnd x [] (y ∷ g ++ rest) e in absurd cc

image_by : (tool : Tool) (i : Image) (is : List Image) (g rest : List Message) (r : Result Image ToolFault) → applied tool i ≡ r → due_by tool is r ≡ g ++ rest
    → EndsBy Whole g
    → ((h : List Message) → output_due tool is ≡ h ++ rest → EndsBy Whole h → IsResult tool is h) → IsResult tool (i ∷ is) g
image_by tool i is g rest (Err fault) a e ends others = no_prefix g rest e ends
image_by tool i is g rest (Ok j) a e ends others =
    let b = goes_beyond (messages_of_image j) (output_due tool is) g rest (image_goes_on j) e ends in
    let r = others b.more b.left b.ends in
    (j ∷ r.0, (a, r.1), b.whole ∙ ap (λ (l : List Message). messages_of_image j ++ l) r.2)

prefix_is_stream : (tool : Tool) (is : List Image) (g rest : List Message) → output_due tool is ≡ g ++ rest → EndsBy Whole g → IsResult tool is g
unfolding output_due
prefix_is_stream tool [] g rest e ends = end_alone tool g rest e ends
prefix_is_stream tool (i ∷ is) g rest e ends = image_by tool i is g rest (applied tool i) refl (sym (due_is tool i is) ∙ e) ends
    (λ h d w. prefix_is_stream tool is h rest d w)

stream_ends_whole : (is : List Image) → EndsBy Whole (messages_of_stream is)
stream_ends_whole [] = refl
stream_ends_whole (i ∷ is) = ends_after Whole (messages_of_image i) (messages_of_stream is) (image_goes_on i) (stream_ends_whole is)

pub full_answer_is_the_stream : (tool : Tool) (is : List Image) (given : List Message) → AreImages is → AnswersInFull tool (messages_of_stream is) given
    → IsResult tool is given
full_answer_is_the_stream tool is given are full =
    let whole = stream_ends_whole is in
    let ends = full.ends Whole whole in
    let completes : Completes is (messages_of_stream is) =
    record {
      images = are;
      prefix = (
        [],
        ap (λ (l : List Message). l) (sym (append-nil (messages_of_stream is)))
            ∙ ap (λ (l : List Message). l ++ []) (sym (unbroken_keeps_all Whole (messages_of_stream is) tt whole)),
      );
    } in
    let prefix = full.answers.prefix is completes in
    prefix_is_stream tool is given prefix.0 (prefix.1 ∙ ap (λ (l : List Message). l ++ prefix.0) (unbroken_keeps_all Whole given tt ends)) ends
