-- Where nothing waits, what was given is a full answer.
use Rattle.pnm_tools.proofs.Words.{◌≡◌, inl, inr, ℕ, suc, List, [], ◌∷◌, ◌++◌, refl, sym, ap, subst, ◌∙◌, append_assoc, append-nil, Message, Begin, Row}
use Rattle.pnm_tools.proofs.Words.{ImageEnd, StreamEnd, Stop, Between, Image, without_stop, EndsBy, place_of, IsPrefixOf, Completes, Tool, images_ended}
use Rattle.pnm_tools.proofs.Words.{begun_of, begun_in, due_so_far, AnswersInFull, answers_from, rows_come, IsAnswering}
use Rattle.pnm_tools.proofs.AnsweringLaws.{AnswersImages, answers_from-append}
use Rattle.pnm_tools.proofs.AtLaws.{StopsLast, keeps_all, cuts_stop, lawful_stops, answering_answers}
use Rattle.pnm_tools.proofs.InFullLaws.{answers_end_so}
use Rattle.pnm_tools.proofs.DueSoFarLaws.{due_so_far_is_answered}

-- a last Stop ends no image
ended_before_stop : (l : List Message) → images_ended (without_stop l) ≡ images_ended l
ended_before_stop [] = refl
ended_before_stop (Begin head ∷ l) = ended_before_stop l
ended_before_stop (Row row ∷ l) = ended_before_stop l
ended_before_stop (ImageEnd ∷ l) = ap suc (ended_before_stop l)
ended_before_stop (StreamEnd ∷ l) = ended_before_stop l
ended_before_stop (Stop ∷ []) = refl
ended_before_stop (Stop ∷ m ∷ l) = ended_before_stop (m ∷ l)

-- the answers before a last Stop are a prefix of all answers
before_stop : (tool : Tool) (l : List Message) → StopsLast l → IsPrefixOf (answers_from tool Between [] (without_stop l)) (answers_from tool Between [] l)
before_stop tool l (inl on) = ([], ap (answers_from tool Between []) (sym (keeps_all l on)) ∙ sym (append-nil (answers_from tool Between [] (without_stop l))))
before_stop tool l (inr h) =
    let prefix : List Message = h.0 in
    let cut : without_stop l ≡ prefix = ap without_stop h.1 ∙ cuts_stop prefix h.2 in (
      answers_from tool (place_of Between prefix) (rows_come [] prefix) (Stop ∷ []),
      ap (answers_from tool Between []) h.1 ∙ answers_from-append tool Between [] prefix (Stop ∷ [])
          ∙ ap (λ (x : List Message). answers_from tool Between [] x ++ answers_from tool (place_of Between prefix) (rows_come [] prefix) (Stop ∷ []))
          (sym cut),
    )

pub prefix_of_prefix : (a b c : List Message) → IsPrefixOf a b → IsPrefixOf b c → IsPrefixOf a c
prefix_of_prefix a b c f g = (f.0 ++ g.0, g.1 ∙ ap (λ (x : List Message). x ++ g.0) f.1 ∙ append_assoc a f.0 g.0)

all_due : (tool : Tool) (l g : List Message) (is : List Image) → AnswersImages tool → IsAnswering tool l g [] → Completes is l
    → IsPrefixOf (due_so_far tool (images_ended l) (begun_in l) is) g
all_due tool l g is answers at c =
    let cut : List Message = without_stop l in
    let part = due_so_far_is_answered tool is cut c.prefix.0 answers c.images c.prefix.1 in
    let same : due_so_far tool (images_ended cut) (begun_of (place_of Between cut)) is ≡ due_so_far tool (images_ended l) (begun_in l) is =
    ap (λ (n : ℕ). due_so_far tool n (begun_in l) is) (ended_before_stop l) in
    subst (λ (x : List Message). IsPrefixOf x g) same
    (subst (IsPrefixOf (due_so_far tool (images_ended cut) (begun_of (place_of Between cut)) is)) (at.given ∙ append-nil g)
    (prefix_of_prefix (due_so_far tool (images_ended cut) (begun_of (place_of Between cut)) is) (answers_from tool Between [] cut)
    (answers_from tool Between [] l) part (before_stop tool l (lawful_stops Between l at.lawful))))

-- a tool that answers each message at once has answered in full where nothing waits
pub answering_in_full : (tool : Tool) (l g : List Message) → AnswersImages tool → IsAnswering tool l g [] → AnswersInFull tool l g
answering_in_full tool l g answers at = record {
  answers = answering_answers tool l g [] answers at;
  taken = at.taken;
  all = λ is c. all_due tool l g is answers at c;
  ends = λ e ends. subst (EndsBy e) (at.given ∙ append-nil g) (answers_end_so tool Between [] l e ends);
}
