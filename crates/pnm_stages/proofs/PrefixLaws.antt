-- What was sent is a prefix of what is due, for the longest lawful prefix of what was received.
use Rattle.pnm_stages.proofs.Words.{◌≡◌, ◌⊎◌, inl, inr, List, [], ◌∷◌, ◌++◌, refl, sym, ap, subst, ◌∙◌, append_assoc, Message, Begin, Row, ImageEnd, StreamEnd}
use Rattle.pnm_stages.proofs.Words.{Stop, Between, Image, messages_of_stream, without_stop, EndsBy, IsLawful, IsPrefixOf, Completes, same_first, same_rest}
use Rattle.pnm_stages.proofs.Words.{next_may_come, More, prefix_of_prefix, unbroken_keeps_all, IsLongestLawfulPrefix, IsPrefixOfDue}

-- ---- a last Stop

-- only the last message is cut off
stays : (m n : Message) (l : List Message) → without_stop (m ∷ n ∷ l) ≡ m ∷ without_stop (n ∷ l)
stays (Begin head) n l = refl
stays (Row row) n l = refl
stays ImageEnd n l = refl
stays StreamEnd n l = refl
stays Stop n l = refl

pub stop_is_cut : (l : List Message) → without_stop (l ++ Stop ∷ []) ≡ l
stop_is_cut [] = refl
stop_is_cut (m ∷ []) = stays m Stop []
stop_is_cut (m ∷ n ∷ l) = stays m n (l ++ Stop ∷ []) ∙ ap (λ (x : List Message). m ∷ x) (stop_is_cut (n ∷ l))

one_more : (m : Message) (a b : List Message) → IsPrefixOf a b → IsPrefixOf (m ∷ a) (m ∷ b)
one_more m a b prefix = (prefix.0, ap (λ (x : List Message). m ∷ x) prefix.1)

first_prefix : (m : Message) (l : List Message) → IsPrefixOf (without_stop (m ∷ [])) (without_stop (m ∷ l))
first_prefix (Begin head) l = (without_stop l, refl)
first_prefix (Row row) l = (without_stop l, refl)
first_prefix ImageEnd l = (without_stop l, refl)
first_prefix StreamEnd l = (without_stop l, refl)
first_prefix Stop l = (without_stop (Stop ∷ l), refl)

-- a prefix stays one without its last Stop
pub prefix_without_stop : (a b : List Message) → IsPrefixOf (without_stop a) (without_stop (a ++ b))
prefix_without_stop [] b = (without_stop b, refl)
prefix_without_stop (m ∷ []) b = first_prefix m b
prefix_without_stop (m ∷ n ∷ a) b =
    subst (λ (x : List Message). IsPrefixOf x (without_stop (m ∷ n ∷ (a ++ b)))) (sym (stays m n a))
    (subst (IsPrefixOf (m ∷ without_stop (n ∷ a))) (sym (stays m n (a ++ b)))
    (one_more m (without_stop (n ∷ a)) (without_stop (n ∷ (a ++ b))) (prefix_without_stop (n ∷ a) b)))

-- ---- two prefixes of one list

-- the second goes on after the first, or the first after the second
abbrev GoesOn : List Message → List Message → List Message → List Message → Type 0
GoesOn a b c d = IsPrefixOf a c ⊎ ((m : Message) × (ms : List Message) × (a ≡ c ++ m ∷ ms) × (d ≡ m ∷ (ms ++ b)))

after_first : {x y : Message} {a b c d : List Message} → x ≡ y → GoesOn a b c d → GoesOn (x ∷ a) b (y ∷ c) d
after_first {x} {c} same (inl prefix) = inl (prefix.0, ap (λ (z : Message). z ∷ c) (sym same) ∙ ap (λ (l : List Message). x ∷ l) prefix.1)
after_first {y} {a} same (inr later) = inr (later.0, later.1, ap (λ (z : Message). z ∷ a) same ∙ ap (λ (l : List Message). y ∷ l) later.2, later.3)

two_prefixes : (a : List Message) {b : List Message} (c : List Message) {d : List Message} → a ++ b ≡ c ++ d → GoesOn a b c d
two_prefixes [] c same = inl (c, refl)
two_prefixes (x ∷ a) [] same = inr (x, a, refl, sym same)
two_prefixes (x ∷ a) {b} (y ∷ c) {d} same = after_first (same_first x y (a ++ b) (c ++ d) same) (two_prefixes a c (same_rest x y (a ++ b) (c ++ d) same))

-- ---- what is due

-- Stop was sent after it
pub due_with_stop : (due : List Image → List Message) (l g : List Message) → EndsBy More g → IsPrefixOfDue due l g → IsPrefixOfDue due l (g ++ Stop ∷ [])
due_with_stop due l g more of_due = record {
  accepted = of_due.accepted;
  rest = of_due.rest;
  parts = of_due.parts;
  lawful = of_due.lawful;
  prefix = λ is completes. subst (λ (x : List Message). IsPrefixOf x (due is)) (unbroken_keeps_all More g tt more ∙ sym (stop_is_cut g))
      (of_due.prefix is completes);
}

-- more was received
pub due_goes_on : (due : List Image → List Message) (l g more : List Message) → IsPrefixOfDue due l g → IsPrefixOfDue due (l ++ more) g
due_goes_on due l g more of_due = record {
  accepted = of_due.accepted;
  rest = of_due.rest ++ more;
  parts = ap (λ (x : List Message). x ++ more) of_due.parts ∙ append_assoc of_due.accepted of_due.rest more;
  lawful = of_due.lawful;
  prefix = of_due.prefix;
}

-- the longest lawful prefix is completed by no other images than a shorter one
accepted_prefix : {accepted rest prefix l : List Message} → IsLawful accepted → (longest : IsLongestLawfulPrefix prefix l)
    → GoesOn accepted rest prefix longest.rest → IsPrefixOf accepted prefix
accepted_prefix lawful longest (inl is) = is
accepted_prefix {rest} {prefix} lawful longest (inr more) =
    absurd (longest.longest more.0 (more.1 ++ rest) more.3 (next_may_come Between prefix more.0 more.1 (subst IsLawful more.2 lawful)))

-- a lawful prefix is a prefix of the longest
pub lawful_prefix_of_longest : (accepted rest prefix l : List Message) → l ≡ accepted ++ rest → IsLawful accepted → IsLongestLawfulPrefix prefix l
    → IsPrefixOf accepted prefix
lawful_prefix_of_longest accepted rest prefix l parts lawful longest = accepted_prefix lawful longest (two_prefixes accepted prefix (sym parts ∙ longest.parts))

-- what is a prefix of what is due for a lawful prefix is one for the longest
pub longest_prefix_is_due : (due : List Image → List Message) (l g prefix : List Message) (is : List Image) → IsPrefixOfDue due l g
    → IsLongestLawfulPrefix prefix l → Completes is prefix → IsPrefixOf (without_stop g) (due is)
longest_prefix_is_due due l g prefix is of_due longest completes =
    let is_prefix = lawful_prefix_of_longest of_due.accepted of_due.rest prefix l of_due.parts of_due.lawful longest in
    let cut = subst (λ (x : List Message). IsPrefixOf (without_stop of_due.accepted) (without_stop x)) (sym is_prefix.1)
    (prefix_without_stop of_due.accepted is_prefix.0) in
    of_due.prefix is
    (record {
      images = completes.images;
      prefix = prefix_of_prefix (without_stop of_due.accepted) (without_stop prefix) (messages_of_stream is) cut
          completes.prefix;
    })
