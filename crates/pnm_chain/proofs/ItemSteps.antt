-- An option's word taken apart, and the item that words begin with.
use Rattle.pnm_chain.proofs.Words.{◌≡◌, ◌⊎◌, inl, inr, ℕ, ◌+◌, ◌-◌, ◌≤◌, ◌==◌, Bool, true, false, not, ◌&&◌, cond, if◌then◌else◌, Option, Some, None, is_some}
use Rattle.pnm_chain.proofs.Words.{List, [], ◌∷◌, length, take, drop, nat_eq, refl, sym, ap, ◌∙◌, arith, nat_lt, list_any, position_or_len, position}
use Rattle.pnm_chain.proofs.Words.{before_first, after_first, starts_with, option_or, option_map_or, nat_tests, take_all, length-drop, list_any_at}
use Rattle.pnm_chain.proofs.Words.{list_any_none, position-Some, fails_before_first, Bor, ltb-false, and_right, not_from_true, cond_some, ToolName, ToolOption}
use Rattle.pnm_chain.proofs.Words.{option_named, wants_value, begins_with_dash, Item, Argument, Given, Unknown, without_dashes, name_in, value_in, takes_next}
use Rattle.pnm_chain.proofs.Words.{given_as, item_of, value_read}
use Rattle.pnm_chain.specs.StageWords.{items_of}

-- ---- the name and the value in an option's word

-- the place of the first =
abbrev pub equals_place : List ℕ → Option ℕ
equals_place text = position (λ b. b == 61) text

place_none : (within : Bool) (n : ℕ) → None ≡ cond within (Some n) None → within ≡ false
place_none true n e = absurd cc
place_none false n e = refl

-- nothing passes where the first place is the end
none_passes : (test : ℕ → Bool) (text : List ℕ) → length text ≤ position_or_len test text → list_any test text ≡ false
none_passes test text le = list_any_none test text (λ k x lt. fails_before_first test text k x (omega arith))

pub name_before : (text word : List ℕ) (at : ℕ) → text ≡ without_dashes word → Some at ≡ equals_place text → take at text ≡ name_in word
name_before text word at is found =
    let place = cond_some (nat_lt (position_or_len (λ b. b == 61) text) (length text)) (position_or_len (λ b. b == 61) text) at (sym found) in
    ap (λ (n : ℕ). take n text) (sym place.1) ∙ ap (before_first (λ b. b == 61)) is

pub value_after : (text word : List ℕ) (at : ℕ) → text ≡ without_dashes word → Some at ≡ equals_place text
    → Some (take (length text - (at + 1)) (drop (at + 1) text)) ≡ value_in word
value_after text word at is found =
    let place = cond_some (nat_lt (position_or_len (λ b. b == 61) text) (length text)) (position_or_len (λ b. b == 61) text) at (sym found) in
    let there = position-Some (λ b. b == 61) text at 0 (sym found) in
    let all : take (length text - (at + 1)) (drop (at + 1) text) ≡ drop (at + 1) text =
    take_all (length text - (at + 1)) (drop (at + 1) text) (omega (arith, length-drop (at + 1) text)) in
    ap (λ (value : List ℕ). Some value) (all ∙ ap (λ (n : ℕ). drop (n + 1) text) (sym place.1))
    ∙ ap (λ (t : Bool). if t then Some (after_first (λ b. b == 61) text) else None) (sym (list_any_at (λ b. b == 61) text at 0 there.0 there.1))
    ∙ ap (λ (t : List ℕ). if list_any (λ b. b == 61) t then Some (after_first (λ b. b == 61) t) else None) is

pub name_alone : (text word : List ℕ) → text ≡ without_dashes word → None ≡ equals_place text → text ≡ name_in word
name_alone text word is found =
    let far = place_none (nat_lt (position_or_len (λ b. b == 61) text) (length text)) (position_or_len (λ b. b == 61) text) found in
    sym (take_all (position_or_len (λ b. b == 61) text) text (ltb-false (position_or_len (λ b. b == 61) text) (length text) far))
    ∙ ap (before_first (λ b. b == 61)) is

pub no_value : (text word : List ℕ) → text ≡ without_dashes word → None ≡ equals_place text → None ≡ value_in word
no_value text word is found =
    let far = place_none (nat_lt (position_or_len (λ b. b == 61) text) (length text)) (position_or_len (λ b. b == 61) text) found in
    ap (λ (t : Bool). if t then Some (after_first (λ b. b == 61) text) else None)
    (sym (none_passes (λ b. b == 61) text (ltb-false (position_or_len (λ b. b == 61) text) (length text) far)))
    ∙ ap (λ (t : List ℕ). if list_any (λ b. b == 61) t then Some (after_first (λ b. b == 61) t) else None) is

-- ---- the item that words begin with

pub items_of-nil : (tool : ToolName) → items_of tool [] ≡ []
unfolding items_of
items_of-nil tool = refl

items_of-one : (tool : ToolName) (word : List ℕ) → items_of tool (word ∷ []) ≡ item_of tool word None ∷ []
unfolding items_of
items_of-one tool word = refl

abbrev items_by : Bool → Item → List Item → Item → List Item → List Item
items_by takes long after_both short after_one = if takes then long ∷ after_both else short ∷ after_one

items_of-two : (tool : ToolName) (word next : List ℕ) (words : List (List ℕ))
    → items_of tool (word ∷ next ∷ words) ≡ items_by (takes_next tool word) (item_of tool word (Some next)) (items_of tool words) (item_of tool word None)
    (items_of tool (next ∷ words))
unfolding items_of
items_of-two tool word next words = refl

-- a word that takes no other, or that none follows
alone : (tool : ToolName) (word : List ℕ) (words : List (List ℕ)) → (takes_next tool word ≡ false) ⊎ (words ≡ [])
    → items_of tool (word ∷ words) ≡ item_of tool word None ∷ items_of tool words
alone tool word [] h = items_of-one tool word ∙ ap (λ (items : List Item). item_of tool word None ∷ items) (sym (items_of-nil tool))
alone tool word (next ∷ words) (inl e) =
    items_of-two tool word next words
    ∙ ap (λ (takes : Bool). items_by takes (item_of tool word (Some next)) (items_of tool words) (item_of tool word None) (items_of tool (next ∷ words))) e
alone tool word (next ∷ words) (inr e) = absurd cc

-- a word that takes the next
with_next : (tool : ToolName) (word next : List ℕ) (words : List (List ℕ)) → takes_next tool word ≡ true
    → items_of tool (word ∷ next ∷ words) ≡ item_of tool word (Some next) ∷ items_of tool words
with_next tool word next words e =
    items_of-two tool word next words
    ∙ ap (λ (takes : Bool). items_by takes (item_of tool word (Some next)) (items_of tool words) (item_of tool word None) (items_of tool (next ∷ words))) e

-- ---- kinds of words

pub starts_with_dash : (word : List ℕ) → starts_with nat_eq word (45 ∷ []) ≡ begins_with_dash word
starts_with_dash [] = refl
starts_with_dash (b ∷ word) = grind (arith, nat_tests)

-- a word that begins with a dash, the option that it names, if any, and the value in it, if any
pub record IsOptionWord (tool : ToolName) (word : List ℕ) (option : Option ToolOption) (value : Option (List ℕ)) : Type 0 where
  pub begins : begins_with_dash word ≡ true
  pub named : option_named tool (name_in word) ≡ option
  pub valued : value_in word ≡ value

abbrev takes_by : Bool → Option ToolOption → Option (List ℕ) → Bool
takes_by begins option value = begins && (option_map_or wants_value option false && not (is_some value))

takes_next_is : (tool : ToolName) (word : List ℕ) (option : Option ToolOption) (value : Option (List ℕ)) → IsOptionWord tool word option value
    → takes_next tool word ≡ takes_by true option value
takes_next_is tool word option value h =
    ap (λ (begins : Bool). takes_by begins (option_named tool (name_in word)) (value_in word)) h.begins
    ∙ ap (λ (o : Option ToolOption). takes_by true o (value_in word)) h.named
    ∙ ap (λ (v : Option (List ℕ)). takes_by true option v) h.valued

abbrev item_by : Bool → List ℕ → Option ToolOption → Option (List ℕ) → Option (List ℕ) → Item
item_by begins word option value next = if begins then given_as option (option_or value next) else Argument word

item_is : (tool : ToolName) (word : List ℕ) (option : Option ToolOption) (value next : Option (List ℕ)) → IsOptionWord tool word option value
    → item_of tool word next ≡ given_as option (option_or value next)
item_is tool word option value next h =
    ap (λ (begins : Bool). item_by begins word (option_named tool (name_in word)) (value_in word) next) h.begins
    ∙ ap (λ (o : Option ToolOption). item_by true word o (value_in word) next) h.named
    ∙ ap (λ (v : Option (List ℕ)). item_by true word option v next) h.valued

-- an option's word, by what was found in it
pub option_word : (tool : ToolName) (word name : List ℕ) (option : Option ToolOption) (value : Option (List ℕ)) (starts : Bool)
    → starts ≡ starts_with nat_eq word (45 ∷ []) → starts ≡ true → name ≡ name_in word → option ≡ option_named tool name → value ≡ value_in word
    → IsOptionWord tool word option value
option_word tool word name option value starts tested begins is named valued = record {
  begins = sym (starts_with_dash word) ∙ sym tested ∙ begins;
  named = sym (named ∙ ap (option_named tool) is);
  valued = sym valued;
}

-- ---- the items of words, by the first

pub argument_first : (tool : ToolName) (word : List ℕ) (found others : List (List ℕ)) (starts : Bool)
    → found ≡ word ∷ others → starts ≡ starts_with nat_eq word (45 ∷ []) → starts ≡ false → items_of tool found ≡ Argument word ∷ items_of tool others
argument_first tool word found others starts is tested begins =
    let none : begins_with_dash word ≡ false = sym (starts_with_dash word) ∙ sym tested ∙ begins in
    ap (items_of tool) is
    ∙ alone tool word others (inl (ap (λ (b : Bool). takes_by b (option_named tool (name_in word)) (value_in word)) none))
    ∙ ap (λ (b : Bool). item_by b word (option_named tool (name_in word)) (value_in word) None ∷ items_of tool others) none

pub unknown_first : (tool : ToolName) (word : List ℕ) (value : Option (List ℕ)) (found others : List (List ℕ))
    → found ≡ word ∷ others → IsOptionWord tool word None value → items_of tool found ≡ Unknown ∷ items_of tool others
unknown_first tool word value found others is h =
    ap (items_of tool) is
    ∙ alone tool word others (inl (takes_next_is tool word None value h))
    ∙ ap (λ (item : Item). item ∷ items_of tool others) (item_is tool word None value None h)

pub next_value_first : (tool : ToolName) (word next : List ℕ) (option : ToolOption) (value : Option (List ℕ)) (found others after : List (List ℕ))
    → found ≡ word ∷ others → others ≡ next ∷ after → IsOptionWord tool word (Some option) value → is_some value ≡ false → wants_value option ≡ true
    → items_of tool found ≡ Given option (Some next) ∷ items_of tool after
next_value_first tool word next option None found others after is goes_on h none wants =
    ap (items_of tool) (is ∙ ap (λ (l : List (List ℕ)). word ∷ l) goes_on)
    ∙ with_next tool word next after (takes_next_is tool word (Some option) None h ∙ ap (λ (w : Bool). w && true) wants)
    ∙ ap (λ (item : Item). item ∷ items_of tool after) (item_is tool word (Some option) None (Some next) h)
next_value_first tool word next option (Some value) found others after is goes_on h none wants = absurd cc

-- the value is in the word, or the option wants none, or nothing follows
abbrev pub HasNoNext : ToolOption → Option (List ℕ) → List (List ℕ) → Type 0
HasNoNext option value others = (is_some value ≡ true) ⊎ (wants_value option ≡ false) ⊎ (others ≡ [])

takes_none : (tool : ToolName) (word : List ℕ) (option : ToolOption) (value : Option (List ℕ)) (others : List (List ℕ))
    → IsOptionWord tool word (Some option) value → HasNoNext option value others → (takes_next tool word ≡ false) ⊎ (others ≡ [])
takes_none tool word option value others h (inl some) =
    inl (takes_next_is tool word (Some option) value h ∙ and_right (wants_value option) (not (is_some value)) (not_from_true (is_some value) some))
takes_none tool word option value others h (inr (inl wants)) =
    inl (takes_next_is tool word (Some option) value h ∙ ap (λ (w : Bool). w && not (is_some value)) wants)
takes_none tool word option value others h (inr (inr none)) = inr none

pub or_none : {T : Type 0} (one : Option T) → option_or one None ≡ one
or_none None = refl
or_none (Some x) = refl

pub own_value_first : (tool : ToolName) (word : List ℕ) (option : ToolOption) (value : Option (List ℕ)) (found others : List (List ℕ))
    → found ≡ word ∷ others → IsOptionWord tool word (Some option) value → HasNoNext option value others
    → items_of tool found ≡ Given option value ∷ items_of tool others
own_value_first tool word option value found others is h no_next =
    ap (items_of tool) is
    ∙ alone tool word others (takes_none tool word option value others h no_next)
    ∙ ap (λ (item : Item). item ∷ items_of tool others) (item_is tool word (Some option) value None h
    ∙ ap (λ (v : Option (List ℕ)). Given option v) (or_none value))

-- ---- a value as it was read

pub is_some-value_read : (value : Option (Bor (List ℕ))) (none : Bool) → is_some value ≡ not none → is_some (value_read value) ≡ not none
is_some-value_read None none e = e
is_some-value_read (Some value) none e = e
