-- A chain while it is read, stage by stage.
use Rattle.pnm_chain.proofs.Words.{◌≡◌, ◌≤◌, ◌<◌, ◌⊎◌, inl, inr, ℕ, suc, ◌+◌, ◌&&◌, Bool, true, false, Option, Some, None, is_some, List, [], ◌∷◌, ◌++◌, length}
use Rattle.pnm_chain.proofs.Words.{take, drop, get_or, refl, sym, ap, subst, ◌∙◌, arith, nat_lt, MatchOption, list_all, onto_first, Bor, take-length, drop-cons}
use Rattle.pnm_chain.proofs.Words.{take_more, length-append, false_from_ne_true, le-ltb, lt-ltb, is_white, words, not_nil, begins_in_word, words_by, words-cons}
use Rattle.pnm_chain.proofs.Words.{Tool, ChainFault, ChainKind, Empty, TooLong, TooMany, Memory, SpellsTool, SpellTools, SpellsChain, stage_texts, stage_fault}
use Rattle.pnm_chain.proofs.Words.{fault_from, whole_fault, chain_fault_of, AreRead, MAX_TEXT_LENGTH, MAX_TOOLS}
use Rattle.pnm_chain.proofs.ChainLaws.{no_words, from_by, fault_from-cons, chain_fault_by, chain_fault_is}

-- ---- stages

pub none_read : (stages : List (List ℕ)) → AreRead stages 0 []
none_read stages = record { count_is = refl; spelled = cc; fault_is = refl }

one_spelled_more : (stages : List (List ℕ)) (tools : List Tool) (stage : List ℕ) (tool : Tool) → SpellTools stages tools → SpellsTool stage tool
    → SpellTools (stages ++ stage ∷ []) (tools ++ tool ∷ [])
one_spelled_more [] [] stage tool h k = (k, cc)
one_spelled_more [] (other ∷ tools) stage tool h k = absurd h
one_spelled_more (other ∷ stages) [] stage tool h k = absurd h
one_spelled_more (other ∷ stages) (one ∷ tools) stage tool h k = (h.0, one_spelled_more stages tools stage tool h.1 k)

-- the fault of what is left, by that of the next stage
next_fault : (stages : List (List ℕ)) (n : ℕ) (stage : List ℕ) → (n < length stages) × (stage ≡ get_or stages n stage)
    → fault_from (n + 1) (drop n stages) ≡ from_by (n + 1) (stage_fault stage) (fault_from (n + 1 + 1) (drop (n + 1) stages))
next_fault stages n stage at =
    let less : suc n ≡ n + 1 = omega arith in
    let more : suc (n + 1) ≡ n + 1 + 1 = omega arith in
    let parts : drop n stages ≡ stage ∷ drop (n + 1) stages =
    drop-cons stages n stage at.0 ∙ ap (λ (s : List ℕ). s ∷ drop (suc n) stages) (sym at.1) ∙ ap (λ (k : ℕ). stage ∷ drop k stages) less in
    ap (λ (l : List (List ℕ)). fault_from (n + 1) l) parts ∙ fault_from-cons (n + 1) stage (drop (n + 1) stages)
    ∙ ap (λ (k : ℕ). from_by (n + 1) (stage_fault stage) (fault_from k (drop (n + 1) stages))) more

pub one_read_more : (stages : List (List ℕ)) (n more : ℕ) (tools all : List Tool) (stage bytes : List ℕ) (tool : Tool) → AreRead stages n tools
    → (n < length stages) × (stage ≡ get_or stages n stage)
    → more ≡ n + 1 → bytes ≡ stage → all ≡ tools ++ tool ∷ [] → (stage_fault bytes ≡ None) × SpellsTool bytes tool → AreRead stages more all
one_read_more stages n more tools all stage bytes tool h at next equal pushed k =
    let parts : take (n + 1) stages ≡ take n stages ++ stage ∷ [] = take_more stages n stage at.0 ∙ ap (λ (s : List ℕ). take n stages ++ s ∷ []) (sym at.1) in
    let of_stage : (stage_fault stage ≡ None) × SpellsTool stage tool = subst (λ (b : List ℕ). (stage_fault b ≡ None) × SpellsTool b tool) equal k in
    let now : AreRead stages (n + 1) (tools ++ tool ∷ []) = record {
      count_is = length-append tools (tool ∷ []) ∙ ap (λ (k : ℕ). k + 1) h.count_is;
      spelled = subst (λ (l : List (List ℕ)). SpellTools l (tools ++ tool ∷ [])) (sym parts)
          (one_spelled_more (take n stages) tools stage tool h.spelled of_stage.1);
      fault_is = h.fault_is ∙ next_fault stages n stage at ∙ ap (λ (f : Option ChainKind). from_by (n + 1) f (fault_from (n + 1 + 1) (drop (n + 1) stages)))
          of_stage.0;
    } in
    subst (λ (k : ℕ). AreRead stages k all) (sym next) (subst (λ (l : List Tool). AreRead stages (n + 1) l) (sym pushed) now)

-- ---- the whole text

numbered : (stages : List (List ℕ)) (n : ℕ) (tools : List Tool) (stage : List ℕ) (kind : ChainKind) → AreRead stages n tools
    → (n < length stages) × (stage ≡ get_or stages n stage)
    → stage_fault stage ≡ Some kind → fault_from 1 stages ≡ Some (record { stage = n + 1; kind = kind })
numbered stages n tools stage kind h at e = h.fault_is ∙ next_fault stages n stage at
    ∙ ap (λ (f : Option ChainKind). from_by (n + 1) f (fault_from (n + 1 + 1) (drop (n + 1) stages))) e

no_first : (b : ℕ) (word : List (List ℕ)) → onto_first b word ≡ [] → ⊥
no_first b [] e = absurd cc
no_first b (w ∷ ws) e = absurd cc

all_white_by : (white begins : Bool) (b : ℕ) (text : List ℕ) → is_white b ≡ white → words_by white begins b (words text) ≡ []
    → (words text ≡ [] → list_all is_white text ≡ true) → (is_white b && list_all is_white text) ≡ true
all_white_by true begins b text is e rest = rw is (rest e)
all_white_by false true b text is e rest = absurd (no_first b (words text) e)
all_white_by false false b text is e rest = absurd cc

-- a text has no word where it is white space alone, and only there
pub is_all_white : (text : List ℕ) → words text ≡ [] → list_all is_white text ≡ true
is_all_white [] e = refl
is_all_white (b ∷ text) e = all_white_by (is_white b) (begins_in_word text) b text refl (sym (words-cons b text) ∙ e) (λ f. is_all_white text f)

pub has_words : (text : List ℕ) → (words text ≡ [] → ⊥) → list_all is_white text ≡ false
has_words text h = false_from_ne_true (list_all is_white text) (λ e. h (no_words text e))

by_tests : (long blank many : Bool) (others : Option ChainFault) → long ≡ false → blank ≡ false → many ≡ false → chain_fault_by long blank many others ≡ others
by_tests long blank many others e f g = rw (e, f, g) refl

-- a text that isn't too long, nor white space alone, nor of too many stages, is judged by its stages
pub by_stages : (text : List ℕ) → length text ≤ MAX_TEXT_LENGTH → list_all is_white text ≡ false → length (stage_texts text) ≤ MAX_TOOLS
    → chain_fault_of text ≡ fault_from 1 (stage_texts text)
by_stages text short black few =
    chain_fault_is text ∙ by_tests (nat_lt MAX_TEXT_LENGTH (length text)) (list_all is_white text) (nat_lt MAX_TOOLS (length (stage_texts text)))
    (fault_from 1 (stage_texts text))
    (le-ltb MAX_TEXT_LENGTH (length text) short) black (le-ltb MAX_TOOLS (length (stage_texts text)) few)

pub stage_at_fault : (text : List ℕ) (n count : ℕ) (tools : List Tool) (stage bytes : List ℕ) (fault : ChainFault) → length text ≤ MAX_TEXT_LENGTH
    → list_all is_white text ≡ false → length (stage_texts text) ≤ MAX_TOOLS
    → AreRead (stage_texts text) n tools → (n < length (stage_texts text)) × (stage ≡ get_or (stage_texts text) n stage) → count ≡ n → bytes ≡ stage
    → (fault ≡ whole_fault Memory) ⊎ ((stage_fault bytes ≡ Some fault.kind) × (fault.stage ≡ count + 1)) → (fault ≡ whole_fault Memory)
    ⊎ (chain_fault_of text ≡ Some fault)
stage_at_fault text n count tools stage bytes fault short black few h at same equal (inl memory) = inl memory
stage_at_fault text n count tools stage bytes fault short black few h at same equal (inr is) =
    let of_stage : stage_fault stage ≡ Some fault.kind = sym (ap (λ (b : List ℕ). stage_fault b) equal) ∙ is.0 in
    let placed : fault.stage ≡ n + 1 = is.1 ∙ ap (λ (k : ℕ). k + 1) same in
    inr (by_stages text short black few ∙ numbered (stage_texts text) n tools stage fault.kind h at of_stage
    ∙ ap (λ (k : ℕ). Some (record { stage = k; kind = fault.kind })) (sym placed))

pub chain_read : (text : List ℕ) (n : ℕ) (tools : List Tool) → length text ≤ MAX_TEXT_LENGTH → length (stage_texts text) ≤ MAX_TOOLS
    → AreRead (stage_texts text) n tools → n ≡ length (stage_texts text) → SpellsChain text tools
chain_read text n tools short few h all =
    let parts : take n (stage_texts text) ≡ stage_texts text = ap (λ (k : ℕ). take k (stage_texts text)) all ∙ take-length (stage_texts text) in
    record { short = short; not_many = few; spelled = subst (λ (l : List (List ℕ)). SpellTools l tools) parts h.spelled }

-- ---- faults of the whole text

pub too_long : (text : List ℕ) → MAX_TEXT_LENGTH < length text → chain_fault_of text ≡ Some (whole_fault TooLong)
too_long text long =
    chain_fault_is text
    ∙ ap (λ (b : Bool). chain_fault_by b (list_all is_white text) (nat_lt MAX_TOOLS (length (stage_texts text))) (fault_from 1 (stage_texts text)))
    (lt-ltb MAX_TEXT_LENGTH (length text) long)

pub no_words_at_all : (text : List ℕ) → length text ≤ MAX_TEXT_LENGTH → list_all is_white text ≡ true → chain_fault_of text ≡ Some (whole_fault Empty)
no_words_at_all text short blank =
    chain_fault_is text
    ∙ ap (λ (b : Bool). chain_fault_by b (list_all is_white text) (nat_lt MAX_TOOLS (length (stage_texts text))) (fault_from 1 (stage_texts text)))
    (le-ltb MAX_TEXT_LENGTH (length text) short)
    ∙ ap (λ (b : Bool). chain_fault_by false b (nat_lt MAX_TOOLS (length (stage_texts text))) (fault_from 1 (stage_texts text))) blank

pub too_many : (text : List ℕ) → length text ≤ MAX_TEXT_LENGTH → list_all is_white text ≡ false → MAX_TOOLS < length (stage_texts text)
    → chain_fault_of text ≡ Some (whole_fault TooMany)
too_many text short black many =
    chain_fault_is text
    ∙ ap (λ (b : Bool). chain_fault_by b (list_all is_white text) (nat_lt MAX_TOOLS (length (stage_texts text))) (fault_from 1 (stage_texts text)))
    (le-ltb MAX_TEXT_LENGTH (length text) short)
    ∙ ap (λ (b : Bool). chain_fault_by false b (nat_lt MAX_TOOLS (length (stage_texts text))) (fault_from 1 (stage_texts text))) black
    ∙ ap (λ (b : Bool). chain_fault_by false false b (fault_from 1 (stage_texts text))) (lt-ltb MAX_TOOLS (length (stage_texts text)) many)

-- ---- what is known of a text whose first word was looked for

pub no_word_found : (text bytes : List ℕ) (found : Option (Bor (List ℕ) × Bor (List ℕ))) → bytes ≡ text
    → MatchOption found (words bytes ≡ []) (λ r. words bytes ≡ r.0.now ∷ words r.1.now) → is_some found ≡ false
    → list_all is_white text ≡ true
no_word_found text bytes None same first none = is_all_white text (sym (ap (λ (b : List ℕ). words b) same) ∙ first)
no_word_found text bytes (Some r) same first none = absurd cc

pub word_found : (text bytes : List ℕ) (found : Option (Bor (List ℕ) × Bor (List ℕ))) → bytes ≡ text
    → MatchOption found (words bytes ≡ []) (λ r. words bytes ≡ r.0.now ∷ words r.1.now) → is_some found ≡ true
    → list_all is_white text ≡ false
word_found text bytes None same first some = absurd cc
word_found text bytes (Some r) same first some = has_words text (λ none. not_nil r.0.now (words r.1.now) (sym first ∙ ap (λ (b : List ℕ). words b) same ∙ none))

pub few_stages : (text bytes : List ℕ) (bars : ℕ) → bytes ≡ text → bars + 1 ≡ length (stage_texts bytes) → bars < MAX_TOOLS
    → length (stage_texts text) ≤ MAX_TOOLS
few_stages text bytes bars same count few = subst (λ (n : ℕ). n ≤ MAX_TOOLS) (count ∙ ap (λ (b : List ℕ). length (stage_texts b)) same) (omega arith)

pub many_stages : (text bytes : List ℕ) (bars : ℕ) → bytes ≡ text → bars + 1 ≡ length (stage_texts bytes) → MAX_TOOLS ≤ bars
    → MAX_TOOLS < length (stage_texts text)
many_stages text bytes bars same count many = subst (λ (n : ℕ). MAX_TOOLS < n) (count ∙ ap (λ (b : List ℕ). length (stage_texts b)) same) (omega arith)
