-- Each text spells one chain and has no fault, or it spells none and has one.
use Rattle.pnm_chain.proofs.Words.{◌≡◌, ℕ, suc, ◌==◌, Bool, true, false, if◌then◌else◌, Option, Some, None, List, [], ◌∷◌, length, refl, sym, ap, subst, ◌∙◌}
use Rattle.pnm_chain.proofs.Words.{arith, nat_lt, list_all, nat_tests, slice_split-cons_no, onto_first, and_parts, false_from_ne_true, ltb-false, le-ltb}
use Rattle.pnm_chain.proofs.Words.{is_white, words, begins_in_word, words_by, words-cons, words-nil, Tool, ChainFault, ChainKind, Empty, TooLong, TooMany}
use Rattle.pnm_chain.proofs.Words.{ToolName, tool_named, items_of, meant_by, SpellsTool, SpellTools, SpellsChain, stage_texts, named_fault, words_fault}
use Rattle.pnm_chain.proofs.Words.{stage_fault, whole_fault, IsOneChainOrOneFault, MAX_TEXT_LENGTH, MAX_TOOLS}
use Rattle.pnm_chain.specs.ChainText.{fault_from}
use Rattle.pnm_chain.specs.ChainText.{chain_fault_of}
use Rattle.pnm_chain.proofs.ItemLaws.{items_mean, meaning_has_no_fault}

-- ---- a stage

named_spells : (stage first : List ℕ) (others : List (List ℕ)) (name : Option ToolName) → words stage ≡ first ∷ others → tool_named first ≡ name
    → named_fault name others ≡ None → (tool : Tool) × SpellsTool stage tool
named_spells stage first others None is named e = absurd cc
named_spells stage first others (Some name) is named e = (
  meant_by name (items_of name others),
  record { name = first; others = others; tool_name = name; words_are = is; named = named; meant = items_mean name (items_of name others) e },
)

words_spell : (stage : List ℕ) (found : List (List ℕ)) → words stage ≡ found → words_fault found ≡ None → (tool : Tool) × SpellsTool stage tool
words_spell stage [] is e = absurd cc
words_spell stage (first ∷ others) is e = named_spells stage first others (tool_named first) is refl e

pub stage_spells : (stage : List ℕ) → stage_fault stage ≡ None → (tool : Tool) × SpellsTool stage tool
stage_spells stage e = words_spell stage (words stage) refl e

pub spelled_has_no_fault : (stage : List ℕ) (tool : Tool) → SpellsTool stage tool → stage_fault stage ≡ None
spelled_has_no_fault stage tool h =
    ap (λ (found : List (List ℕ)). words_fault found) h.words_are
    ∙ ap (λ (name : Option ToolName). named_fault name h.others) h.named
    ∙ meaning_has_no_fault h.tool_name (items_of h.tool_name h.others) tool h.meant

-- what a stage spells, by its words
abbrev spelled_by : Option ToolName → List (List ℕ) → Tool → Type 0
spelled_by None others tool = ⊥
spelled_by (Some name) others tool = tool ≡ meant_by name (items_of name others)

abbrev words_mean : List (List ℕ) → Tool → Type 0
words_mean [] tool = ⊥
words_mean (first ∷ others) tool = spelled_by (tool_named first) others tool

spelled_words_mean : (stage : List ℕ) (tool : Tool) → SpellsTool stage tool → words_mean (words stage) tool
spelled_words_mean stage tool h =
    subst (λ (found : List (List ℕ)). words_mean found tool) (sym h.words_are)
    (subst (λ (name : Option ToolName). spelled_by name h.others tool) (sym h.named) h.meant.meaning_is)

one_named : (name : Option ToolName) (others : List (List ℕ)) (tool other : Tool) → spelled_by name others tool → spelled_by name others other → tool ≡ other
one_named None others tool other h k = absurd h
one_named (Some name) others tool other h k = h ∙ sym k

one_meaning : (found : List (List ℕ)) (tool other : Tool) → words_mean found tool → words_mean found other → tool ≡ other
one_meaning [] tool other h k = absurd h
one_meaning (first ∷ others) tool other h k = one_named (tool_named first) others tool other h k

one_tool : (stage : List ℕ) (tool other : Tool) → SpellsTool stage tool → SpellsTool stage other → tool ≡ other
one_tool stage tool other h k = one_meaning (words stage) tool other (spelled_words_mean stage tool h) (spelled_words_mean stage other k)

-- ---- stages

abbrev pub from_by : ℕ → Option ChainKind → Option ChainFault → Option ChainFault
from_by number fault others = elim fault [
  | Some kind ↦ Some (record { stage = number; kind = kind })
  | None ↦ others
]

from_free : (number : ℕ) (fault : Option ChainKind) (others : Option ChainFault) → from_by number fault others ≡ None → (fault ≡ None) × (others ≡ None)
from_free number (Some kind) others e = absurd cc
from_free number None others e = (refl, e)

pub fault_from-cons : (number : ℕ) (stage : List ℕ) (stages : List (List ℕ)) → fault_from number (stage ∷ stages) ≡ from_by number (stage_fault stage)
    (fault_from (suc number) stages)
unfolding fault_from
fault_from-cons number stage stages = refl

pub fault_from-nil : (number : ℕ) → fault_from number [] ≡ None
unfolding fault_from
fault_from-nil number = refl

stages_spell : (number : ℕ) (stages : List (List ℕ)) → fault_from number stages ≡ None → (tools : List Tool) × SpellTools stages tools
stages_spell number [] e = ([], cc)
stages_spell number (stage ∷ stages) e =
    let free = from_free number (stage_fault stage) (fault_from (suc number) stages) (sym (fault_from-cons number stage stages) ∙ e) in
    let first = stage_spells stage free.0 in
    let others = stages_spell (suc number) stages free.1 in
    (first.0 ∷ others.0, (first.1, others.1))

spelled_have_no_fault : (number : ℕ) (stages : List (List ℕ)) (tools : List Tool) → SpellTools stages tools → fault_from number stages ≡ None
spelled_have_no_fault number [] tools h = fault_from-nil number
spelled_have_no_fault number (stage ∷ stages) [] h = absurd h
spelled_have_no_fault number (stage ∷ stages) (tool ∷ tools) h =
    fault_from-cons number stage stages
    ∙ ap (λ (fault : Option ChainKind). from_by number fault (fault_from (suc number) stages)) (spelled_has_no_fault stage tool h.0)
    ∙ spelled_have_no_fault (suc number) stages tools h.1

same_tools : (stages : List (List ℕ)) (tools others : List Tool) → SpellTools stages tools → SpellTools stages others → tools ≡ others
same_tools [] [] [] h k = refl
same_tools [] [] (other ∷ others) h k = absurd k
same_tools [] (tool ∷ tools) others h k = absurd h
same_tools (stage ∷ stages) [] others h k = absurd h
same_tools (stage ∷ stages) (tool ∷ tools) [] h k = absurd k
same_tools (stage ∷ stages) (tool ∷ tools) (other ∷ others) h k =
    ap (λ (t : Tool). t ∷ tools) (one_tool stage tool other h.0 k.0) ∙ ap (λ (ts : List Tool). other ∷ ts) (same_tools stages tools others h.1 k.1)

-- ---- white space alone

white_is_no_bar : (b : ℕ) → is_white b ≡ true → (b == 124) ≡ false
white_is_no_bar b e = grind (arith, nat_tests)

pub no_words : (text : List ℕ) → list_all is_white text ≡ true → words text ≡ []
no_words [] e = words-nil
no_words (b ∷ text) e =
    let both = and_parts (is_white b) (list_all is_white text) e in
    words-cons b text ∙ ap (λ (white : Bool). words_by white (begins_in_word text) b (words text)) both.0 ∙ no_words text both.1

one_stage : (text : List ℕ) → list_all is_white text ≡ true → stage_texts text ≡ text ∷ []
one_stage [] e = refl
one_stage (b ∷ text) e =
    let both = and_parts (is_white b) (list_all is_white text) e in
    slice_split-cons_no (λ c. c == 124) b text (white_is_no_bar b both.0) ∙ ap (λ (l : List (List ℕ)). onto_first b l) (one_stage text both.1)

no_word_spells_nothing : (text : List ℕ) (tool : Tool) → words text ≡ [] → SpellsTool text tool → ⊥
no_word_spells_nothing text tool e h = subst (λ (found : List (List ℕ)). words_mean found tool) e (spelled_words_mean text tool h)

one_blank : (text : List ℕ) (tools : List Tool) → list_all is_white text ≡ true → SpellTools (text ∷ []) tools → ⊥
one_blank text [] e h = h
one_blank text (tool ∷ tools) e h = no_word_spells_nothing text tool (no_words text e) h.0

-- a text of white space alone spells nothing
blank_spells_nothing : (text : List ℕ) (tools : List Tool) → list_all is_white text ≡ true → SpellTools (stage_texts text) tools → ⊥
blank_spells_nothing text tools e h = one_blank text tools e (subst (λ (l : List (List ℕ)). SpellTools l tools) (one_stage text e) h)

-- ---- the whole text

abbrev pub chain_fault_by : Bool → Bool → Bool → Option ChainFault → Option ChainFault
chain_fault_by long blank many others =
    if long then Some (whole_fault TooLong)
    else if blank then Some (whole_fault Empty)
    else if many then Some (whole_fault TooMany)
    else others

pub chain_fault_is : (text : List ℕ) → chain_fault_of text ≡ chain_fault_by (nat_lt MAX_TEXT_LENGTH (length text)) (list_all is_white text)
    (nat_lt MAX_TOOLS (length (stage_texts text))) (fault_from 1 (stage_texts text))
unfolding chain_fault_of
chain_fault_is text = refl

record IsFree (long blank many : Bool) (others : Option ChainFault) : Type 0 where
  pub short : long ≡ false
  pub not_blank : blank ≡ false
  pub not_many : many ≡ false
  pub no_fault : others ≡ None

chain_free : (long blank many : Bool) (others : Option ChainFault) → chain_fault_by long blank many others ≡ None → IsFree long blank many others
chain_free true blank many others e = absurd cc
chain_free false true many others e = absurd cc
chain_free false false true others e = absurd cc
chain_free false false false others e = record { short = refl; not_blank = refl; not_many = refl; no_fault = e }

chain_fits : (long blank many : Bool) (others : Option ChainFault) → IsFree long blank many others → chain_fault_by long blank many others ≡ None
chain_fits long blank many others h = rw (h.short, h.not_blank, h.not_many) h.no_fault

pub chain_spelled : (text : List ℕ) → chain_fault_of text ≡ None → (tools : List Tool) × SpellsChain text tools
chain_spelled text e =
    let free = chain_free (nat_lt MAX_TEXT_LENGTH (length text)) (list_all is_white text) (nat_lt MAX_TOOLS (length (stage_texts text)))
    (fault_from 1 (stage_texts text)) (sym (chain_fault_is text) ∙ e) in
    let found = stages_spell 1 (stage_texts text) free.no_fault in (
      found.0,
      record {
        short = ltb-false MAX_TEXT_LENGTH (length text) free.short;
        not_many = ltb-false MAX_TOOLS (length (stage_texts text)) free.not_many;
        spelled = found.1;
      },
    )

pub spelled_chain_has_no_fault : (text : List ℕ) (tools : List Tool) → SpellsChain text tools → chain_fault_of text ≡ None
spelled_chain_has_no_fault text tools h =
    chain_fault_is text ∙ chain_fits (nat_lt MAX_TEXT_LENGTH (length text)) (list_all is_white text) (nat_lt MAX_TOOLS (length (stage_texts text)))
    (fault_from 1 (stage_texts text)) (record {
      short = le-ltb MAX_TEXT_LENGTH (length text) h.short;
      not_blank = false_from_ne_true (list_all is_white text) (λ blank. blank_spells_nothing text tools blank h.spelled);
      not_many = le-ltb MAX_TOOLS (length (stage_texts text)) h.not_many;
      no_fault = spelled_have_no_fault 1 (stage_texts text) tools h.spelled;
    })

pub one_chain_or_one_fault : (text : List ℕ) → IsOneChainOrOneFault text
one_chain_or_one_fault text = record {
  spelled = (λ found. spelled_chain_has_no_fault text found.0 found.1, λ e. chain_spelled text e);
  one = λ tools others h k. same_tools (stage_texts text) tools others h.spelled k.spelled;
}
