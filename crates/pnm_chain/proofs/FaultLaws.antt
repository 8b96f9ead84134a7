-- The faults of chains' texts: each is of the whole text or of a stage by its number, and none is want of memory.
use Rattle.pnm_chain.proofs.Words.{◌≡◌, ◌≤◌, ◌<◌, inl, inr, ℕ, suc, ◌+◌, Bool, true, false, Option, Some, None, IfSome, List, [], ◌∷◌, ◌++◌, length, refl, sym}
use Rattle.pnm_chain.proofs.Words.{subst, arith, nat_le, nat_lt, ◌≢◌, list_all, ltb-false, is_white, words, ChainFault, ChainKind, Empty, TooLong, TooMany}
use Rattle.pnm_chain.proofs.Words.{Memory, ToolName, ToolOption, tool_named, wants_value, takes_value, most_arguments, takes_argument, Item, Argument, Given}
use Rattle.pnm_chain.proofs.Words.{Unknown, items_of, arguments_of, is_there, value_fault, is_conflict, is_missing, item_fault, fault_after, stage_texts}
use Rattle.pnm_chain.proofs.Words.{named_fault, words_fault, stage_fault, fault_from, chain_fault_of, is_of_stage, IsPlaced, MAX_TEXT_LENGTH, MAX_TOOLS}
use Rattle.pnm_chain.proofs.ItemLaws.{argument_by, option_by, value_by, missing_by, end_by, after_by, fault_after-cons, fault_after-nil}
use Rattle.pnm_chain.proofs.ChainLaws.{from_by, fault_from-cons, fault_from-nil, chain_fault_by, chain_fault_is}

-- ---- kinds of a stage's faults

abbrev IsOfStage : Option ChainKind → Type 0
IsOfStage fault = IfSome fault (λ kind. is_of_stage kind ≡ true)

of_argument : (full takes : Bool) → IsOfStage (argument_by full takes)
of_argument true takes = refl
of_argument false true = cc
of_argument false false = refl

of_value : (takes : Bool) → IsOfStage (value_by takes)
of_value true = cc
of_value false = refl

of_missing : (wants : Bool) → IsOfStage (missing_by wants)
of_missing true = refl
of_missing false = cc

of_given : (option : ToolOption) (value : Option (List ℕ)) → IsOfStage (value_fault option value)
of_given option None = of_missing (wants_value option)
of_given option (Some word) = of_value (takes_value option word)

of_option : (there : Bool) (fault : Option ChainKind) → IsOfStage fault → IsOfStage (option_by there fault)
of_option true fault h = refl
of_option false fault h = h

of_item : (tool : ToolName) (before : List Item) (item : Item) → IsOfStage (item_fault tool before item)
of_item tool before (Argument word) = of_argument (nat_le (most_arguments tool) (length (arguments_of before))) (takes_argument tool word)
of_item tool before (Given option value) = of_option (is_there option before) (value_fault option value) (of_given option value)
of_item tool before Unknown = refl

of_end : (conflict missing : Bool) → IsOfStage (end_by conflict missing)
of_end true missing = refl
of_end false true = refl
of_end false false = cc

of_either : (fault others : Option ChainKind) → IsOfStage fault → IsOfStage others → IsOfStage (after_by fault others)
of_either (Some kind) others h k = h
of_either None others h k = k

of_items : (tool : ToolName) (before items : List Item) → IsOfStage (fault_after tool before items)
of_items tool before [] = subst IsOfStage (sym (fault_after-nil tool before)) (of_end (is_conflict tool before) (is_missing tool before))
of_items tool before (item ∷ items) =
    subst IsOfStage (sym (fault_after-cons tool before item items))
    (of_either (item_fault tool before item) (fault_after tool (before ++ item ∷ []) items) (of_item tool before item)
    (of_items tool (before ++ item ∷ []) items))

of_named : (tool : Option ToolName) (others : List (List ℕ)) → IsOfStage (named_fault tool others)
of_named None others = refl
of_named (Some tool) others = of_items tool [] (items_of tool others)

of_words : (found : List (List ℕ)) → IsOfStage (words_fault found)
of_words [] = refl
of_words (name ∷ others) = of_named (tool_named name) others

-- ---- stages

-- the fault is of one of so many stages, of which the first has this number
abbrev IsWithin : ℕ → ℕ → Option ChainFault → Type 0
IsWithin number count fault = IfSome fault (λ f. (is_of_stage f.kind ≡ true) × (number ≤ f.stage) × (f.stage < number + count))

within_more : (number count : ℕ) (fault : Option ChainFault) → IsWithin (suc number) count fault → IsWithin number (suc count) fault
within_more number count None h = cc
within_more number count (Some fault) h = (h.0, omega arith, omega arith)

of_stage : (number count : ℕ) (fault : Option ChainKind) (others : Option ChainFault) → IsOfStage fault → IsWithin (suc number) count others
    → IsWithin number (suc count) (from_by number fault others)
of_stage number count (Some kind) others h k = (h, omega arith, omega arith)
of_stage number count None others h k = within_more number count others k

of_stages : (number : ℕ) (stages : List (List ℕ)) → IsWithin number (length stages) (fault_from number stages)
of_stages number [] = subst (IsWithin number 0) (sym (fault_from-nil number)) cc
of_stages number (stage ∷ stages) =
    subst (IsWithin number (suc (length stages))) (sym (fault_from-cons number stage stages))
    (of_stage number (length stages) (stage_fault stage) (fault_from (suc number) stages) (of_words (words stage)) (of_stages (suc number) stages))

-- ---- the whole text

too_long_is_no_memory : TooLong ≢ Memory
too_long_is_no_memory e = absurd cc

empty_is_no_memory : Empty ≢ Memory
empty_is_no_memory e = absurd cc

too_many_is_no_memory : TooMany ≢ Memory
too_many_is_no_memory e = absurd cc

placed_within : (count : ℕ) (fault : Option ChainFault) → count ≤ MAX_TOOLS → IsWithin 1 count fault → IfSome fault IsPlaced
placed_within count None few h = cc
placed_within count (Some fault) few h = inl (h.0, h.1, omega arith)

placed_by : (long blank many : Bool) (count : ℕ) (others : Option ChainFault) → (many ≡ false → count ≤ MAX_TOOLS) → IsWithin 1 count others
    → IfSome (chain_fault_by long blank many others) IsPlaced
placed_by true blank many count others few h = inr (refl, too_long_is_no_memory, refl)
placed_by false true many count others few h = inr (refl, empty_is_no_memory, refl)
placed_by false false true count others few h = inr (refl, too_many_is_no_memory, refl)
placed_by false false false count others few h = placed_within count others (few refl) h

placed : (text : List ℕ) → IfSome (chain_fault_of text) IsPlaced
placed text =
    subst (λ (fault : Option ChainFault). IfSome fault IsPlaced) (sym (chain_fault_is text))
    (placed_by (nat_lt MAX_TEXT_LENGTH (length text)) (list_all is_white text) (nat_lt MAX_TOOLS (length (stage_texts text))) (length (stage_texts text))
    (fault_from 1 (stage_texts text))
    (λ e. ltb-false MAX_TOOLS (length (stage_texts text)) e) (of_stages 1 (stage_texts text)))

pub chain_faults_are_placed : (text : List ℕ) (fault : ChainFault) → chain_fault_of text ≡ Some fault → IsPlaced fault
chain_faults_are_placed text fault e = subst (λ (f : Option ChainFault). IfSome f IsPlaced) e (placed text)
