-- Items without a fault mean one tool, and items that mean a tool have no fault.
use Rattle.pnm_chain.proofs.Words.{◌≡◌, ◌≤◌, ℕ, ◌+◌, ◌==◌, ◌||◌, Bool, true, false, not, if◌then◌else◌, Option, Some, None, is_some, unwrap_or, List, [], ◌∷◌}
use Rattle.pnm_chain.proofs.Words.{◌++◌, length, refl, sym, ap, subst, ◌∙◌, append-nil, append_assoc, arith, AllByRecursion, nat_le, length-append, or-false}
use Rattle.pnm_chain.proofs.Words.{or_assoc, nat_tests, or_parts, or_from, not-true, leb-false, lt-leb, IsDistinct-cons, Tool, ChainKind, BadValue}
use Rattle.pnm_chain.proofs.Words.{MissingValue, Conflict, MissingArgument, ExtraArgument, ToolName, ToolOption, most_arguments, takes_argument, takes_value}
use Rattle.pnm_chain.proofs.Words.{wants_value, slot_of, excludes, Item, Argument, Given, Unknown, arguments_of, is_there, option_value, options_of}
use Rattle.pnm_chain.proofs.Words.{value_fault, IsFormed, is_conflict, is_missing, Means, meant_by, item_fault, end_fault}
use Rattle.std.specs.List.{IsDistinct}
use Rattle.pnm_chain.specs.StageWords.{fault_after}

-- ---- arguments of items that follow others

pub arguments_of-append : (before items : List Item) → arguments_of (before ++ items) ≡ arguments_of before ++ arguments_of items
arguments_of-append [] items = refl
arguments_of-append (Argument word ∷ before) items = ap (λ (words : List (List ℕ)). word ∷ words) (arguments_of-append before items)
arguments_of-append (Given option value ∷ before) items = arguments_of-append before items
arguments_of-append (Unknown ∷ before) items = arguments_of-append before items

-- ---- options of items that follow others

-- the item is no option that was there before
abbrev pub is_new : List Item → Item → Bool
is_new before (Argument word) = true
is_new before (Given option value) = not (is_there option before)
is_new before Unknown = true

-- each option is new; these items came before
abbrev pub AreNewAfter : List Item → List Item → Type 0
AreNewAfter before [] = Unit {0}
AreNewAfter before (item ∷ items) = (is_new before item ≡ true) × AreNewAfter (before ++ item ∷ []) items

there_by : (same : Bool) (value : List ℕ) (others : Option (List ℕ)) → is_some (if same then Some value else others) ≡ (same || is_some others)
there_by true value others = refl
there_by false value others = refl

there_after : (option other : ToolOption) (value : Option (List ℕ)) (before : List Item)
    → is_there option (before ++ Given other value ∷ []) ≡ (is_there option before || excludes option other)
there_after option other value [] = there_by (excludes option other) (unwrap_or value []) None ∙ or-false (excludes option other)
there_after option other value (Argument word ∷ before) = there_after option other value before
there_after option other value (Given third given ∷ before) =
    there_by (excludes option third) (unwrap_or given []) (option_value option (before ++ Given other value ∷ []))
    ∙ ap (λ (b : Bool). excludes option third || b) (there_after option other value before)
    ∙ sym (or_assoc (excludes option third) (is_there option before) (excludes option other))
    ∙ ap (λ (b : Bool). b || excludes option other) (sym (there_by (excludes option third) (unwrap_or given []) (option_value option before)))
there_after option other value (Unknown ∷ before) = there_after option other value before

turned : (a b : ℕ) → (a == b) ≡ (b == a)
turned a b = grind (arith, nat_tests)

same_turned : (one other : ToolOption) → excludes one other ≡ excludes other one
same_turned one other = turned (slot_of one) (slot_of other)

-- none of the options was there before
abbrev NoneThere : List Item → List ToolOption → Type 0
NoneThere before options = AllByRecursion (λ option. is_there option before ≡ false) options

-- none there before and after one more option
parted : (other : ToolOption) (value : Option (List ℕ)) (before : List Item) (options : List ToolOption) → NoneThere (before ++ Given other value ∷ []) options
    → NoneThere before options × AllByRecursion (λ option. excludes other option ≡ false) options
parted other value before [] h = (cc, cc)
parted other value before (option ∷ options) h =
    let both = or_parts (is_there option before) (excludes option other) (sym (there_after option other value before) ∙ h.0) in
    let rest = parted other value before options h.1 in
    ((both.0, rest.0), (same_turned other option ∙ both.1, rest.1))

joined : (other : ToolOption) (value : Option (List ℕ)) (before : List Item) (options : List ToolOption) → NoneThere before options
    → AllByRecursion (λ option. excludes other option ≡ false) options
    → NoneThere (before ++ Given other value ∷ []) options
joined other value before [] h k = cc
joined other value before (option ∷ options) h k = (
  there_after option other value before ∙ or_from (is_there option before) (excludes option other) h.0 (same_turned option other ∙ k.0),
  joined other value before options h.1 k.1,
)

not_there : (option : ToolOption) (item : Item) → options_of (item ∷ []) ≡ [] → is_there option (item ∷ []) ≡ false
not_there option (Argument word) none = refl
not_there option (Given other value) none = absurd cc
not_there option Unknown none = refl

others_there : (option : ToolOption) (item : Item) (before : List Item) → options_of (item ∷ []) ≡ []
    → is_there option (before ++ item ∷ []) ≡ is_there option before
others_there option item [] none = not_there option item none
others_there option item (Argument word ∷ before) none = others_there option item before none
others_there option item (Given other given ∷ before) none =
    there_by (excludes option other) (unwrap_or given []) (option_value option (before ++ item ∷ []))
    ∙ ap (λ (b : Bool). excludes option other || b) (others_there option item before none)
    ∙ sym (there_by (excludes option other) (unwrap_or given []) (option_value option before))
others_there option item (Unknown ∷ before) none = others_there option item before none

same_there : (item : Item) (before : List Item) (options : List ToolOption) → options_of (item ∷ []) ≡ [] → NoneThere (before ++ item ∷ []) options
    → NoneThere before options
same_there item before [] none h = cc
same_there item before (option ∷ options) none h = (sym (others_there option item before none) ∙ h.0, same_there item before options none h.1)

still_there : (item : Item) (before : List Item) (options : List ToolOption) → options_of (item ∷ []) ≡ [] → NoneThere before options
    → NoneThere (before ++ item ∷ []) options
still_there item before [] none h = cc
still_there item before (option ∷ options) none h = (others_there option item before none ∙ h.0, still_there item before options none h.1)

distinct-head : (option : ToolOption) (options : List ToolOption) → IsDistinct excludes (option ∷ options)
    → AllByRecursion (λ other. excludes option other ≡ false) options × IsDistinct excludes options
unfolding IsDistinct
distinct-head option options h = h

distinct-nil : IsDistinct excludes []
unfolding IsDistinct
distinct-nil = cc

-- options that are each new are none of those before, and each is there once
new_are_distinct : (before items : List Item) → AreNewAfter before items → NoneThere before (options_of items) × IsDistinct excludes (options_of items)
new_are_distinct before [] h = (cc, distinct-nil)
new_are_distinct before (Argument word ∷ items) h =
    let rest = new_are_distinct (before ++ Argument word ∷ []) items h.1 in
    (same_there (Argument word) before (options_of items) refl rest.0, rest.1)
new_are_distinct before (Given option value ∷ items) h =
    let rest = new_are_distinct (before ++ Given option value ∷ []) items h.1 in
    let parts = parted option value before (options_of items) rest.0 in
    ((not-true (is_there option before) h.0, parts.0), IsDistinct-cons excludes option (options_of items) parts.1 rest.1)
new_are_distinct before (Unknown ∷ items) h =
    let rest = new_are_distinct (before ++ Unknown ∷ []) items h.1 in
    (same_there Unknown before (options_of items) refl rest.0, rest.1)

distinct_are_new : (before items : List Item) → NoneThere before (options_of items) → IsDistinct excludes (options_of items) → AreNewAfter before items
distinct_are_new before [] h k = cc
distinct_are_new before (Argument word ∷ items) h k =
    (refl, distinct_are_new (before ++ Argument word ∷ []) items (still_there (Argument word) before (options_of items) refl h) k)
distinct_are_new before (Given option value ∷ items) h k =
    let parts = distinct-head option (options_of items) k in (
      ap (λ (b : Bool). not b) h.0,
      distinct_are_new (before ++ Given option value ∷ []) items (joined option value before (options_of items) h.1 parts.0)
          parts.1,
    )
distinct_are_new before (Unknown ∷ items) h k = (refl, distinct_are_new (before ++ Unknown ∷ []) items (still_there Unknown before (options_of items) refl h) k)

none_there_yet : (options : List ToolOption) → NoneThere [] options
none_there_yet [] = cc
none_there_yet (option ∷ options) = (refl, none_there_yet options)

-- ---- one item

abbrev pub argument_by : Bool → Bool → Option ChainKind
argument_by full takes = if full then Some ExtraArgument else if takes then None else Some BadValue

pub argument_free : (full takes : Bool) → argument_by full takes ≡ None → (full ≡ false) × (takes ≡ true)
argument_free true takes e = absurd cc
argument_free false true e = (refl, refl)
argument_free false false e = absurd cc

argument_fits : (full takes : Bool) → full ≡ false → takes ≡ true → argument_by full takes ≡ None
argument_fits full takes e f = rw (e, f) refl

abbrev pub option_by : Bool → Option ChainKind → Option ChainKind
option_by there fault = if there then Some Conflict else fault

option_free : (there : Bool) (fault : Option ChainKind) → option_by there fault ≡ None → (not there ≡ true) × (fault ≡ None)
option_free true fault e = absurd cc
option_free false fault e = (refl, e)

option_fits : (there : Bool) (fault : Option ChainKind) → not there ≡ true → fault ≡ None → option_by there fault ≡ None
option_fits true fault e f = absurd cc
option_fits false fault e f = f

abbrev pub value_by : Bool → Option ChainKind
value_by takes = if takes then None else Some BadValue

abbrev pub missing_by : Bool → Option ChainKind
missing_by wants = if wants then Some MissingValue else None

takes_by : (takes : Bool) → value_by takes ≡ None → takes ≡ true
takes_by true e = refl
takes_by false e = absurd cc

stands_by : (wants : Bool) → missing_by wants ≡ None → wants ≡ false
stands_by true e = absurd cc
stands_by false e = refl

formed_value : (tool : ToolName) (option : ToolOption) (value : Option (List ℕ)) → value_fault option value ≡ None → IsFormed tool (Given option value)
formed_value tool option None e = stands_by (wants_value option) e
formed_value tool option (Some word) e = takes_by (takes_value option word) e

value_has_no_fault : (tool : ToolName) (option : ToolOption) (value : Option (List ℕ)) → IsFormed tool (Given option value) → value_fault option value ≡ None
value_has_no_fault tool option None e = ap (λ (wants : Bool). missing_by wants) e
value_has_no_fault tool option (Some word) e = ap (λ (takes : Bool). value_by takes) e

-- an item that goes well with those before it
pub record FitsAfter (tool : ToolName) (before : List Item) (item : Item) : Type 0 where
  pub formed : IsFormed tool item
  pub is_new_one : is_new before item ≡ true
  pub not_many : length (arguments_of (before ++ item ∷ [])) ≤ most_arguments tool

no_more : (before : List Item) (words : List (List ℕ)) (item : Item) (most : ℕ) → arguments_of (item ∷ []) ≡ [] → length (arguments_of before) ≤ most
    → length (arguments_of (before ++ item ∷ [])) ≤ most
no_more before words item most none low =
    subst (λ (args : List (List ℕ)). length args ≤ most)
    (sym (arguments_of-append before (item ∷ []) ∙ ap (λ (more : List (List ℕ)). arguments_of before ++ more) none ∙ append-nil (arguments_of before))) low

one_more : (before : List Item) (word : List ℕ) → length (arguments_of (before ++ Argument word ∷ [])) ≡ length (arguments_of before) + 1
one_more before word = ap (λ (args : List (List ℕ)). length args) (arguments_of-append before (Argument word ∷ []))
    ∙ length-append (arguments_of before) (word ∷ [])

pub fits : (tool : ToolName) (before : List Item) (item : Item) → item_fault tool before item ≡ None → length (arguments_of before) ≤ most_arguments tool
    → FitsAfter tool before item
fits tool before (Argument word) e low =
    let free = argument_free (nat_le (most_arguments tool) (length (arguments_of before))) (takes_argument tool word) e in
    record {
      formed = free.1;
      is_new_one = refl;
      not_many = subst (λ (n : ℕ). n ≤ most_arguments tool) (sym (one_more before word))
          (omega (arith, leb-false (most_arguments tool) (length (arguments_of before)) free.0));
    }
fits tool before (Given option value) e low =
    let free = option_free (is_there option before) (value_fault option value) e in
    record {
      formed = formed_value tool option value free.1;
      is_new_one = free.0;
      not_many = no_more before [] (Given option value) (most_arguments tool) refl low;
    }
fits tool before Unknown e low = absurd cc

pub no_fault : (tool : ToolName) (before : List Item) (item : Item) → FitsAfter tool before item → item_fault tool before item ≡ None
no_fault tool before (Argument word) h =
    argument_fits (nat_le (most_arguments tool) (length (arguments_of before))) (takes_argument tool word)
    (lt-leb (most_arguments tool) (length (arguments_of before)) (omega (arith, subst (λ (n : ℕ). n ≤ most_arguments tool) (one_more before word) h.not_many)))
    h.formed
no_fault tool before (Given option value) h = option_fits (is_there option before) (value_fault option value) h.is_new_one
    (value_has_no_fault tool option value h.formed)
no_fault tool before Unknown h = absurd h.formed

-- ---- items that follow others

pub record FitAfter (tool : ToolName) (before items : List Item) : Type 0 where
  pub formed : AllByRecursion (IsFormed tool) items
  pub once : AreNewAfter before items
  pub not_many : length (arguments_of (before ++ items)) ≤ most_arguments tool
  pub ended : end_fault tool (before ++ items) ≡ None

abbrev pub after_by : Option ChainKind → Option ChainKind → Option ChainKind
after_by fault others = elim fault [
  | Some kind ↦ Some kind
  | None ↦ others
]

after_free : (fault others : Option ChainKind) → after_by fault others ≡ None → (fault ≡ None) × (others ≡ None)
after_free (Some kind) others e = absurd cc
after_free None others e = (refl, e)

pub fault_after-cons : (tool : ToolName) (before : List Item) (item : Item) (items : List Item)
    → fault_after tool before (item ∷ items) ≡ after_by (item_fault tool before item) (fault_after tool (before ++ item ∷ []) items)
unfolding fault_after
fault_after-cons tool before item items = refl

pub fault_after-nil : (tool : ToolName) (before : List Item) → fault_after tool before [] ≡ end_fault tool before
unfolding fault_after
fault_after-nil tool before = refl

pub fit : (tool : ToolName) (before items : List Item) → fault_after tool before items ≡ None → length (arguments_of before) ≤ most_arguments tool
    → FitAfter tool before items
fit tool before [] e low =
    let all : before ++ [] ≡ before = append-nil before in
    record {
      formed = cc;
      once = cc;
      not_many = subst (λ (l : List Item). length (arguments_of l) ≤ most_arguments tool) (sym all) low;
      ended = subst (λ (l : List Item). end_fault tool l ≡ None) (sym all) (sym (fault_after-nil tool before) ∙ e);
    }
fit tool before (item ∷ items) e low =
    let free = after_free (item_fault tool before item) (fault_after tool (before ++ item ∷ []) items) (sym (fault_after-cons tool before item items) ∙ e) in
    let one = fits tool before item free.0 low in
    let others = fit tool (before ++ item ∷ []) items free.1 one.not_many in
    let all : before ++ item ∷ [] ++ items ≡ before ++ item ∷ items = append_assoc before (item ∷ []) items in
    record {
      formed = (one.formed, others.formed);
      once = (one.is_new_one, others.once);
      not_many = subst (λ (l : List Item). length (arguments_of l) ≤ most_arguments tool) all others.not_many;
      ended = subst (λ (l : List Item). end_fault tool l ≡ None) all others.ended;
    }

fewer : (before items : List Item) → length (arguments_of before) ≤ length (arguments_of (before ++ items))
fewer before items =
    subst (λ (args : List (List ℕ)). length (arguments_of before) ≤ length args) (sym (arguments_of-append before items))
    (subst (λ (n : ℕ). length (arguments_of before) ≤ n) (sym (length-append (arguments_of before) (arguments_of items))) (omega arith))

pub fit_fault : (tool : ToolName) (before items : List Item) → FitAfter tool before items → fault_after tool before items ≡ None
fit_fault tool before [] h = fault_after-nil tool before ∙ subst (λ (l : List Item). end_fault tool l ≡ None) (append-nil before) h.ended
fit_fault tool before (item ∷ items) h =
    let all : before ++ item ∷ [] ++ items ≡ before ++ item ∷ items = append_assoc before (item ∷ []) items in
    let many : length (arguments_of (before ++ item ∷ [] ++ items)) ≤ most_arguments tool =
    subst (λ (l : List Item). length (arguments_of l) ≤ most_arguments tool) (sym all) h.not_many in
    let least : length (arguments_of (before ++ item ∷ [])) ≤ length (arguments_of (before ++ item ∷ [] ++ items)) = fewer (before ++ item ∷ []) items in
    let one : item_fault tool before item ≡ None = no_fault tool before item (record { formed = h.formed.0; is_new_one = h.once.0; not_many = omega arith }) in
    let others : fault_after tool (before ++ item ∷ []) items ≡ None = fit_fault tool (before ++ item ∷ []) items (record {
      formed = h.formed.1;
      once = h.once.1;
      not_many = many;
      ended = subst (λ (l : List Item). end_fault tool l ≡ None) (sym all) h.ended;
    }) in
    fault_after-cons tool before item items ∙ ap (λ (fault : Option ChainKind). after_by fault (fault_after tool (before ++ item ∷ []) items)) one ∙ others

-- ---- the end of items

abbrev pub end_by : Bool → Bool → Option ChainKind
end_by conflict missing = if conflict then Some Conflict else if missing then Some MissingArgument else None

end_free : (conflict missing : Bool) → end_by conflict missing ≡ None → (conflict ≡ false) × (missing ≡ false)
end_free true missing e = absurd cc
end_free false true e = absurd cc
end_free false false e = (refl, refl)

end_fits : (conflict missing : Bool) → conflict ≡ false → missing ≡ false → end_by conflict missing ≡ None
end_fits conflict missing e f = rw (e, f) refl

-- ---- all items of a tool

pub items_mean : (tool : ToolName) (items : List Item) → fault_after tool [] items ≡ None → Means tool items (meant_by tool items)
items_mean tool items e =
    let all = fit tool [] items e (omega arith) in
    let ended = end_free (is_conflict tool items) (is_missing tool items) all.ended in
    record {
      formed = all.formed;
      once = (new_are_distinct [] items all.once).1;
      not_many = all.not_many;
      together = ended.0;
      enough = ended.1;
      meaning_is = refl;
    }

pub meaning_has_no_fault : (tool : ToolName) (items : List Item) (meaning : Tool) → Means tool items meaning → fault_after tool [] items ≡ None
meaning_has_no_fault tool items meaning h =
    fit_fault tool [] items
    (record {
      formed = h.formed;
      once = distinct_are_new [] items (none_there_yet (options_of items)) h.once;
      not_many = h.not_many;
      ended = end_fits (is_conflict tool items) (is_missing tool items) h.together h.enough;
    })
