-- The settings of items and of one item more, an option or an argument.
use Rattle.pnm_chain.proofs.Words.{◌≡◌, ◌≤◌, ℕ, Bool, true, false, if◌then◌else◌, Option, Some, None, is_some, option_map, unwrap_or, Result, OnOk, IfErr, List}
use Rattle.pnm_chain.proofs.Words.{[], ◌∷◌, ◌++◌, length, map, ◌⊎◌, inr, refl, sym, ap, subst, ◌∙◌, append-nil, cond-true, cond-false, length-map, map-append}
use Rattle.pnm_chain.proofs.Words.{All-append, All-cons, All-nil, IfErr-weaker, on_ok_weaker, option_or, decimal_value, FlipWay, ChainKind, Conflict, Memory}
use Rattle.pnm_chain.proofs.Words.{MissingValue, ToolName, ToolOption, Left, Right, Top, Bottom, Width, Height, TupleType, XScale, YScale, Way, Settings, Said}
use Rattle.pnm_chain.proofs.Words.{arguments_taken, excludes, most_arguments, offset_value, takes_argument, way_in, wants_value, Item, Argument, Given, Unknown}
use Rattle.pnm_chain.proofs.Words.{arguments_of, option_value, is_there, way_of, numbers_of, said_of, item_fault, value_fault, AreSettingsOf, AreTaken, NowSay}
use Rattle.pnm_chain.proofs.Words.{argument_fault, has_option, said_by, with_number, with_option}
use Rattle.std.proofs.Common.{nat_le}
use Rattle.pnm_chain.proofs.ItemSteps.{or_none}
use Rattle.pnm_chain.proofs.ItemLaws.{argument_by, argument_free, arguments_of-append}
use Rattle.pnm_chain.proofs.LawfulLaws.{in_range}

-- ---- options and ways of items that follow others

or_assoc : {T : Type 0} (one other third : Option T) → option_or one (option_or other third) ≡ option_or (option_or one other) third
or_assoc (Some x) other third = refl
or_assoc None other third = refl

value_by : (same : Bool) (rest others : Option (List ℕ)) (word : List ℕ) → (if same then Some word else option_or rest others)
    ≡ option_or (if same then Some word else rest) others
value_by true rest others word = refl
value_by false rest others word = refl

option_value-append : (option : ToolOption) (before items : List Item) → option_value option (before ++ items) ≡ option_or (option_value option before)
    (option_value option items)
option_value-append option [] items = refl
option_value-append option (Argument word ∷ before) items = option_value-append option before items
option_value-append option (Given other value ∷ before) items =
    ap (λ (rest : Option (List ℕ)). if excludes option other then Some (unwrap_or value []) else rest) (option_value-append option before items)
    ∙ value_by (excludes option other) (option_value option before) (option_value option items) (unwrap_or value [])
option_value-append option (Unknown ∷ before) items = option_value-append option before items

way_of-append : (before items : List Item) → way_of (before ++ items) ≡ option_or (way_of before) (way_of items)
way_of-append [] items = refl
way_of-append (Argument word ∷ before) items = way_of-append before items
way_of-append (Given option value ∷ before) items = ap (option_or (way_in option)) (way_of-append before items)
    ∙ or_assoc (way_in option) (way_of before) (way_of items)
way_of-append (Unknown ∷ before) items = way_of-append before items

-- ---- what one item more leaves

abbrev after : List Item → ToolOption → Option (List ℕ) → List Item
after before option value = before ++ Given option value ∷ []

value_kept : (other option : ToolOption) (value : Option (List ℕ)) (before : List Item) → excludes other option ≡ false
    → option_value other before ≡ option_value other (after before option value)
value_kept other option value before e = sym
    (option_value-append other before (Given option value ∷ [])
    ∙ ap (λ (same : Bool). option_or (option_value other before) (if same then Some (unwrap_or value []) else None)) e
    ∙ or_none (option_value other before))

value_beside : (other : ToolOption) (word : List ℕ) (before : List Item) → option_value other before ≡ option_value other (before ++ Argument word ∷ [])
value_beside other word before = sym (option_value-append other before (Argument word ∷ []) ∙ or_none (option_value other before))

way_kept : (option : ToolOption) (value : Option (List ℕ)) (before : List Item) → way_in option ≡ None → way_of before ≡ way_of (after before option value)
way_kept option value before e = sym
    (way_of-append before (Given option value ∷ [])
    ∙ ap (λ (way : Option FlipWay). option_or (way_of before) (option_or way None)) e
    ∙ or_none (way_of before))

way_beside : (word : List ℕ) (before : List Item) → way_of before ≡ way_of (before ++ Argument word ∷ [])
way_beside word before = sym (way_of-append before (Argument word ∷ []) ∙ or_none (way_of before))

numbers_kept : (option : ToolOption) (value : Option (List ℕ)) (before : List Item) → numbers_of before ≡ numbers_of (after before option value)
numbers_kept option value before =
    ap (λ (words : List (List ℕ)). map decimal_value words) (sym (arguments_of-append before (Given option value ∷ []) ∙ append-nil (arguments_of before)))

numbers_more : (word : List ℕ) (before : List Item) → numbers_of before ++ decimal_value word ∷ [] ≡ numbers_of (before ++ Argument word ∷ [])
numbers_more word before = sym
    (ap (λ (words : List (List ℕ)). map decimal_value words) (arguments_of-append before (Argument word ∷ []))
    ∙ map-append decimal_value (arguments_of before) (word ∷ []))

-- ---- the option of the item

absent : {T : Type 0} (one : Option T) → is_some one ≡ false → one ≡ None
absent (Some x) e = absurd cc
absent None e = refl

no_value_missing : (wants : Bool) → wants ≡ true → (if wants then Some MissingValue else None) ≡ None → ⊥
no_value_missing true e f = cc
no_value_missing false e f = cc

value_wanted : (option : ToolOption) (value : Option (List ℕ)) → wants_value option ≡ true → value_fault option value ≡ None → value ≡ Some (unwrap_or value [])
value_wanted option (Some word) e f = refl
value_wanted option None e f = absurd (no_value_missing (wants_value option) e f)

value_given : (option : ToolOption) (value : Option (List ℕ)) (before : List Item) → excludes option option ≡ true → wants_value option ≡ true
    → is_there option before ≡ false → value_fault option value ≡ None → value ≡ option_value option (after before option value)
value_given option value before e wants new fits =
    value_wanted option value wants fits ∙ sym
    (option_value-append option before (Given option value ∷ [])
    ∙ ap (λ (same : Bool). option_or (option_value option before) (if same then Some (unwrap_or value []) else None)) e
    ∙ ap (λ (one : Option (List ℕ)). option_or one (Some (unwrap_or value []))) (absent (option_value option before) new))

way_given : (way : FlipWay) (value : Option (List ℕ)) (before : List Item) → is_some (way_of before) ≡ false → Some way ≡ way_of (after before (Way way) value)
way_given way value before new = sym
    (way_of-append before (Given (Way way) value ∷ [])
    ∙ ap (λ (one : Option FlipWay). option_or one (Some way)) (absent (way_of before) new))

-- ---- what is there

map_there : {A B : Type 0} (f : A → B) (one : Option A) → is_some (option_map f one) ≡ is_some one
map_there f (Some x) = refl
map_there f None = refl

way_there_by : (way : FlipWay) (option : ToolOption) (value : Option (List ℕ)) (items : List Item) → is_some (way_of items) ≡ is_there (Way way) items
    → is_some (option_or (way_in option) (way_of items)) ≡ is_there (Way way) (Given option value ∷ items)
way_there_by way Left value items e = e
way_there_by way Right value items e = e
way_there_by way Top value items e = e
way_there_by way Bottom value items e = e
way_there_by way Width value items e = e
way_there_by way Height value items e = e
way_there_by way TupleType value items e = e
way_there_by way XScale value items e = e
way_there_by way YScale value items e = e
way_there_by way (Way other) value items e = refl

way_there : (way : FlipWay) (items : List Item) → is_some (way_of items) ≡ is_there (Way way) items
way_there way [] = refl
way_there way (Argument word ∷ items) = way_there way items
way_there way (Given option value ∷ items) = way_there_by way option value items (way_there way items)
way_there way (Unknown ∷ items) = way_there way items

there_at : (before : List Item) (option : ToolOption) → has_option (said_of before) option ≡ is_there option before
there_at before Left = map_there offset_value (option_value Left before)
there_at before Right = map_there offset_value (option_value Right before)
there_at before Top = map_there offset_value (option_value Top before)
there_at before Bottom = map_there offset_value (option_value Bottom before)
there_at before Width = map_there decimal_value (option_value Width before)
there_at before Height = map_there decimal_value (option_value Height before)
there_at before TupleType = refl
there_at before XScale = map_there decimal_value (option_value XScale before)
there_at before YScale = map_there decimal_value (option_value YScale before)
there_at before (Way way) = way_there way before

there : (tool : ToolName) (before : List Item) (s : Settings) (option : ToolOption) → AreSettingsOf tool before s
    → has_option (said_by s) option ≡ is_there option before
there tool before s option h = ap (λ (said : Said). has_option said option) h.said_is ∙ there_at before option

-- ---- what is said with an item more

abbrev said_in : Option (List ℕ) → Option (List ℕ) → Option (List ℕ) → Option (List ℕ) → Option (List ℕ) → Option (List ℕ) → Option (List ℕ)
    → Option (List ℕ) → Option (List ℕ) → Option FlipWay → List ℕ → Said
said_in left right top bottom width height tuple_type across down way numbers = record {
  box = record {
    left = option_map offset_value left;
    right = option_map offset_value right;
    top = option_map offset_value top;
    bottom = option_map offset_value bottom;
    width = option_map decimal_value width;
    height = option_map decimal_value height;
  };
  tuple_type = tuple_type;
  across = option_map decimal_value across;
  down = option_map decimal_value down;
  way = way;
  numbers = numbers;
}

same_said : {l r t b w h n x y left right top bottom width height tuple_type across down : Option (List ℕ)} {v way : Option FlipWay} {ns numbers : List ℕ}
    → l ≡ left → r ≡ right → t ≡ top → b ≡ bottom → w ≡ width → h ≡ height → n ≡ tuple_type → x ≡ across → y ≡ down → v ≡ way → ns ≡ numbers
    → said_in l r t b w h n x y v ns ≡ said_in left right top bottom width height tuple_type across down way numbers
same_said e1 e2 e3 e4 e5 e6 e7 e8 e9 e10 e11 = cc

module _ (before : List Item) (value : Option (List ℕ)) where
  kept : (option other : ToolOption) → excludes other option ≡ false → option_value other before ≡ option_value other (after before option value)
  kept option other e = value_kept other option value before e

  said_given : (option : ToolOption) → is_there option before ≡ false → value_fault option value ≡ None
      → with_option (said_of before) option value ≡ said_of (after before option value)
  said_given Left new fits = same_said
      (value_given Left value before refl refl new fits) (kept Left Right refl) (kept Left Top refl) (kept Left Bottom refl) (kept Left Width refl)
      (kept Left Height refl) (kept Left TupleType refl) (kept Left XScale refl) (kept Left YScale refl) (way_kept Left value before refl)
      (numbers_kept Left value before)
  said_given Right new fits = same_said
      (kept Right Left refl) (value_given Right value before refl refl new fits) (kept Right Top refl) (kept Right Bottom refl) (kept Right Width refl)
      (kept Right Height refl) (kept Right TupleType refl) (kept Right XScale refl) (kept Right YScale refl) (way_kept Right value before refl)
      (numbers_kept Right value before)
  said_given Top new fits = same_said
      (kept Top Left refl) (kept Top Right refl) (value_given Top value before refl refl new fits) (kept Top Bottom refl) (kept Top Width refl)
      (kept Top Height refl) (kept Top TupleType refl) (kept Top XScale refl) (kept Top YScale refl) (way_kept Top value before refl)
      (numbers_kept Top value before)
  said_given Bottom new fits = same_said
      (kept Bottom Left refl) (kept Bottom Right refl) (kept Bottom Top refl) (value_given Bottom value before refl refl new fits) (kept Bottom Width refl)
      (kept Bottom Height refl) (kept Bottom TupleType refl) (kept Bottom XScale refl) (kept Bottom YScale refl) (way_kept Bottom value before refl)
      (numbers_kept Bottom value before)
  said_given Width new fits = same_said
      (kept Width Left refl) (kept Width Right refl) (kept Width Top refl) (kept Width Bottom refl) (value_given Width value before refl refl new fits)
      (kept Width Height refl) (kept Width TupleType refl) (kept Width XScale refl) (kept Width YScale refl) (way_kept Width value before refl)
      (numbers_kept Width value before)
  said_given Height new fits = same_said
      (kept Height Left refl) (kept Height Right refl) (kept Height Top refl) (kept Height Bottom refl) (kept Height Width refl)
      (value_given Height value before refl refl new fits) (kept Height TupleType refl) (kept Height XScale refl) (kept Height YScale refl)
      (way_kept Height value before refl) (numbers_kept Height value before)
  said_given TupleType new fits = same_said
      (kept TupleType Left refl) (kept TupleType Right refl) (kept TupleType Top refl) (kept TupleType Bottom refl) (kept TupleType Width refl)
      (kept TupleType Height refl) (value_given TupleType value before refl refl new fits) (kept TupleType XScale refl) (kept TupleType YScale refl)
      (way_kept TupleType value before refl) (numbers_kept TupleType value before)
  said_given XScale new fits = same_said
      (kept XScale Left refl) (kept XScale Right refl) (kept XScale Top refl) (kept XScale Bottom refl) (kept XScale Width refl) (kept XScale Height refl)
      (kept XScale TupleType refl) (value_given XScale value before refl refl new fits) (kept XScale YScale refl) (way_kept XScale value before refl)
      (numbers_kept XScale value before)
  said_given YScale new fits = same_said
      (kept YScale Left refl) (kept YScale Right refl) (kept YScale Top refl) (kept YScale Bottom refl) (kept YScale Width refl) (kept YScale Height refl)
      (kept YScale TupleType refl) (kept YScale XScale refl) (value_given YScale value before refl refl new fits) (way_kept YScale value before refl)
      (numbers_kept YScale value before)
  said_given (Way way) new fits = same_said
      (kept (Way way) Left refl) (kept (Way way) Right refl) (kept (Way way) Top refl) (kept (Way way) Bottom refl) (kept (Way way) Width refl)
      (kept (Way way) Height refl) (kept (Way way) TupleType refl) (kept (Way way) XScale refl) (kept (Way way) YScale refl)
      (way_given way value before (way_there way before ∙ new)) (numbers_kept (Way way) value before)

said_number : (before : List Item) (word : List ℕ) → with_number (said_of before) (decimal_value word) ≡ said_of (before ++ Argument word ∷ [])
said_number before word = same_said
    (value_beside Left word before) (value_beside Right word before) (value_beside Top word before) (value_beside Bottom word before)
    (value_beside Width word before) (value_beside Height word before) (value_beside TupleType word before) (value_beside XScale word before)
    (value_beside YScale word before) (way_beside word before) (numbers_more word before)

-- ---- settings with an item more

lengths : (tool : ToolName) (before : List Item) (s : Settings) → AreSettingsOf tool before s → length s.numbers.items ≡ length (arguments_of before)
lengths tool before s h = ap (λ (said : Said). length said.numbers) h.said_is ∙ length-map (arguments_of before) decimal_value

same_fault : (tool : ToolName) (before : List Item) (s : Settings) (word : List ℕ) → AreSettingsOf tool before s
    → argument_fault tool s word ≡ item_fault tool before (Argument word)
same_fault tool before s word h = ap (λ (n : ℕ). argument_by (nat_le (most_arguments tool) n) (takes_argument tool word)) (lengths tool before s h)

one_taken : (tool : ToolName) (word : List ℕ) → takes_argument tool word ≡ true → AreTaken tool (decimal_value word ∷ [])
one_taken tool word e =
    All-cons (λ number. number ≤ (arguments_taken tool).greatest) (decimal_value word) []
    (in_range (arguments_taken tool).least (arguments_taken tool).greatest word e).1 (All-nil (λ number. number ≤ (arguments_taken tool).greatest))

with_word : (tool : ToolName) (before : List Item) (word : List ℕ) (old new : Settings) → AreSettingsOf tool before old → takes_argument tool word ≡ true
    → NowSay old (with_number (said_by old) (decimal_value word)) new → AreSettingsOf tool (before ++ Argument word ∷ []) new
with_word tool before word old new h takes now = record {
  tool_is = now.tool_is ∙ h.tool_is;
  said_is = now.said_is ∙ ap (λ (said : Said). with_number said (decimal_value word)) h.said_is ∙ said_number before word;
  taken = subst (AreTaken tool) (sym (ap (λ (said : Said). said.numbers) now.said_is))
      (All-append (λ number. number ≤ (arguments_taken tool).greatest) old.numbers.items (decimal_value word ∷ []) h.taken (one_taken tool word takes));
}

with_given : (tool : ToolName) (before : List Item) (option : ToolOption) (value : Option (List ℕ)) (old new : Settings) → AreSettingsOf tool before old
    → is_there option before ≡ false → value_fault option value ≡ None → NowSay old (with_option (said_by old) option value) new
    → AreSettingsOf tool (after before option value) new
with_given tool before option value old new h free fits now =
    let is : said_by new ≡ said_of (after before option value) =
    now.said_is ∙ ap (λ (said : Said). with_option said option value) h.said_is ∙ said_given before value option free fits in
    record {
      tool_is = now.tool_is ∙ h.tool_is;
      said_is = is;
      taken = subst (AreTaken tool)
          (ap (λ (said : Said). said.numbers) h.said_is ∙ numbers_kept option value before ∙ sym (ap (λ (said : Said). said.numbers) is)) h.taken;
    }

pub argument_set : (tool : ToolName) (word : List ℕ) (old new : Settings) (r : Result (Unit {0}) ChainKind)
    → OnOk r ((argument_fault tool old word ≡ None) × NowSay old (with_number (said_by old) (decimal_value word)) new)
    → OnOk r ((before : List Item) → AreSettingsOf tool before old → (item_fault tool before (Argument word) ≡ None)
    × AreSettingsOf tool (before ++ Argument word ∷ []) new)
argument_set tool word old new r = on_ok_weaker r (λ added before h. (
  sym (same_fault tool before old word h) ∙ added.0,
  with_word tool before word old new h
      (argument_free (nat_le (most_arguments tool) (length old.numbers.items)) (takes_argument tool word) added.0).1 added.1,
))

pub argument_refused : (tool : ToolName) (word : List ℕ) (old : Settings) (r : Result (Unit {0}) ChainKind)
    → IfErr r (λ kind. (kind ≡ Memory) ⊎ (argument_fault tool old word ≡ Some kind))
    → IfErr r (λ kind. (before : List Item) → AreSettingsOf tool before old → (kind ≡ Memory) ⊎ (item_fault tool before (Argument word) ≡ Some kind))
argument_refused tool word old r = IfErr-weaker r (λ kind. (kind ≡ Memory) ⊎ (argument_fault tool old word ≡ Some kind))
    (λ kind. (before : List Item) → AreSettingsOf tool before old → (kind ≡ Memory) ⊎ (item_fault tool before (Argument word) ≡ Some kind))
    (λ kind why before h. subst (λ (fault : Option ChainKind). (kind ≡ Memory) ⊎ (fault ≡ Some kind)) (same_fault tool before old word h) why)

option_fault_new : (tool : ToolName) (before : List Item) (option : ToolOption) (value : Option (List ℕ)) → is_there option before ≡ false
    → item_fault tool before (Given option value) ≡ value_fault option value
option_fault_new tool before option value e = cond-false (is_there option before) (Some Conflict) (value_fault option value) e

option_fault_there : (tool : ToolName) (before : List Item) (option : ToolOption) (value : Option (List ℕ)) → is_there option before ≡ true
    → item_fault tool before (Given option value) ≡ Some Conflict
option_fault_there tool before option value e = cond-true (is_there option before) (Some Conflict) (value_fault option value) e

pub option_again : (tool : ToolName) (option : ToolOption) (value : Option (List ℕ)) (old : Settings) → has_option (said_by old) option ≡ true
    → (before : List Item) → AreSettingsOf tool before old → (Conflict ≡ Memory) ⊎ (item_fault tool before (Given option value) ≡ Some Conflict)
option_again tool option value old e before h = inr (option_fault_there tool before option value (sym (there tool before old option h) ∙ e))

pub option_set : (tool : ToolName) (option : ToolOption) (value : Option (List ℕ)) (old new : Settings) (r : Result (Unit {0}) ChainKind)
    → has_option (said_by old) option ≡ false → OnOk r ((value_fault option value ≡ None) × NowSay old (with_option (said_by old) option value) new)
    → OnOk r ((before : List Item) → AreSettingsOf tool before old → (item_fault tool before (Given option value) ≡ None)
    × AreSettingsOf tool (before ++ Given option value ∷ []) new)
option_set tool option value old new r e = on_ok_weaker r (λ set before h.
    let free : is_there option before ≡ false = sym (there tool before old option h) ∙ e in (
      option_fault_new tool before option value free ∙ set.0,
      with_given tool before option value old new h free set.0 set.1,
    ))

pub option_refused : (tool : ToolName) (option : ToolOption) (value : Option (List ℕ)) (old : Settings) (r : Result (Unit {0}) ChainKind)
    → has_option (said_by old) option ≡ false → IfErr r (λ kind. value_fault option value ≡ Some kind)
    → IfErr r (λ kind. (before : List Item) → AreSettingsOf tool before old → (kind ≡ Memory) ⊎ (item_fault tool before (Given option value) ≡ Some kind))
option_refused tool option value old r e =
    IfErr-weaker r (λ kind. value_fault option value ≡ Some kind) (λ kind. (before : List Item) → AreSettingsOf tool before old → (kind ≡ Memory)
    ⊎ (item_fault tool before (Given option value) ≡ Some kind))
    (λ kind why before h. inr (option_fault_new tool before option value (sym (there tool before old option h) ∙ e) ∙ why))
