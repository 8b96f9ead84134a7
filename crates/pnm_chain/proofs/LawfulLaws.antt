-- The tools that a text spells are a chain that can be run: 1 to MAX_TOOLS, with options in their ranges.
use Rattle.pnm_chain.proofs.Words.{◌≡◌, ◌≤◌, ℕ, zero, suc, ◌+◌, ◌-◌, ◌==◌, ◌&&◌, Bool, true, false, not, if◌then◌else◌, ℤ, pos, Option, Some, None, is_some}
use Rattle.pnm_chain.proofs.Words.{option_map, unwrap_or, IfSome, IsSome, List, [], ◌∷◌, length, map, drop, refl, sym, ap, subst, ◌∙◌, arith, ◌≢◌, nat_le}
use Rattle.pnm_chain.proofs.Words.{nat_lt, slice_index, slice_index_or, neg_ℤ, unsigned_abs, All, option_or, AllByRecursion, list_all, list_any, after_first}
use Rattle.pnm_chain.proofs.Words.{onto_first, position_or_len, length-map, All-cons, All-nil, length-slice_split, nat_tests, and_parts, and_from, or_parts}
use Rattle.pnm_chain.proofs.Words.{leb-true, ltb-false, eqb-true, not-true, both_ways, false≢true, MAX_DEPTH, MAX_MAXVAL, MAX_TUPLE_TYPE_LENGTH, IsTupleType}
use Rattle.pnm_chain.proofs.Words.{is_blank, is_white, words, decimal_value, begins_in_word, words_by, words-cons, words-nil, Tool, IsEdge, IsLawfulAxis}
use Rattle.pnm_chain.proofs.Words.{IsExtent, AreLawfulTools, IsChain, IsLawfulTool, ToolName, Invert, Cut, Depth, Channel, Enlarge, Flip, Tile, ToolOption}
use Rattle.pnm_chain.proofs.Words.{Left, Right, Top, Bottom, Width, Height, TupleType, XScale, YScale, Way, option_named, wants_value, takes_value, slot_of}
use Rattle.pnm_chain.proofs.Words.{excludes, takes_argument, most_arguments, is_numeral, spells_number, factor_by, spells_offset, offset_value}
use Rattle.pnm_chain.proofs.Words.{begins_with_dash, without_dash, Item, Argument, Given, Unknown, without_dashes, name_in, value_in, takes_next, given_as}
use Rattle.pnm_chain.proofs.Words.{item_of, arguments_of, option_value, meant_by, IsFormed, is_conflict, is_missing, SpellsTool, SpellTools, SpellsChain}
use Rattle.pnm_chain.proofs.Words.{stage_texts, MAX_EXTENT, MAX_TOOLS}
use Rattle.pnm_chain.specs.StageWords.{items_of}

-- ---- options that are the same

abbrev option_at : ℕ → ToolOption
option_at n =
    if n == 0 then Left else if n == 1 then Right else if n == 2 then Top else if n == 3 then Bottom else if n == 4 then Width
    else if n == 5 then Height else if n == 6 then TupleType else if n == 7 then XScale else YScale

at_slot : (option : ToolOption) → wants_value option ≡ true → option_at (slot_of option) ≡ option
at_slot Left e = refl
at_slot Right e = refl
at_slot Top e = refl
at_slot Bottom e = refl
at_slot Width e = refl
at_slot Height e = refl
at_slot TupleType e = refl
at_slot XScale e = refl
at_slot YScale e = refl
at_slot (Way way) e = absurd cc

wants_by_slot : (option : ToolOption) → wants_value option ≡ not (slot_of option == 9)
wants_by_slot Left = refl
wants_by_slot Right = refl
wants_by_slot Top = refl
wants_by_slot Bottom = refl
wants_by_slot Width = refl
wants_by_slot Height = refl
wants_by_slot TupleType = refl
wants_by_slot XScale = refl
wants_by_slot YScale = refl
wants_by_slot (Way way) = refl

same_option : (one other : ToolOption) → wants_value one ≡ true → excludes one other ≡ true → one ≡ other
same_option one other wants e =
    let slots : slot_of one ≡ slot_of other = eqb-true (slot_of one) (slot_of other) e in
    let wants_other : wants_value other ≡ true = wants_by_slot other ∙ ap (λ (n : ℕ). not (n == 9)) (sym slots) ∙ sym (wants_by_slot one) ∙ wants in
    sym (at_slot one wants) ∙ ap (λ (n : ℕ). option_at n) slots ∙ at_slot other wants_other

-- ---- values of formed items

taken_value : (tool : ToolName) (option : ToolOption) (value : Option (List ℕ)) → wants_value option ≡ true → IsFormed tool (Given option value)
    → takes_value option (unwrap_or value []) ≡ true
taken_value tool option None wants e = absurd (both_ways (wants_value option) e wants)
taken_value tool option (Some word) wants e = e

given_value : (tool : ToolName) (option other : ToolOption) (value : Option (List ℕ)) (rest : Option (List ℕ)) (same : Bool) → excludes option other ≡ same
    → wants_value option ≡ true → IsFormed tool (Given other value)
    → IfSome rest (λ word. takes_value option word ≡ true) → IfSome (if same then Some (unwrap_or value []) else rest) (λ word. takes_value option word ≡ true)
given_value tool option other value rest true is wants e others =
    let equal : option ≡ other = same_option option other wants is in
    taken_value tool option value wants (subst (λ (o : ToolOption). IsFormed tool (Given o value)) (sym equal) e)
given_value tool option other value rest false is wants e others = others

values_taken : (tool : ToolName) (option : ToolOption) (items : List Item) → wants_value option ≡ true → AllByRecursion (IsFormed tool) items
    → IfSome (option_value option items) (λ word. takes_value option word ≡ true)
values_taken tool option [] wants formed = cc
values_taken tool option (Argument word ∷ items) wants formed = values_taken tool option items wants formed.1
values_taken tool option (Given other value ∷ items) wants formed =
    given_value tool option other value (option_value option items) (excludes option other) refl wants formed.0 (values_taken tool option items wants formed.1)
values_taken tool option (Unknown ∷ items) wants formed = values_taken tool option items wants formed.1

arguments_taken : (tool : ToolName) (items : List Item) → AllByRecursion (IsFormed tool) items
    → AllByRecursion (λ word. takes_argument tool word ≡ true) (arguments_of items)
arguments_taken tool [] formed = cc
arguments_taken tool (Argument word ∷ items) formed = (formed.0, arguments_taken tool items formed.1)
arguments_taken tool (Given option value ∷ items) formed = arguments_taken tool items formed.1
arguments_taken tool (Unknown ∷ items) formed = arguments_taken tool items formed.1

-- ---- numbers in their ranges

pub in_range : (least most : ℕ) (word : List ℕ) → spells_number least most word ≡ true → (least ≤ decimal_value word) × (decimal_value word ≤ most)
in_range least most word e =
    let parts = and_parts (is_numeral word) (nat_le least (decimal_value word) && nat_le (decimal_value word) most) e in
    let ends = and_parts (nat_le least (decimal_value word)) (nat_le (decimal_value word) most) parts.1 in
    (leb-true least (decimal_value word) ends.0, leb-true (decimal_value word) most ends.1)

abs_neg : (n : ℕ) → unsigned_abs (neg_ℤ (pos n)) ≡ n
abs_neg zero = refl
abs_neg (suc n) = refl

abs_offset : (dash : Bool) (n : ℕ) → unsigned_abs (if dash then neg_ℤ (pos n) else pos n) ≡ n
abs_offset true n = abs_neg n
abs_offset false n = refl

offset_by_dash : (dash : Bool) (b : ℕ) (word : List ℕ)
    → (if dash then neg_ℤ (pos (decimal_value (if dash then word else b ∷ word))) else pos (decimal_value (b ∷ word)))
    ≡ (if dash then neg_ℤ (pos (decimal_value (if dash then word else b ∷ word))) else pos (decimal_value (if dash then word else b ∷ word)))
offset_by_dash true b word = refl
offset_by_dash false b word = refl

offset_by : (word : List ℕ)
    → offset_value word ≡ (if begins_with_dash word then neg_ℤ (pos (decimal_value (without_dash word))) else pos (decimal_value (without_dash word)))
offset_by [] = refl
offset_by (b ∷ word) = offset_by_dash (b == 45) b word

edge_in_range : (word : List ℕ) → spells_offset word ≡ true → IsEdge (offset_value word)
edge_in_range word e =
    let range = in_range 0 MAX_EXTENT (without_dash word) e in
    let size : unsigned_abs (offset_value word) ≡ decimal_value (without_dash word) = ap (λ (z : ℤ). unsigned_abs z) (offset_by word)
    ∙ abs_offset (begins_with_dash word) (decimal_value (without_dash word)) in
    subst (λ (n : ℕ). n ≤ MAX_EXTENT) (sym size) range.1

-- ---- pamcut

some_edge : (o : Option (List ℕ)) → IfSome o (λ word. spells_offset word ≡ true) → IfSome (option_map offset_value o) IsEdge
some_edge None h = h
some_edge (Some word) h = edge_in_range word h

some_size : (o : Option (List ℕ)) → IfSome o (λ word. spells_number 1 MAX_EXTENT word ≡ true) → IfSome (option_map decimal_value o) IsExtent
some_size None h = h
some_size (Some word) h = in_range 1 MAX_EXTENT word h

abbrev are_three : Option (List ℕ) → Option (List ℕ) → Option (List ℕ) → Bool
are_three start end size =
    is_some (option_map offset_value start) && (is_some (option_map offset_value end) && is_some (option_map decimal_value size))

not_three : (start end size : Option (List ℕ)) → are_three start end size ≡ false → IsSome (option_map offset_value start)
    × IsSome (option_map offset_value end) × IsSome (option_map decimal_value size) → ⊥
not_three None end size e h = false≢true h.0
not_three (Some start) None size e h = false≢true h.1
not_three (Some start) (Some end) None e h = false≢true h.2
not_three (Some start) (Some end) (Some size) e h = absurd cc

axis : (start end size : Option (List ℕ)) → IfSome start (λ word. spells_offset word ≡ true) → IfSome end (λ word. spells_offset word ≡ true)
    → IfSome size (λ word. spells_number 1 MAX_EXTENT word ≡ true)
    → are_three start end size ≡ false → IsLawfulAxis (option_map offset_value start) (option_map offset_value end)
    (option_map decimal_value size)
axis start end size s e z three =
    record { start_edge = some_edge start s; end_edge = some_edge end e; one_size = some_size size z; one_free = λ h. not_three start end size three h }

-- ---- arguments

first_in_range : (least most : ℕ) (args : List (List ℕ)) → AllByRecursion (λ word. spells_number least most word ≡ true) args
    → nat_lt (length (map decimal_value args)) 1 ≡ false
    → (least ≤ slice_index_or (map decimal_value args) 0 0) × (slice_index_or (map decimal_value args) 0 0 ≤ most)
first_in_range least most [] all e = absurd cc
first_in_range least most (word ∷ args) all e = in_range least most word all.0

first_of_two : (args : List (List ℕ)) → AllByRecursion (λ word. spells_number 1 MAX_EXTENT word ≡ true) args
    → nat_lt (length (map decimal_value args)) 2 ≡ false
    → (1 ≤ slice_index_or (map decimal_value args) 0 0) × (slice_index_or (map decimal_value args) 0 0 ≤ MAX_EXTENT)
first_of_two [] all e = absurd cc
first_of_two (word ∷ args) all e = in_range 1 MAX_EXTENT word all.0

second_of_two : (args : List (List ℕ)) → AllByRecursion (λ word. spells_number 1 MAX_EXTENT word ≡ true) args
    → nat_lt (length (map decimal_value args)) 2 ≡ false
    → (1 ≤ slice_index_or (map decimal_value args) 1 0) × (slice_index_or (map decimal_value args) 1 0 ≤ MAX_EXTENT)
second_of_two [] all e = absurd cc
second_of_two (word ∷ []) all e = absurd cc
second_of_two (word ∷ other ∷ args) all e = in_range 1 MAX_EXTENT other all.1.0

abbrev IsPlane : ℕ → Type 0
IsPlane number = number ≤ MAX_DEPTH - 1

planes_in_range : (args : List (List ℕ)) → AllByRecursion (λ word. spells_number 0 (MAX_DEPTH - 1) word ≡ true) args → All IsPlane (map decimal_value args)
planes_in_range [] all = All-nil IsPlane
planes_in_range (word ∷ args) all = All-cons IsPlane (decimal_value word) (map decimal_value args) (in_range 0 (MAX_DEPTH - 1) word all.0).1
    (planes_in_range args all.1)

scale_in_range : (scale : Option (List ℕ)) → IfSome scale (λ word. spells_number 1 MAX_EXTENT word ≡ true) → (1 ≤ unwrap_or (option_map decimal_value scale) 1)
    × (unwrap_or (option_map decimal_value scale) 1 ≤ MAX_EXTENT)
scale_in_range None h = (omega arith, omega arith)
scale_in_range (Some word) h = in_range 1 MAX_EXTENT word h

factor_in_range : (args : List (List ℕ)) (scale : Option (List ℕ)) → AllByRecursion (λ word. spells_number 1 MAX_EXTENT word ≡ true) args
    → IfSome scale (λ word. spells_number 1 MAX_EXTENT word ≡ true)
    → (1 ≤ factor_by (map decimal_value args) (option_map decimal_value scale))
    × (factor_by (map decimal_value args) (option_map decimal_value scale) ≤ MAX_EXTENT)
factor_in_range [] scale all h = scale_in_range scale h
factor_in_range (word ∷ args) scale all h = in_range 1 MAX_EXTENT word all.0

-- ---- words and values without white space

abbrev no_white : List ℕ → Bool
no_white word = list_all (λ b. not (is_white b)) word

black : (b : ℕ) (white : Bool) → is_white b ≡ white → white ≡ false → not (is_white b) ≡ true
black b true e f = absurd cc
black b false e f = rw e refl

abbrev AreWords : List (List ℕ) → Type 0
AreWords found = AllByRecursion (λ word. no_white word ≡ true) found

onto_is : (b : ℕ) (others : List (List ℕ)) → not (is_white b) ≡ true → AreWords others → AreWords (onto_first b others)
onto_is b [] e h = (and_from (not (is_white b)) true e refl, cc)
onto_is b (word ∷ others) e h = (and_from (not (is_white b)) (no_white word) e h.0, h.1)

by_byte : (white begins : Bool) (b : ℕ) (others : List (List ℕ)) → is_white b ≡ white → AreWords others → AreWords (words_by white begins b others)
by_byte true begins b others e h = h
by_byte false true b others e h = onto_is b others (black b false e refl) h
by_byte false false b others e h = (and_from (not (is_white b)) true (black b false e refl) refl, h)

words_have_no_white : (text : List ℕ) → AreWords (words text)
words_have_no_white [] = subst AreWords (sym words-nil) cc
words_have_no_white (b ∷ text) =
    subst AreWords (sym (words-cons b text)) (by_byte (is_white b) (begins_in_word text) b (words text) refl (words_have_no_white text))

without_prefix : (n : ℕ) (word : List ℕ) → no_white word ≡ true → no_white (drop n word) ≡ true
without_prefix zero word e = e
without_prefix (suc n) [] e = refl
without_prefix (suc n) (b ∷ word) e = without_prefix n word (and_parts (not (is_white b)) (no_white word) e).1

dash_by : (dash : Bool) (b : ℕ) (word : List ℕ) → no_white (b ∷ word) ≡ true → no_white (if dash then word else b ∷ word) ≡ true
dash_by true b word e = (and_parts (not (is_white b)) (no_white word) e).1
dash_by false b word e = e

undashed : (word : List ℕ) → no_white word ≡ true → no_white (without_dash word) ≡ true
undashed [] e = refl
undashed (b ∷ word) e = dash_by (b == 45) b word e

value_by : (any : Bool) (word : List ℕ) → no_white word ≡ true
    → IfSome (if any then Some (after_first (λ b. b == 61) word) else None) (λ value. no_white value ≡ true)
value_by true word e = without_prefix (position_or_len (λ b. b == 61) word + 1) word e
value_by false word e = cc

value_has_no_white : (word : List ℕ) → no_white word ≡ true → IfSome (value_in word) (λ value. no_white value ≡ true)
value_has_no_white word e = value_by (list_any (λ b. b == 61) (without_dashes word)) (without_dashes word) (undashed (without_dash word) (undashed word e))

-- ---- items without white space

abbrev HasNoWhite : Item → Type 0
HasNoWhite (Argument word) = no_white word ≡ true
HasNoWhite (Given option value) = IfSome value (λ word. no_white word ≡ true)
HasNoWhite Unknown = Unit {0}

among : (value next : Option (List ℕ)) → IfSome value (λ word. no_white word ≡ true) → IfSome next (λ word. no_white word ≡ true)
    → IfSome (option_or value next) (λ word. no_white word ≡ true)
among None next h k = k
among (Some value) next h k = h

given_clear : (option : Option ToolOption) (value : Option (List ℕ)) → IfSome value (λ word. no_white word ≡ true) → HasNoWhite (given_as option value)
given_clear None value h = cc
given_clear (Some option) value h = h

item_by : (dash : Bool) (option : Option ToolOption) (value : Option (List ℕ)) (word : List ℕ) → no_white word ≡ true → IfSome value (λ w. no_white w ≡ true)
    → HasNoWhite (if dash then given_as option value else Argument word)
item_by true option value word e h = given_clear option value h
item_by false option value word e h = e

item_clear : (tool : ToolName) (word : List ℕ) (next : Option (List ℕ)) → no_white word ≡ true → IfSome next (λ w. no_white w ≡ true)
    → HasNoWhite (item_of tool word next)
item_clear tool word next e h = item_by (begins_with_dash word) (option_named tool (name_in word)) (option_or (value_in word) next) word e
    (among (value_in word) next (value_has_no_white word e) h)

abbrev items_by : Bool → ToolName → List ℕ → List ℕ → List Item → List Item → List Item
items_by takes tool word next after_next after_word = if takes then item_of tool word (Some next) ∷ after_next else item_of tool word None ∷ after_word

items_clear_by : (takes : Bool) (tool : ToolName) (word next : List ℕ) (after_next after_word : List Item) → no_white word ≡ true → no_white next ≡ true
    → AllByRecursion HasNoWhite after_next → AllByRecursion HasNoWhite after_word
    → AllByRecursion HasNoWhite (items_by takes tool word next after_next after_word)
items_clear_by true tool word next after_next after_word e f h k = (item_clear tool word (Some next) e f, h)
items_clear_by false tool word next after_next after_word e f h k = (item_clear tool word None e cc, k)

items_clear : (tool : ToolName) (found : List (List ℕ)) → AreWords found → AllByRecursion HasNoWhite (items_of tool found)
unfolding items_of
items_clear tool [] h = cc
items_clear tool (word ∷ []) h = (item_clear tool word None h.0 cc, cc)
items_clear tool (word ∷ next ∷ found) h =
    items_clear_by (takes_next tool word) tool word next (items_of tool found) (items_of tool (next ∷ found)) h.0 h.1.0 (items_clear tool found h.1.1)
    (items_clear tool (next ∷ found) h.1)

clear_value : (value : Option (List ℕ)) → IfSome value (λ word. no_white word ≡ true) → no_white (unwrap_or value []) ≡ true
clear_value None h = refl
clear_value (Some word) h = h

clear_by : (same : Bool) (value rest : Option (List ℕ)) → IfSome value (λ word. no_white word ≡ true) → IfSome rest (λ word. no_white word ≡ true)
    → IfSome (if same then Some (unwrap_or value []) else rest) (λ word. no_white word ≡ true)
clear_by true value rest h k = clear_value value h
clear_by false value rest h k = k

value_clear : (option : ToolOption) (items : List Item) → AllByRecursion HasNoWhite items → IfSome (option_value option items) (λ word. no_white word ≡ true)
value_clear option [] h = cc
value_clear option (Argument word ∷ items) h = value_clear option items h.1
value_clear option (Given other value ∷ items) h = clear_by (excludes option other) value (option_value option items) h.0 (value_clear option items h.1)
value_clear option (Unknown ∷ items) h = value_clear option items h.1

-- ---- a tuple type

each_black : (word : List ℕ) → no_white word ≡ true → All (λ b. is_white b ≡ false) word
each_black [] e = All-nil (λ b. is_white b ≡ false)
each_black (b ∷ word) e =
    let parts = and_parts (not (is_white b)) (no_white word) e in
    All-cons (λ c. is_white c ≡ false) b word (not-true (is_white b) parts.0) (each_black word parts.1)

no_line_end : (b : ℕ) → is_white b ≡ false → b ≢ 10
no_line_end b e = grind (arith, nat_tests)

no_blank : (b : ℕ) → is_white b ≡ false → is_blank b ≡ false
no_blank b e = grind (arith, nat_tests)

is_tuple_type : (word : List ℕ) → no_white word ≡ true → length word ≤ MAX_TUPLE_TYPE_LENGTH → IsTupleType word
is_tuple_type word e short =
    let all = each_black word e in
    record {
      short = short;
      one_line = λ k d lt. no_line_end (slice_index_or word k d) (all k d lt);
      first = λ some. no_blank (slice_index word 0) (all 0 0 some);
      last = λ some. no_blank (slice_index word (length word - 1)) (all (length word - 1) 0 (omega arith));
    }

some_tuple_type : (value : Option (List ℕ)) → IfSome value (λ word. takes_value TupleType word ≡ true) → IfSome value (λ word. no_white word ≡ true)
    → IsTupleType (unwrap_or value [])
some_tuple_type None h k = is_tuple_type [] refl (omega arith)
some_tuple_type (Some word) h k = is_tuple_type word k (leb-true (length word) MAX_TUPLE_TYPE_LENGTH h)

-- ---- a tool

lawful : (tool : ToolName) (items : List Item) → AllByRecursion HasNoWhite items → AllByRecursion (IsFormed tool) items
    → length (arguments_of items) ≤ most_arguments tool
    → is_conflict tool items ≡ false → is_missing tool items ≡ false → IsLawfulTool (meant_by tool items)
lawful Invert items clear formed many together more = cc
lawful Cut items clear formed many together more =
    let free = or_parts (are_three (option_value Left items) (option_value Right items) (option_value Width items))
    (are_three (option_value Top items) (option_value Bottom items) (option_value Height items)) together in
    record {
      columns = axis (option_value Left items) (option_value Right items) (option_value Width items) (values_taken Cut Left items refl formed)
          (values_taken Cut Right items refl formed) (values_taken Cut Width items refl formed) free.0;
      rows = axis (option_value Top items) (option_value Bottom items) (option_value Height items) (values_taken Cut Top items refl formed)
          (values_taken Cut Bottom items refl formed) (values_taken Cut Height items refl formed) free.1;
    }
lawful Depth items clear formed many together more = first_in_range 1 MAX_MAXVAL (arguments_of items) (arguments_taken Depth items formed) more
lawful Channel items clear formed many together more = record {
  some = ltb-false (length (map decimal_value (arguments_of items))) 1 more;
  not_many = subst (λ (n : ℕ). n ≤ MAX_DEPTH) (sym (length-map (arguments_of items) decimal_value)) many;
  in_range = planes_in_range (arguments_of items) (arguments_taken Channel items formed);
  tuple_type = some_tuple_type (option_value TupleType items) (values_taken Channel TupleType items refl formed) (value_clear TupleType items clear);
}
lawful Enlarge items clear formed many together more = (
  factor_in_range (arguments_of items) (option_value XScale items) (arguments_taken Enlarge items formed) (values_taken Enlarge XScale items refl formed),
  factor_in_range (arguments_of items) (option_value YScale items) (arguments_taken Enlarge items formed) (values_taken Enlarge YScale items refl formed),
)
lawful Flip items clear formed many together more = cc
lawful Tile items clear formed many together more =
    (first_of_two (arguments_of items) (arguments_taken Tile items formed) more, second_of_two (arguments_of items) (arguments_taken Tile items formed) more)

rest_clear : (stage first : List ℕ) (others : List (List ℕ)) → words stage ≡ first ∷ others → AreWords others
rest_clear stage first others e = (subst AreWords e (words_have_no_white stage)).1

pub spelled_is_lawful : (stage : List ℕ) (tool : Tool) → SpellsTool stage tool → IsLawfulTool tool
spelled_is_lawful stage tool h =
    subst IsLawfulTool (sym h.meant.meaning_is)
    (lawful h.tool_name (items_of h.tool_name h.others) (items_clear h.tool_name h.others (rest_clear stage h.name h.others h.words_are)) h.meant.formed
    h.meant.not_many h.meant.together h.meant.enough)

-- ---- a chain

spelled_are_lawful : (stages : List (List ℕ)) (tools : List Tool) → SpellTools stages tools → AreLawfulTools tools
spelled_are_lawful [] [] h = cc
spelled_are_lawful [] (tool ∷ tools) h = absurd h
spelled_are_lawful (stage ∷ stages) [] h = absurd h
spelled_are_lawful (stage ∷ stages) (tool ∷ tools) h = (spelled_is_lawful stage tool h.0, spelled_are_lawful stages tools h.1)

as_many : (stages : List (List ℕ)) (tools : List Tool) → SpellTools stages tools → length tools ≡ length stages
as_many [] [] h = refl
as_many [] (tool ∷ tools) h = absurd h
as_many (stage ∷ stages) [] h = absurd h
as_many (stage ∷ stages) (tool ∷ tools) h = ap (λ (n : ℕ). suc n) (as_many stages tools h.1)

pub spelled_chain_is_lawful : (text : List ℕ) (tools : List Tool) → SpellsChain text tools → IsChain tools
spelled_chain_is_lawful text tools h =
    let count : length tools ≡ length (stage_texts text) = as_many (stage_texts text) tools h.spelled in
    let parts = length-slice_split (λ b. b == 124) text in
    record {
      some = subst (λ (n : ℕ). 1 ≤ n) (sym (count ∙ parts)) (omega arith);
      not_many = subst (λ (n : ℕ). n ≤ MAX_TOOLS) (sym count) h.not_many;
      lawful = spelled_are_lawful (stage_texts text) tools h.spelled;
    }
