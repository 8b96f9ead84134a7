-- That words which are no command line are refused for one reason alone, so that none ask for help and for the version.
use Rattle.std.proofs.Common.{◌≡◌, ◌==◌, ◌&&◌, ◌∙◌, ℕ, zero, suc, Bool, true, false, not, List, [], ◌∷◌, Option, Some, None, inl, inr, refl, sym, subst}
use Rattle.std.specs.Prelude.{⊤, is_some, if◌then◌else◌, nat_lt, length, encode_utf8, drop, slice_get}
use Rattle.std.specs.Option.{option_map_or}
use Rattle.std.specs.Str.{bytes_eq, chars}
use Rattle.clap.specs.Lexer.{long_of, short_of}
use Rattle.clap.specs.Facts.{parser_of_value, unwrap_or_range}
use Rattle.clap.specs.Values.{refused_kind}
use Rattle.clap.specs.ValueTests.{accepts}
use Rattle.clap.specs.Walk.{Held, Row, Rule, Step, Text, Waiting, Walk, action_of, arg_by_id, arg_by_index, arg_by_long, arg_by_short}
use Rattle.clap.specs.Walk.{attached_value, finished, has_row, idle, is_pending, most_values, next, nothing_held, option}
use Rattle.clap.specs.Walk.{positional, reacted, settled, subcommand, takes_several, takes_values, trailing, value, values_or_missing, walk}
use Rattle.clap.specs.Walk.{walk_from, walked, with_default, word_met}
use Rattle.clap.specs.Simple.{Shape, argument_words, built}
use Rattle.clap.specs.Kinds.{IsAmong, Kinds, check_kinds, or_else, range_kinds, request_kinds, value_kinds, values_kinds}
use Rattle.clap.specs.Faults.{action_fault, bundle_fault, bundle_step_fault, check_fault, count_fault, default_fault, defaults_fault, fault_of}
use Rattle.clap.specs.Faults.{flag_word_fault, flags_fault, level_fault, long_fault, option_fault, other_fault, positional_fault, react_fault}
use Rattle.clap.specs.Faults.{repeat_fault, set_fault, settle_fault, short_fault, step_fault, turn_fault, use_fault, values_fault, walk_fault}
use Rattle.clap.specs.Faults.{word_fault}
use Rattle.clap.specs.declared.builder.action.ArgAction.{ArgAction}
use Rattle.clap.specs.declared.builder.action.ArgAction.TheVariants as action
use Rattle.clap.specs.declared.builder.value_parser.ValueParser.{ValueParser}
use Rattle.clap.specs.declared.error.kind.ErrorKind.TheVariants as kind
use Rattle.clap.proofs.FaultLemmas.{leaf_fault}
use Rattle.clap.proofs.OnLiterals.{clap_on_literals}
use Rattle.pnm_command_line.specs.CommandLine.{AsksForHelp, AsksForVersion, program}

-- no kind, or one
abbrev AtMostOne : Kinds → Type 0
AtMostOne [] = ⊤
AtMostOne (k ∷ []) = ⊤
AtMostOne (k ∷ l ∷ ks) = ⊥

one_of_two : (a b : Kinds) → AtMostOne a → AtMostOne b → AtMostOne (or_else a b)
one_of_two [] b first second = second
one_of_two (k ∷ ks) b first second = first

one_by : (t : Bool) (a b : Kinds) → AtMostOne a → AtMostOne b → AtMostOne (if t then a else b)
one_by true a b first second = first
one_by false a b first second = second

one_of_option : {X : Type 0} (f : X → Kinds) (o : Option X) (none : Kinds) → ((x : X) → AtMostOne (f x)) → AtMostOne none
    → AtMostOne (option_map_or f o none)
one_of_option f None none each otherwise = otherwise
one_of_option f (Some x) none each otherwise = each x

-- ---- one use of an argument

one_of_value : (i : Bool) (p : ValueParser) (t : Text) → AtMostOne (value_kinds i p t)
one_of_value i p t = one_by (accepts i p t) [] (refused_kind p ∷ []) tt tt

one_of_values : (i : Bool) (p : ValueParser) (ts : List Text) → AtMostOne (values_kinds i p ts)
one_of_values i p [] = tt
one_of_values i p (t ∷ ts) = one_of_two (value_kinds i p t) (values_kinds i p ts) (one_of_value i p t) (one_of_values i p ts)

one_of_range : (least most n : ℕ) → AtMostOne (range_kinds least most n)
one_of_range least most n =
    one_by (nat_lt 0 least && n == 0) _ _ tt
    (one_by (least == most) _ _ (one_by (least == n) _ _ tt tt) (one_by (nat_lt n least) _ _ tt (one_by (nat_lt most n) _ _ tt tt)))

one_of_request : (x : ArgAction) → AtMostOne (request_kinds x)
one_of_request action.Set = tt
one_of_request action.Append = tt
one_of_request action.SetTrue = tt
one_of_request action.SetFalse = tt
one_of_request action.Count = tt
one_of_request action.Help = tt
one_of_request action.HelpShort = tt
one_of_request action.HelpLong = tt
one_of_request action.Version = tt

one_of_set : (again : Bool) (a : Rule) (values : List Text) (rows : List Row) → AtMostOne (set_fault again a values rows)
one_of_set again a values rows = one_of_two (repeat_fault again a.id rows) (values_fault a values)
    (one_by (has_row a.id rows && not again) (kind.ArgumentConflict ∷ []) [] tt tt) (one_of_values a.ignore_case (parser_of_value a.parser) values)

one_of_count : (a : Rule) (values : List Text) (rows : List Row) → AtMostOne (count_fault a values rows)
one_of_count a [] rows = one_by _ [] (refused_kind (parser_of_value a.parser) ∷ []) tt tt
one_of_count a (v ∷ vs) rows = one_of_values a.ignore_case (parser_of_value a.parser) (v ∷ vs)

one_of_action : (x : ArgAction) (again : Bool) (a : Rule) (values : List Text) (rows : List Row) → AtMostOne (action_fault x again a values rows)
one_of_action action.Set again a values rows = one_of_set again a values rows
one_of_action action.SetTrue again a values rows = one_of_set again a values rows
one_of_action action.SetFalse again a values rows = one_of_set again a values rows
one_of_action action.Append again a values rows = one_of_values a.ignore_case (parser_of_value a.parser) values
one_of_action action.Count again a values rows = one_of_count a values rows
one_of_action action.Help again a values rows = tt
one_of_action action.HelpShort again a values rows = tt
one_of_action action.HelpLong again a values rows = tt
one_of_action action.Version again a values rows = tt

one_of_use : (again : Bool) (a : Rule) (values : List Text) (rows : List Row) → AtMostOne (use_fault again a values rows)
one_of_use again a values rows = one_of_two _ _ (one_of_range (unwrap_or_range a.range).start_inclusive (most_values a) (length values))
    (one_of_action (action_of a) again a (values_or_missing a values) rows)

-- ---- a word

one_of_settle : (c : List Rule) (again : Bool) (h : Held) → AtMostOne (settle_fault c again h)
one_of_settle c again h = one_of_option (λ p. option_map_or (λ a. use_fault again a p.1 h.rows) (arg_by_id c p.0) []) h.pending []
    (λ p. one_of_option (λ a. use_fault again a p.1 h.rows) (arg_by_id c p.0) [] (λ a. one_of_use again a p.1 h.rows) tt) tt

one_of_react : (c : List Rule) (again : Bool) (a : Rule) (values : List Text) (h : Held) → AtMostOne (react_fault c again a values h)
one_of_react c again a values h = one_of_two (settle_fault c again h) (use_fault again a values (settled c h).rows) (one_of_settle c again h)
    (one_of_use again a values (settled c h).rows)

one_of_valued : (c : List Rule) (again : Bool) (a : Rule) (v : Option Text) (h : Held) → AtMostOne (option_fault c again a v h)
one_of_valued c again a (Some v) h = one_of_react c again a (v ∷ []) h
one_of_valued c again a None h = one_of_settle c again h

one_of_long : (c : List Rule) (again : Bool) (o : Option Rule) (v : Option Text) (h : Held) → AtMostOne (long_fault c again o v h)
one_of_long c again None v h = tt
one_of_long c again (Some a) v h = one_by (takes_values a) _ _ (one_of_valued c again a v h)
    (one_by (is_some v) (kind.TooManyValues ∷ []) _ tt (one_of_react c again a [] h))

one_of_short : (c : List Rule) (again : Bool) (o : Option Rule) (rest : Text) (h : Held) (later : Held → Kinds) → ((x : Held) → AtMostOne (later x))
    → AtMostOne (short_fault c again o rest h later)
one_of_short c again None rest h later each = tt
one_of_short c again (Some a) rest h later each = one_by (takes_values a) _ _ (one_of_valued c again a (attached_value rest) h)
    (one_of_two _ _ (one_of_react c again a [] h) (each (reacted c a [] h)))

one_of_flag : (c : List Rule) (again : Bool) (o : Option ℕ) (flags : Text) (skip : ℕ) (h : Held) (later : Text → ℕ → Held → Kinds)
    → ((t : Text) (n : ℕ) (x : Held) → AtMostOne (later t n x)) → AtMostOne (bundle_step_fault c again o flags skip h later)
one_of_flag c again None flags skip h later each = tt
one_of_flag c again (Some x) flags zero h later each =
    let rest = drop (length (encode_utf8 x)) flags in
    one_of_short c again (arg_by_short c x) rest h (later rest 0) (each rest 0)
one_of_flag c again (Some x) flags (suc skip) h later each = each (drop (length (encode_utf8 x)) flags) skip h

one_of_flags : (c : List Rule) (again : Bool) (k : ℕ) (flags : Text) (skip : ℕ) (h : Held) → AtMostOne (flags_fault c again k flags skip h)
unfolding flags_fault
one_of_flags c again zero flags skip h = tt
one_of_flags c again (suc k) flags skip h =
    one_of_flag c again (slice_get (chars flags) 0) flags skip h (flags_fault c again k) (one_of_flags c again k)

one_of_flag_word : (c : List Rule) (again : Bool) (o : Option (Text × Option Text)) (word : Text) (h : Held) → AtMostOne (flag_word_fault c again o word h)
one_of_flag_word c again (Some p) word h = one_of_long c again (arg_by_long c p.0) p.1 h
one_of_flag_word c again None word h = one_of_option (λ flags. bundle_fault c again flags h) (short_of word) []
    (λ flags. one_of_flags c again (length flags) flags h.skip (record h { skip = 0 })) tt

one_of_other : (s : Shape) (word : Text) (h : Held) → AtMostOne (other_fault s None word h)
one_of_other s word h = one_by (bytes_eq word (45 ∷ 45 ∷ [])) [] _ tt (one_of_flag_word s.rules s.args_override_self (long_of word) word h)

one_of_word : (s : Shape) (is_trailing : Bool) (waiting : Waiting) (word : Text) (h : Held) → AtMostOne (word_fault s [] is_trailing waiting word h)
one_of_word s true waiting word h = tt
one_of_word s false idle word h = one_of_other s word h
one_of_word s false (option id) word h = one_of_other s word h
one_of_word s false positional word h = one_of_other s word h

-- ---- all words, of a command with no subcommand

one_of_stray : (b : Bool) → b ≡ true → AtMostOne (if b then kind.UnknownArgument ∷ [] else kind.UnknownArgument ∷ kind.InvalidSubcommand ∷ [])
one_of_stray true leaf = tt
one_of_stray false leaf = absurd cc

one_of_step : (s : Shape) → s.is_leaf ≡ true → (position : ℕ) (h : Held) (step : Step) → AtMostOne (step_fault s position h step)
one_of_step s leaf position h (next waiting) = tt
one_of_step s leaf position h (trailing n) = tt
one_of_step s leaf position h (subcommand name) = tt
one_of_step s leaf position h value = one_of_option (λ a. positional_fault s.rules s.args_override_self a h) (arg_by_index s.rules position) _
    (λ a. one_by (is_pending a h.pending && takes_several a) [] _ tt (one_of_settle s.rules s.args_override_self h)) (one_of_stray s.is_leaf leaf)

one_of_turn : (s : Shape) → s.is_leaf ≡ true → (w : Walk) (word : Text) → AtMostOne (turn_fault s [] w word)
one_of_turn s leaf w word =
    let met = word_met s.rules [] w.is_trailing w.waiting w.position word w.held in
    one_by (is_some w.stopped) [] _ tt
    (one_of_two (word_fault s [] w.is_trailing w.waiting word w.held) (step_fault s w.position met.0 met.1)
    (one_of_word s w.is_trailing w.waiting word w.held) (one_of_step s leaf w.position met.0 met.1))

one_of_walk : (s : Shape) → s.is_leaf ≡ true → (w : Walk) (words : List Text) → AtMostOne (walk_fault s [] w words)
unfolding walk_fault
one_of_walk s leaf w [] = tt
one_of_walk s leaf w (word ∷ rest) = one_of_two (turn_fault s [] w word) (walk_fault s [] (walked s.rules [] w word) rest)
    (one_of_turn s leaf w word) (one_of_walk s leaf (walked s.rules [] w word) rest)

one_of_default : (rows : List Row) (a : Rule) → AtMostOne (default_fault rows a)
one_of_default rows a = one_by _ [] _ tt
    (one_of_two (request_kinds (action_of a)) (values_fault a a.defaults) (one_of_request (action_of a))
    (one_of_values a.ignore_case (parser_of_value a.parser) a.defaults))

one_of_defaults : (rows : List Row) (rules : List Rule) → AtMostOne (defaults_fault rows rules)
unfolding defaults_fault
one_of_defaults rows [] = tt
one_of_defaults rows (a ∷ rest) = one_of_two (default_fault rows a) (defaults_fault (with_default rows a) rest) (one_of_default rows a)
    (one_of_defaults (with_default rows a) rest)

one_of_checks : (a b c : Bool) → AtMostOne (check_kinds a b c)
one_of_checks true b c = tt
one_of_checks false true c = tt
one_of_checks false false true = tt
one_of_checks false false false = tt

one_of_level : (s : Shape) → s.is_leaf ≡ true → (h : Held) (words : List Text) → AtMostOne (level_fault s [] h words false [])
one_of_level s leaf h words =
    let end = (walk s.rules [] h words).held in
    let rows = (settled s.rules end).rows in
    one_of_two (walk_fault s [] (walk_from h) words) _ (one_of_walk s leaf (walk_from h) words)
    (one_of_two (settle_fault s.rules s.args_override_self end) _ (one_of_settle s.rules s.args_override_self end)
    (one_of_two (defaults_fault rows s.rules) (check_fault s (finished s.rules end) false) (one_of_defaults rows s.rules) (one_of_checks _ _ _)))

one_of_words : (words : List Text) → AtMostOne (fault_of program words)
unfolding clap_on_literals
one_of_words words = subst AtMostOne (sym (leaf_fault (built program) nothing_held (argument_words program words) refl))
    (one_of_level (built program).top refl nothing_held (argument_words program words))

-- words ask for help or for the version, and never for both
pub asks_once : (words : List Text) → AsksForHelp words → AsksForVersion words → ⊥
asks_once words help version = go (fault_of program words) (one_of_words words) help version
  where
    go : (ks : Kinds) → AtMostOne ks → IsAmong kind.DisplayHelp ks → IsAmong kind.DisplayVersion ks → ⊥
    go [] one h v = h
    go (k ∷ []) one (inl h) (inl v) =
        let bad : kind.DisplayHelp ≡ kind.DisplayVersion = h ∙ sym v in
        absurd cc
    go (k ∷ []) one (inl h) (inr none) = none
    go (k ∷ []) one (inr none) v = none
    go (k ∷ l ∷ ks) one h v = one
