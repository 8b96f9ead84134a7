-- What a parse of the words by the program's command gives.
use Rattle.pnm_image.specs.declared.format.Form.TheVariants.{Raw}
use Rattle.std.proofs.Common.{◌≡◌, ◌∙◌, ◌<◌, ◌≤◌, ℕ, zero, suc, Bool, true, false, not, List, [], ◌∷◌, length, map, codes, Option, Some, None, is_some, inl}
use Rattle.std.proofs.Common.{inr, refl, sym, ap, subst, arith, slice_index}
use Rattle.std.specs.Prelude.{◌^◌, Result, Ok, pos}
use Rattle.std.specs.List.{list_all, slice_index_or}
use Rattle.std.specs.Str.{bytes_eq}
use Rattle.std.specs.Str.Parse.{ParsesBool, ParsesUnsigned}
use Rattle.std.proofs.lemmas.Bool.{not-true}
use Rattle.std.proofs.lemmas.List.{get_or-map, length-map}
use Rattle.clap.specs.Words.{IsSignedIn, ReadsOne, App, items_of, one_text, without_minus, Rule, Shape, Text, FailsBy, HasKind, HasMatchesOf, IsAmong}
use Rattle.clap.specs.Words.{IsParsedFrom, IsPlain, app_of, args_of, fault_of, first_of, first_value, found_of, is_simple, is_simple_and_free, kind_of, one_of}
use Rattle.clap.specs.Words.{rule_of, shape_of}
use Rattle.std.specs.Borrow.{Bor}
use Rattle.clap.specs.Walk.{is_empty, is_simple_arg, texts}
use Rattle.clap.specs.Facts.{least_values, unwrap_or_range}
use Rattle.clap.specs.Built.{IsAuto}
use Rattle.clap.specs.Faults.{has_free_rules}
use Rattle.clap.specs.Simple.{IsSimple, is_ready, is_ready_leaf}
use Rattle.clap.specs.declared.builder.arg.Arg.{Arg}
use Rattle.clap.specs.declared.builder.value_parser.ValueParser.TheVariants.{Signed}
use Rattle.clap.specs.declared.builder.command.Command.{Command}
use Rattle.clap.specs.declared.builder.command.Command.TheViews.{out-Command}
use Rattle.clap.specs.declared.builder.range.ValueRange.{ValueRange}
use Rattle.clap.specs.declared.error.Error.{Error}
use Rattle.clap.specs.declared.error.kind.ErrorKind.{ErrorKind}
use Rattle.clap.specs.declared.error.kind.ErrorKind.TheVariants.{DisplayHelp, DisplayVersion, OutOfMemory}
use Rattle.clap.specs.declared.parser.matches.ArgMatches.{ArgMatches}
use Rattle.clap.proofs.CallerLemmas.{required_has_value}
use Rattle.clap.proofs.CallerReads.{signed_reads}
use Rattle.clap.proofs.FaultLemmas.{free_args}
use Rattle.clap.proofs.OnLiterals.{clap_on_literals}
use Rattle.clap.proofs.SimpleLemmas.{plain_fields, ready_simple, simple_groups, HasPlainFields}
use Rattle.clap.proofs.WalkLemmas.{both, first_value-rows, one_text-rows}
use Rattle.pnm_command_line.proofs.DefaultReads.{default_reads}
use Rattle.pnm_lanes.specs.declared.lane.TheConstants.{MAX_LANES}
use Rattle.pnm_stages.specs.declared.ring.TheConstants.{MAX_RING_CAPACITY}
use Rattle.pnm_command_line.specs.CommandLine.{program, chain_rule, lanes_rule, plain_rule, value_text, number_rule, ring_rule, GivesChain}
use Rattle.pnm_command_line.specs.Internal.CommandLine.{form_by, FitsKind}
use Rattle.pnm_command_line.specs.CommandLine.{GivesForm, GivesLanes, GivesNumber, GivesRing, IsFaultOfWords}
use Rattle.pnm_command_line.specs.declared.command_line.CommandLineFault.{CommandLineFault}
use Rattle.pnm_command_line.specs.declared.command_line.CommandLineFault.TheVariants.{Help, Version, Usage, Memory}

-- `clap` says which words it takes by such a command, and why it refuses others
program_is_simple : is_simple program ≡ true
unfolding clap_on_literals
program_is_simple = refl

program_is_free : is_simple_and_free program ≡ true
unfolding clap_on_literals
program_is_free = refl

-- a parse by a command that reads like the program's fails as that does
pub parse_fails : {T : Type 0} (a : App) (words : List Text) (r : Result T Error) → a ≡ program
    → (is_simple_and_free a ≡ true → FailsBy (fault_of a words) r) → FailsBy (fault_of program words) r
parse_fails a words r same fails = subst (λ (x : App). is_simple_and_free x ≡ true → FailsBy (fault_of x words) r) same fails program_is_free

-- the fault that is made of an error fits the words
pub fault_fits : (words : List Text) (e : Error) (fault : CommandLineFault) → HasKind (fault_of program words) e → FitsKind (kind_of e) fault
    → IsFaultOfWords words fault
fault_fits words e (Help text) (inl memory) fits =
    let bad : DisplayHelp ≡ OutOfMemory = sym fits ∙ memory in
    cc
fault_fits words e (Help text) (inr among) fits = subst (λ (k : ErrorKind). IsAmong k (fault_of program words)) fits among
fault_fits words e Version (inl memory) fits =
    let bad : DisplayVersion ≡ OutOfMemory = sym fits ∙ memory in
    cc
fault_fits words e Version (inr among) fits = subst (λ (k : ErrorKind). IsAmong k (fault_of program words)) fits among
fault_fits words e Usage (inl memory) fits = absurd (fits.2 memory)
fault_fits words e Usage (inr among) fits = (kind_of e, fits.0, fits.1, among)
fault_fits words e Memory has fits = tt

-- an argument with a simple rule is its command's own
simple_is_local : (a : Arg) → is_simple_arg a ≡ true → a.global ≡ false
simple_is_local a all =
    let ifs = both (is_empty a.overrides.items) _ all in
    let groups = both (is_empty a.default_vals_ifs.items) _ ifs.1 in
    let delimiter = both (is_empty a.groups.items) _ groups.1 in
    let terminator = both (not (is_some a.val_delim)) _ delimiter.1 in
    let hyphens = both (not (is_some a.terminator)) _ terminator.1 in
    let negatives = both (not a.allow_hyphen_values) _ hyphens.1 in
    let equals = both (not a.allow_negative_numbers) _ negatives.1 in
    let last = both (not a.require_equals) _ equals.1 in
    let global = both (not a.last) _ last.1 in
    not-true a.global global.1

pub local_by_rule : (a : Arg) (r : Rule) → rule_of a ≡ r → r.is_simple ≡ true → a.global ≡ false
local_by_rule a r same simple = simple_is_local a (ap (λ (x : Rule). x.is_simple) same ∙ simple)

-- the command reads like the program's, and its parse of the words succeeded so
pub record HasRead (c : Command) (words : List Text) (m : ArgMatches) : Type 0 where
  pub same : app_of c ≡ program
  pub parsed : IsParsedFrom c m
  pub has : HasMatchesOf (app_of c) words m

-- the first value of CHAIN is the chain that the words give
pub chain_given : (c : Command) (words : List Text) (m : ArgMatches) (chain : Text) → HasRead c words m → fault_of program words ≡ []
    → first_value (found_of m) (codes "CHAIN") ≡ Some chain → GivesChain words chain
chain_given c words m chain read taken first = record {
  taken = taken;
  given =
      let rows = (subst (λ (x : App). HasMatchesOf x words m) read.same read.has) program_is_simple in
      ap (first_of (codes "CHAIN")) (sym rows.0) ∙ (sym (first_value-rows (found_of m) (codes "CHAIN")) ∙ first);
}

-- and the text that an option is read from is that of the words
text_of : (c : Command) (words : List Text) (m : ArgMatches) (name : Text) → HasRead c words m → value_text name words ≡ one_text (found_of m) name
text_of c words m name read =
    let rows = (subst (λ (x : App). HasMatchesOf x words m) read.same read.has) program_is_simple in
    ap (one_of name) (sym rows.0) ∙ sym (one_text-rows (found_of m) name)

text_given : (c : Command) (words : List Text) (m : ArgMatches) (name text : Text) → HasRead c words m → one_text (found_of m) name ≡ Some text
    → value_text name words ≡ Some text
text_given c words m name text read is = text_of c words m name read ∙ is

-- the rules of the program's arguments in turn, and their ids
abbrev rules : List Rule
rules = ring_rule ∷ lanes_rule ∷ plain_rule ∷ chain_rule ∷ []

abbrev id_of : ℕ → Text
id_of k = (slice_index_or rules k chain_rule).id

-- no two have one id
distinct : (j k : ℕ) → j < 4 → k < 4 → bytes_eq (id_of j) (id_of k) ≡ true → j ≡ k
distinct zero zero j4 k4 same = refl
distinct zero (suc zero) j4 k4 same =
    let bad : false ≡ true = same in
    cc
distinct zero (suc (suc zero)) j4 k4 same =
    let bad : false ≡ true = same in
    cc
distinct zero (suc (suc (suc zero))) j4 k4 same =
    let bad : false ≡ true = same in
    cc
distinct (suc zero) zero j4 k4 same =
    let bad : false ≡ true = same in
    cc
distinct (suc zero) (suc zero) j4 k4 same = refl
distinct (suc zero) (suc (suc zero)) j4 k4 same =
    let bad : false ≡ true = same in
    cc
distinct (suc zero) (suc (suc (suc zero))) j4 k4 same =
    let bad : false ≡ true = same in
    cc
distinct (suc (suc zero)) zero j4 k4 same =
    let bad : false ≡ true = same in
    cc
distinct (suc (suc zero)) (suc zero) j4 k4 same =
    let bad : false ≡ true = same in
    cc
distinct (suc (suc zero)) (suc (suc zero)) j4 k4 same = refl
distinct (suc (suc zero)) (suc (suc (suc zero))) j4 k4 same =
    let bad : false ≡ true = same in
    cc
distinct (suc (suc (suc zero))) zero j4 k4 same =
    let bad : false ≡ true = same in
    cc
distinct (suc (suc (suc zero))) (suc zero) j4 k4 same =
    let bad : false ≡ true = same in
    cc
distinct (suc (suc (suc zero))) (suc (suc zero)) j4 k4 same =
    let bad : false ≡ true = same in
    cc
distinct (suc (suc (suc zero))) (suc (suc (suc zero))) j4 k4 same = refl
distinct (suc (suc (suc (suc j)))) k j4 k4 same = absurd (omega arith)
distinct j (suc (suc (suc (suc k)))) j4 k4 same = absurd (omega arith)

-- and none is empty or that of a flag that building adds, by its first letter
record IsNamed (id : Text) : Type 0 where
  pub some : id ≡ [] → ⊥
  pub no_help : id ≡ codes "help" → ⊥
  pub no_version : id ≡ codes "version" → ⊥

other_start : (t u : Text) (x y : ℕ) → slice_index t 0 ≡ x → slice_index u 0 ≡ y → (x ≡ y → ⊥) → t ≡ u → ⊥
other_start t u x y tx uy other same = other (sym tx ∙ (ap (λ (w : Text). slice_index w 0) same ∙ uy))

named_by_start : (t : Text) (x : ℕ) → slice_index t 0 ≡ x → (x ≡ 0 → ⊥) → (x ≡ 104 → ⊥) → (x ≡ 118 → ⊥) → IsNamed t
named_by_start t x start none h v = record {
  some = other_start t [] x 0 start refl none;
  no_help = other_start t (codes "help") x 104 start refl h;
  no_version = other_start t (codes "version") x 118 start refl v;
}

named : (k : ℕ) → k < 4 → IsNamed (id_of k)
named zero k4 = named_by_start (codes "ring") 114 refl (λ e. absurd (omega arith)) (λ e. absurd (omega arith)) (λ e. absurd (omega arith))
named (suc zero) k4 = named_by_start (codes "lanes") 108 refl (λ e. absurd (omega arith)) (λ e. absurd (omega arith)) (λ e. absurd (omega arith))
named (suc (suc zero)) k4 = named_by_start (codes "plain") 112 refl (λ e. absurd (omega arith)) (λ e. absurd (omega arith)) (λ e. absurd (omega arith))
named (suc (suc (suc zero))) k4 = named_by_start (codes "CHAIN") 67 refl (λ e. absurd (omega arith)) (λ e. absurd (omega arith)) (λ e. absurd (omega arith))
named (suc (suc (suc (suc k)))) k4 = absurd (omega arith)

-- what a command is that reads like the program's
record IsProgram (c : Command) : Type 0 where
  pub plain : IsPlain c
  pub globals : (out-Command c).has_globals ≡ false
  pub negates : (out-Command c).subcommand_negates_reqs ≡ false
  pub simple : IsSimple c
  pub rules_are : map rule_of (args_of c) ≡ rules

is_program : (c : Command) → app_of c ≡ program → IsProgram c
unfolding clap_on_literals
is_program c same =
    let shape : shape_of c ≡ program.top = ap (λ (a : App). a.top) same in
    let fields : HasPlainFields c = plain_fields c (ap (λ (s : Shape). s.is_plain) shape) in
    let simple : IsSimple c = ready_simple c (ap is_ready shape) (ap (λ (a : App). list_all is_ready_leaf a.subs) same) in
    let free = free_args c simple (ap has_free_rules shape) in
    let groups = simple_groups c (ap (λ (s : Shape). list_all (λ a. a.is_simple) s.rules) shape) in
    record {
      plain = (λ k d lt. ((free k d lt).exclusive, (free k d lt).conflicts, (free k d lt).overrides, groups k d lt), fields.groups);
      globals = fields.globals;
      negates = ap (λ (s : Shape). s.subcommand_negates_reqs) shape;
      simple = simple;
      rules_are = ap (λ (s : Shape). s.rules) shape;
    }

-- its argument of a place: the rule, and that no other has its id
record IsArgAt (c : Command) (k : ℕ) (d : Arg) : Type 0 where
  pub low : k < length (args_of c)
  pub rule : rule_of (slice_index_or (args_of c) k d) ≡ slice_index_or rules k chain_rule
  pub id : (slice_index_or (args_of c) k d).id.now ≡ id_of k
  pub only : (j : ℕ) (e : Arg) → j < length (args_of c) → bytes_eq (slice_index_or (args_of c) j e).id.now (slice_index_or (args_of c) k d).id.now ≡ true
      → j ≡ k
  pub some : (slice_index_or (args_of c) k d).id.now ≡ [] → ⊥
  pub own : IsAuto (slice_index_or (args_of c) k d) → ⊥

count_of : (c : Command) → IsProgram c → length (args_of c) ≡ 4
count_of c p = sym (length-map (args_of c) rule_of) ∙ ap length p.rules_are

rule_at : (c : Command) → IsProgram c → (k : ℕ) (d : Arg) → k < 4 → rule_of (slice_index_or (args_of c) k d) ≡ slice_index_or rules k chain_rule
rule_at c p k d k4 =
    let count = count_of c p in
    sym (get_or-map rule_of (args_of c) k d chain_rule (omega arith)) ∙ ap (λ (rs : List Rule). slice_index_or rs k chain_rule) p.rules_are

arg_at : (c : Command) → IsProgram c → (k : ℕ) (d : Arg) → k < 4 → IsArgAt c k d
arg_at c p k d k4 =
    let count = count_of c p in
    let id : (slice_index_or (args_of c) k d).id.now ≡ id_of k = ap (λ (r : Rule). r.id) (rule_at c p k d k4) in
    let names = named k k4 in
    record {
      low = omega arith;
      rule = rule_at c p k d k4;
      id = id;
      only = λ j e lt found.
          let j4 : j < 4 = omega arith in
          let other : (slice_index_or (args_of c) j e).id.now ≡ id_of j = ap (λ (r : Rule). r.id) (rule_at c p j e j4) in
          distinct j k j4 k4
          (subst (λ (t : Text). bytes_eq t (id_of k) ≡ true) other
          (subst (λ (t : Text). bytes_eq (slice_index_or (args_of c) j e).id.now t ≡ true) id found));
      some = λ empty. names.some (sym id ∙ empty);
      own = λ auto. elim auto [
        | inl h ↦ names.no_help (sym id ∙ h)
        | inr h ↦ names.no_version (sym id ∙ h)
      ];
    }

first_arg : (xs : List Arg) → 0 < length xs → Arg
first_arg [] some = absurd (omega arith)
first_arg (x ∷ xs) some = x

any_arg : (c : Command) → IsProgram c → Arg
any_arg c p =
    let count = count_of c p in
    first_arg (args_of c) (omega arith)

-- a rule with no range of counts wants one value
least_one : (a : Arg) (r : Rule) → rule_of a ≡ r → unwrap_or_range r.range ≡ unwrap_or_range chain_rule.range → 1 ≤ least_values a
least_one a r is range =
    let same : unwrap_or_range a.num_vals ≡ unwrap_or_range chain_rule.range = ap (λ (x : Rule). unwrap_or_range x.range) is ∙ range in
    subst (λ (v : ValueRange). 1 ≤ v.start_inclusive) (sym same) (omega arith)

-- a parse that succeeds gives CHAIN a value
pub has_chain : (c : Command) (words : List Text) (m : ArgMatches) → HasRead c words m → is_some (first_value (found_of m) (codes "CHAIN")) ≡ true
has_chain c words m read =
    let p = is_program c read.same in
    let d = any_arg c p in
    let at = arg_at c p 3 d (omega arith) in
    let has = required_has_value c m read.parsed p.plain p.globals p.negates 3 d at.low (ap (λ (r : Rule). r.required) at.rule)
    (ap (λ (r : Rule). r.action) at.rule)
    (p.simple.args 3 d at.low).delimiter (least_one (slice_index_or (args_of c) 3 d) chain_rule at.rule refl) at.only at.some at.own in
    subst (λ (t : Text). is_some (first_value (found_of m) t) ≡ true) at.id has

-- a parse that succeeds gives an option of a number a text of its range
number_text : (c : Command) (words : List Text) (m : ArgMatches) → HasRead c words m → (k : ℕ) (name default : Text) (high : ℕ) → k < 4
    → slice_index_or rules k chain_rule ≡ number_rule name default high
    → (t : Text) × (one_text (found_of m) name ≡ Some (without_minus t)) × IsSignedIn (pos 1) (pos high) t
number_text c words m read k name default high k4 is_number =
    let p = is_program c read.same in
    let d = any_arg c p in
    let at = arg_at c p k d k4 in
    let is : rule_of (slice_index_or (args_of c) k d) ≡ number_rule name default high = at.rule ∙ is_number in
    let id : (slice_index_or (args_of c) k d).id.now ≡ name = ap (λ (r : Rule). r.id) is in
    let defaults : texts (items_of (slice_index_or (args_of c) k d).default_vals) ≡ default ∷ [] = ap (λ (r : Rule). r.defaults) is in
    default_reads c m k d name (Signed (pos 1) (pos high)) (record {
      from = read.parsed;
      plain = p.plain;
      globals = p.globals;
      one = record { low = at.low; id_is = id; only = at.only; named = λ empty. at.some (id ∙ empty); own = at.own };
      takes = record {
        set = ap (λ (r : Rule). r.action) is;
        delimiter = (p.simple.args k d at.low).delimiter;
        least = least_one (slice_index_or (args_of c) k d) (number_rule name default high) is refl;
        parser = ap (λ (r : Rule). r.parser) is;
      };
    })
    ((p.simple.args k d at.low).default_ifs, texts_some default (items_of (slice_index_or (args_of c) k d).default_vals) defaults)
  where
    texts_some : (t : Text) (xs : List (Bor Text)) → texts xs ≡ t ∷ [] → 0 < length xs
    texts_some t [] e = cc
    texts_some t (x ∷ xs) e = omega arith

-- what was read of it is a number, and the words give the option that
number_given : (E : Type 0) (G : List ℕ → Result ℕ E → Type 0) (bits : ℕ) (c : Command) (words : List Text) (m : ArgMatches) (r : Option ℕ) → HasRead c words m
    → ((u : List ℕ) (x : Result ℕ E) → G u x → ParsesUnsigned bits 10 u x) → (k : ℕ) (name default : Text) (high : ℕ) → k < 4 → high < 2 ^ bits
    → slice_index_or rules k chain_rule ≡ number_rule name default high → ((t : Text) → one_text (found_of m) name ≡ Some t → ReadsOne G t r)
    → (n : ℕ) × (r ≡ Some n) × GivesNumber name high words n
number_given E G bits c words m r read only k name default high k4 fits is_number reads =
    let text = number_text c words m read k name default high k4 is_number in
    let one : ReadsOne G (without_minus text.0) r = reads (without_minus text.0) text.1 in
    let got = signed_reads E G bits 1 high text.0 r one only fits text.2 in
    let parsed : G (without_minus text.0) (Ok got.0) = subst (ReadsOne G (without_minus text.0)) got.1 one in (
      got.0,
      got.1,
      record {
        least = got.2;
        most = got.3;
        text = without_minus text.0;
        given = text_given c words m name (without_minus text.0) read text.1;
        spelled = (only (without_minus text.0) (Ok got.0) parsed).1;
      },
    )

-- so of `--ring`, and of `--lanes`
pub ring_given : (E : Type 0) (G : List ℕ → Result ℕ E → Type 0) (c : Command) (words : List Text) (m : ArgMatches) (r : Option ℕ) → HasRead c words m
    → ((u : List ℕ) (x : Result ℕ E) → G u x → ParsesUnsigned 16 10 u x) → ((t : Text) → one_text (found_of m) (codes "ring") ≡ Some t → ReadsOne G t r)
    → (n : ℕ) × (r ≡ Some n) × GivesRing words n
ring_given E G c words m r read only = number_given E G 16 c words m r read only 0 (codes "ring") (codes "64") MAX_RING_CAPACITY (omega arith) (omega arith)
    refl

pub lanes_given : (E : Type 0) (G : List ℕ → Result ℕ E → Type 0) (c : Command) (words : List Text) (m : ArgMatches) (r : Option ℕ) → HasRead c words m
    → ((u : List ℕ) (x : Result ℕ E) → G u x → ParsesUnsigned 8 10 u x) → ((t : Text) → one_text (found_of m) (codes "lanes") ≡ Some t → ReadsOne G t r)
    → (n : ℕ) × (r ≡ Some n) × GivesLanes words n
lanes_given E G c words m r read only = number_given E G 8 c words m r read only 1 (codes "lanes") (codes "1") MAX_LANES (omega arith) (omega arith) refl

-- ---- the form

-- a text that reads as true is that of a flag which was given
flag_given : (E : Type 0) (o t : Option Text) (r : Option Bool) → t ≡ o → r ≡ Some true → (o ≡ None → r ≡ None)
    → ((u : Text) → o ≡ Some u → ReadsOne (ParsesBool {E = E}) u r) → t ≡ Some (codes "true")
flag_given E None t r same is none reads =
    let bad : r ≡ None = none refl in
    absurd cc
flag_given E (Some u) t r same is none reads = same ∙ ap Some (subst (ReadsOne (ParsesBool {E = E}) u) is (reads u refl))

-- the texts of the two values of a flag
other_text : codes "true" ≡ codes "false" → ⊥
other_text same = other_start (codes "true") (codes "false") 116 102 refl refl (λ e. absurd (omega arith)) same

not_given : (E : Type 0) (r : Option Bool) → form_by r ≡ Raw → ReadsOne (ParsesBool {E = E}) (codes "true") r → ⊥
not_given E None raw reads = reads.1.0 refl
not_given E (Some false) raw reads = other_text reads
not_given E (Some true) raw reads = absurd cc

-- the words give the form that the flag asks for
pub form_given : (E : Type 0) (c : Command) (words : List Text) (m : ArgMatches) (r : Option Bool) → HasRead c words m
    → (one_text (found_of m) (codes "plain") ≡ None → r ≡ None)
    → ((t : Text) → one_text (found_of m) (codes "plain") ≡ Some t → ReadsOne (ParsesBool {E = E}) t r)
    → GivesForm words (form_by r)
form_given E c words m None read none reads = λ given. not_given E None refl (reads (codes "true") (sym (text_of c words m (codes "plain") read) ∙ given))
form_given E c words m (Some false) read none reads =
    λ given. not_given E (Some false) refl (reads (codes "true") (sym (text_of c words m (codes "plain") read) ∙ given))
form_given E c words m (Some true) read none reads = flag_given E (one_text (found_of m) (codes "plain")) (value_text (codes "plain") words) (Some true)
    (text_of c words m (codes "plain") read) refl none reads
