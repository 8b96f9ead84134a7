-- What a parse gives for an argument with a default.
use Rattle.std.proofs.Common.{◌≡◌, ◌∙◌, ◌<◌, ◌≤◌, ap, ℕ, Bool, zero, suc, true, false, List, [], ◌∷◌, length, is_some, Option, Some, None, refl, sym, subst}
use Rattle.std.proofs.Common.{inl, inr, arith}
use Rattle.std.specs.List.{All, slice_index_or}
use Rattle.std.specs.Str.{bytes_eq}
use Rattle.std.specs.Prelude.{find, option_map, slice_get}
use Rattle.std.specs.Borrow.{Bor}
use Rattle.std.proofs.lemmas.Slice.Eq.{bytes_eq-Decides}
use Rattle.std.proofs.lemmas.List.Elements.{All-get_or}
use Rattle.clap.specs.Values.{Accepts, read_as, reading_of}
use Rattle.clap.specs.Facts.{Entry, EntryPasses, HasIn, IsCountArg, PassesArg, WantsDefault, args_of, groups_of, least_values, parser_of, parser_of_value}
use Rattle.clap.specs.Built.{IsAuto, IsParsedFrom, IsPlain, SameRules}
use Rattle.clap.specs.Matches.{found_of, matched_of, one_text}
use Rattle.clap.specs.declared.builder.action.ArgAction.TheVariants.{Count, Set}
use Rattle.clap.specs.declared.builder.arg.Arg.{Arg}
use Rattle.clap.specs.declared.builder.command.Command.{Command}
use Rattle.clap.specs.declared.builder.command.Command.TheViews.{out-Command}
use Rattle.clap.specs.declared.builder.value_parser.ValueParser.{ValueParser}
use Rattle.clap.specs.declared.builder.value_parser.Reading.{Reading}
use Rattle.clap.specs.declared.parser.matches.ArgMatches.{ArgMatches}
use Rattle.clap.specs.declared.parser.matches.MatchedArg.{MatchedArg}
use Rattle.clap.proofs.CallerLemmas.{default_present, entry_by_id, same_rules_by_id}

-- an argument of a command: its place, and that no other has its id
pub record IsOneArg (c : Command) (k : ℕ) (d : Arg) (id : List ℕ) : Type 0 where
  pub low : k < length (args_of c)
  pub id_is : (slice_index_or (args_of c) k d).id.now ≡ id
  pub only : (j : ℕ) (e : Arg) → j < length (args_of c) → bytes_eq (slice_index_or (args_of c) j e).id.now (slice_index_or (args_of c) k d).id.now ≡ true
      → j ≡ k
  pub named : id ≡ [] → ⊥
  pub own : IsAuto (slice_index_or (args_of c) k d) → ⊥

-- it takes one value, by this parser
pub record TakesOne (a : Arg) (q : ValueParser) : Type 0 where
  pub set : a.action ≡ Some Set
  pub delimiter : a.val_delim ≡ None
  pub least : 1 ≤ least_values a
  pub parser : a.value_parser ≡ Some q

-- an id with an entry is found
found_there : (xs : List Entry) (id : List ℕ) → HasIn xs id → is_some (option_map (λ (e : Entry). e.1) (find (λ (e : Entry). bytes_eq e.0.now id) xs)) ≡ true
found_there [] id (i, lt, here) = absurd (omega arith)
found_there (x ∷ xs) id (zero, lt, here) =
    let same : bytes_eq x.0.now id ≡ true = here x in
    rw same refl
found_there (x ∷ xs) id (suc i, lt, here) = go (bytes_eq x.0.now id) refl (found_there xs id (i, omega arith, here))
  where
    go : (t : Bool) → bytes_eq x.0.now id ≡ t → is_some (option_map (λ (e : Entry). e.1) (find (λ (e : Entry). bytes_eq e.0.now id) xs)) ≡ true
        → is_some (option_map (λ (e : Entry). e.1) (find (λ (e : Entry). bytes_eq e.0.now id) (x ∷ xs))) ≡ true
    go true t rest = rw t refl
    go false t rest = rw t rest

-- a parse, and such an argument of its command
pub record ReadsArg (c : Command) (m : ArgMatches) (k : ℕ) (d : Arg) (id : List ℕ) (q : ValueParser) : Type 0 where
  pub from : IsParsedFrom c m
  pub plain : IsPlain c
  pub globals : (out-Command c).has_globals ≡ false
  pub one : IsOneArg c k d id
  pub takes : TakesOne (slice_index_or (args_of c) k d) q

-- the argument of the built command with this id
same_rules : (c : Command) (m : ArgMatches) (k : ℕ) (d : Arg) (id : List ℕ) (q : ValueParser) (r : ReadsArg c m k d id q)
    → (key : List ℕ) → key ≡ id → (j : ℕ) (x : Arg) → j < length (args_of r.from.built) → slice_index_or (args_of r.from.built) j x ≡ x
    → bytes_eq x.id.now key ≡ true
    → SameRules (slice_index_or (args_of c) k d) x
same_rules c m k d id q r key is j x lt at same =
    same_rules_by_id c m r.from k d r.one.low r.one.only r.one.own j x lt at (subst (λ (t : List ℕ). bytes_eq x.id.now t ≡ true) (is ∙ sym r.one.id_is) same)

-- the entry of its id is no group's
no_group : (c : Command) (m : ArgMatches) (k : ℕ) (d : Arg) (id : List ℕ) (q : ValueParser) (r : ReadsArg c m k d id q)
    → (e : Entry) → e.0.now ≡ id → EntryPasses r.from.built e → e.1.is_group ≡ true → ⊥
no_group c m k d id q r e is pass group = elim (pass.3 group) [
  | inl empty ↦ r.one.named (sym is ∙ empty)
  | inr lots ↦
      let none : groups_of r.from.built ≡ [] = (r.from.from.plain r.plain).1 in
      let bad : 0 < 0 = rw none at lots in
      absurd (omega arith)
]

-- it has a value
has_value : (c : Command) (m : ArgMatches) (k : ℕ) (d : Arg) (id : List ℕ) (q : ValueParser) (r : ReadsArg c m k d id q)
    → (e : Entry) → e.0.now ≡ id → EntryPasses r.from.built e → 0 < length e.1.vals.items
has_value c m k d id q r e is pass = elim pass.1 [
  | inl h ↦ absurd (no_group c m k d id q r e is pass h.0)
  | inr (inl some) ↦ some
  | inr (inr (inl h)) ↦
      let any : IsCountArg r.from.built e.0.now = h.1 in
      let s = same_rules c m k d id q r e.0.now is any.0 any.1 any.2 any.3 any.4.0 in
      let set : any.1.action ≡ Some Set = s.action Set r.takes.set in
      let bad : Set ≡ Count = rw set at any.4.1 in
      cc
  | inr (inr (inr h)) ↦
      let s = same_rules c m k d id q r e.0.now is h.0 h.1 h.2 h.3 h.4.0 in
      elim h.4.1 [
        | inl none ↦
            let one = s.least r.takes.set r.takes.least in
            absurd (omega arith)
        | inr has ↦
            let bad : false ≡ true = rw (s.val_delim, r.takes.delimiter) at has in
            cc
      ]
]

-- a value of the argument passed its parser
value_accepted : (c : Command) (m : ArgMatches) (k : ℕ) (d : Arg) (id : List ℕ) (q : ValueParser) (r : ReadsArg c m k d id q)
    → (key : List ℕ) → key ≡ id → (t : List ℕ) → PassesArg r.from.built key t → Accepts (slice_index_or (args_of c) k d).ignore_case q t
value_accepted c m k d id q r key is t any =
    let s = same_rules c m k d id q r key is any.0 any.1 any.2 any.3 any.4.0 in
    let parser : parser_of any.1 ≡ q = ap parser_of_value (s.parser q r.takes.parser) in
    subst (λ (b : Bool). Accepts b q t) s.ignore_case (subst (λ (w : ValueParser). Accepts any.1.ignore_case w t) parser any.4.1)

-- and is read as the parser says
read_so : (c : Command) (m : ArgMatches) (k : ℕ) (d : Arg) (id : List ℕ) (q : ValueParser) (r : ReadsArg c m k d id q)
    → (e : Entry) → e.0.now ≡ id → EntryPasses r.from.built e → e.1.reading ≡ reading_of q
read_so c m k d id q r e is pass = elim pass.4 [
  | inl group ↦ absurd (no_group c m k d id q r e is pass group)
  | inr any ↦
      let s = same_rules c m k d id q r e.0.now is any.0 any.1 any.2 any.3 any.4.0 in
      let parser : parser_of any.1 ≡ q = ap parser_of_value (s.parser q r.takes.parser) in
      sym any.4.1 ∙ ap reading_of parser
]

-- the first of some values
first_of_values : (P : Bor (List ℕ) → Type 0) (how : Reading) (vs : List (Bor (List ℕ))) → 0 < length vs → All P vs
    → (v : Bor (List ℕ)) × (option_map (λ s. read_as how s.now) (slice_get vs 0) ≡ Some (read_as how v.now)) × P v
first_of_values P how [] some all = absurd (omega arith)
first_of_values P how (v ∷ vs) some all = (v, refl, All-get_or P (v ∷ vs) 0 v (omega arith) all)

-- the text that is read of it, and what the parser made sure of
pub default_reads : (c : Command) (m : ArgMatches) (k : ℕ) (d : Arg) (id : List ℕ) (q : ValueParser) → ReadsArg c m k d id q
    → WantsDefault (slice_index_or (args_of c) k d)
    → (t : List ℕ) × (one_text (found_of m) id ≡ Some (read_as (reading_of q) t)) × Accepts (slice_index_or (args_of c) k d).ignore_case q t
default_reads c m k d id q r wants =
    let there = found_there (found_of m).entries.items (slice_index_or (args_of c) k d).id.now (default_present c m r.from r.globals k d r.one.low wants) in
    go (matched_of (found_of m) id) refl (subst (λ (t : List ℕ). is_some (matched_of (found_of m) t) ≡ true) r.one.id_is there)
  where
    read : (x : MatchedArg) → matched_of (found_of m) id ≡ Some x → (e : Entry) → e.1 ≡ x → e.0.now ≡ id → EntryPasses r.from.built e
        → (t : List ℕ) × (one_text (found_of m) id ≡ Some (read_as (reading_of q) t)) × Accepts (slice_index_or (args_of c) k d).ignore_case q t
    read x found e same is pass =
        let all : All (λ v. PassesArg r.from.built e.0.now v.now) e.1.vals.items = elim pass.0 [
          | inl group ↦ absurd (no_group c m k d id q r e is pass group)
          | inr values ↦ values
        ] in
        let first = first_of_values (λ v. PassesArg r.from.built e.0.now v.now) e.1.reading e.1.vals.items (has_value c m k d id q r e is pass) all in
        let how : e.1.reading ≡ reading_of q = read_so c m k d id q r e is pass in
        let text : one_text (found_of m) id ≡ Some (read_as e.1.reading first.0.now) = rw (found, ← same) first.1 in (
          first.0.now,
          subst (λ (h : Reading). one_text (found_of m) id ≡ Some (read_as h first.0.now)) how text,
          value_accepted c m k d id q r e.0.now is first.0.now first.2,
        )

    go : (o : Option MatchedArg) → matched_of (found_of m) id ≡ o → is_some (matched_of (found_of m) id) ≡ true
        → (t : List ℕ) × (one_text (found_of m) id ≡ Some (read_as (reading_of q) t)) × Accepts (slice_index_or (args_of c) k d).ignore_case q t
    go None e h =
        let bad : false ≡ true = rw e at h in
        cc
    go (Some x) e h =
        let parsed = r.from.parsed (r.from.from.globals ∙ r.globals) in
        let got = entry_by_id (EntryPasses r.from.built) (found_of m).entries.items id x parsed.values e in
        read x e got.0 got.1 ((bytes_eq-Decides got.0.0.now id).0 got.2) got.3
