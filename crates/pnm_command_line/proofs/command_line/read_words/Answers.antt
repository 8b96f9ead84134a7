use Rattle.std.proofs.Common.{◌≡◌, Some, codes, map, refl, rules, subst, sym}
use Rattle.std.specs.Prelude.{Ok, Err, string_bytes}
use Rattle.std.specs.Str.Parse.{ParsesUnsigned, ExplainsUnsignedError, HasUnsignedDigitsIfOk}
use Rattle.clap.specs.Words.{app_of, first_value, found_of}
use Rattle.clap.specs.declared.parser.matches.ArgMatches.{ArgMatches}
use Rattle.clap.proofs.CallerLemmas.{some_of_text}
use Rattle.pnm_command_line.specs.CommandLine.{GivesForm, GivesLanes, GivesRing}
use Rattle.pnm_command_line.proofs.CommandLineSteps.{HasRead, chain_given, fault_fits, form_given, has_chain, lanes_given, parse_fails, ring_given}
use Rattle.pnm_command_line.proofs.command_line.read_words.Goals as goal

pub returns-in-Err-clause-refused : goal.returns-in-Err-clause-refused
returns-in-Err-clause-refused c =
    fault_fits (map string_bytes c.args.words.now) c.in-Err.error c.fault_of.result
    (parse_fails {T = ArgMatches} (app_of c.in_ok-program.field-0) (map string_bytes c.args.words.now) (Err c.in-Err.error) c.in_ok-program.ensures
    c.in-Err.ensures.kinds)
    c.fault_of.ensures

pub unwrap-requires : goal.unwrap-requires
unwrap-requires c =
    let read : HasRead c.in_ok-program.field-0 (map string_bytes c.args.words.now) c.in-Ok.matches =
    record { same = c.in_ok-program.ensures; parsed = c.in-Ok.ensures.parsed; has = c.in-Ok.ensures.matches } in
    some_of_text _ c.get_str.result _ c.get_str.ensures (has_chain c.in_ok-program.field-0 (map string_bytes c.args.words.now) c.in-Ok.matches read)

pub unwrap-requires-2 : goal.unwrap-requires-2
unwrap-requires-2 c =
    let read : HasRead c.in_ok-program.field-0 (map string_bytes c.args.words.now) c.in-Ok.matches =
    record { same = c.in_ok-program.ensures; parsed = c.in-Ok.ensures.parsed; has = c.in-Ok.ensures.matches } in
    let got = ring_given _ (λ bs r. ParsesUnsigned 16 10 bs r × ExplainsUnsignedError 10 bs r × HasUnsignedDigitsIfOk bs r) c.in_ok-program.field-0
    (map string_bytes c.args.words.now) c.in-Ok.matches c.get_one.result read (λ u x g. g.0) c.get_one.ensures.value in
    rw got.1 refl

pub unwrap-requires-3 : goal.unwrap-requires-3
unwrap-requires-3 c =
    let read : HasRead c.in_ok-program.field-0 (map string_bytes c.args.words.now) c.in-Ok.matches =
    record { same = c.in_ok-program.ensures; parsed = c.in-Ok.ensures.parsed; has = c.in-Ok.ensures.matches } in
    let got = lanes_given _ (λ bs r. ParsesUnsigned 8 10 bs r × ExplainsUnsignedError 10 bs r × HasUnsignedDigitsIfOk bs r) c.in_ok-program.field-0
    (map string_bytes c.args.words.now) c.in-Ok.matches c.get_one-2.result read (λ u x g. g.0) c.get_one-2.ensures.value in
    rw got.1 refl

pub returns-clause-given : goal.returns-clause-given
returns-clause-given c =
    let words = map string_bytes c.args.words.now in
    let read : HasRead c.in_ok-program.field-0 (map string_bytes c.args.words.now) c.in-Ok.matches =
    record { same = c.in_ok-program.ensures; parsed = c.in-Ok.ensures.parsed; has = c.in-Ok.ensures.matches } in
    let first : first_value (found_of c.in-Ok.matches) (codes "CHAIN") ≡ Some c.unwrap.result.now = search rules in
    chain_given c.in_ok-program.field-0 words c.in-Ok.matches c.unwrap.result.now read
    (parse_fails {T = ArgMatches} (app_of c.in_ok-program.field-0) words (Ok c.in-Ok.matches) c.in_ok-program.ensures c.in-Ok.ensures.kinds) first

pub returns-clause-ring : goal.returns-clause-ring
returns-clause-ring c =
    let words = map string_bytes c.args.words.now in
    let read : HasRead c.in_ok-program.field-0 (map string_bytes c.args.words.now) c.in-Ok.matches =
    record { same = c.in_ok-program.ensures; parsed = c.in-Ok.ensures.parsed; has = c.in-Ok.ensures.matches } in
    let got = ring_given _ (λ bs r. ParsesUnsigned 16 10 bs r × ExplainsUnsignedError 10 bs r × HasUnsignedDigitsIfOk bs r) c.in_ok-program.field-0 words
    c.in-Ok.matches c.get_one.result read (λ u x g. g.0) c.get_one.ensures.value in
    let is : c.get_one.result ≡ Some c.unwrap-2.result = search rules in
    let same : got.0 ≡ c.unwrap-2.result = cc in
    subst (GivesRing words) same got.2

pub returns-clause-lanes : goal.returns-clause-lanes
returns-clause-lanes c =
    let words = map string_bytes c.args.words.now in
    let read : HasRead c.in_ok-program.field-0 (map string_bytes c.args.words.now) c.in-Ok.matches =
    record { same = c.in_ok-program.ensures; parsed = c.in-Ok.ensures.parsed; has = c.in-Ok.ensures.matches } in
    let got = lanes_given _ (λ bs r. ParsesUnsigned 8 10 bs r × ExplainsUnsignedError 10 bs r × HasUnsignedDigitsIfOk bs r) c.in_ok-program.field-0 words
    c.in-Ok.matches c.get_one-2.result read (λ u x g. g.0) c.get_one-2.ensures.value in
    let is : c.get_one-2.result ≡ Some c.unwrap-3.result = search rules in
    let same : got.0 ≡ c.unwrap-3.result = cc in
    subst (GivesLanes words) same got.2

pub returns-clause-form : goal.returns-clause-form
returns-clause-form c =
    let words = map string_bytes c.args.words.now in
    let read : HasRead c.in_ok-program.field-0 (map string_bytes c.args.words.now) c.in-Ok.matches =
    record { same = c.in_ok-program.ensures; parsed = c.in-Ok.ensures.parsed; has = c.in-Ok.ensures.matches } in
    subst (GivesForm words) (sym c.form_by.ensures)
    (form_given _ c.in_ok-program.field-0 words c.in-Ok.matches c.get_one-3.result read c.get_one-3.ensures.none c.get_one-3.ensures.value)
