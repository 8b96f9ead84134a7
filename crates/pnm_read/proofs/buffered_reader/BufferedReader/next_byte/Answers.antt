use Rattle.pnm_read.proofs.Words.{◌≡◌, ℕ, List, [], ◌∷◌, ◌++◌, drop, Option, Some, None, Ok, slice_get, refl, ◌∙◌, err_from_is_err_and, ReadFailed}
use Rattle.pnm_read.proofs.EndSteps.{none_held, end_seen}
use Rattle.pnm_read.proofs.ReadCalls.{call_err_so, call_ok_so, call_seen, call_advance, no_fault, nothing_left}
use Rattle.pnm_read.proofs.buffered_reader.BufferedReader.next_byte.Goals as goal

-- the byte that is held first
first_byte : {byte : ℕ} (bytes : List ℕ) {held : List ℕ} (rest : List ℕ) → bytes ≡ held → Some byte ≡ slice_get bytes 0
    → held ++ rest ≡ byte ∷ (drop 1 held ++ rest)
first_byte [] rest is first = absurd cc
first_byte {byte} (b ∷ bytes) rest is first = let same : byte ≡ b = cc in rw (← is, same) refl

pub returns-in_err-fill : goal.returns-in_err-fill
returns-in_err-fill g c =
    let p = err_from_is_err_and c.from_residual.result c.from_residual.ensures.1 in
    rw (p.1, p.2) (call_err_so (λ b a o. o) c.in_err-fill.ensures.read_call)

pub returns-in-Some : goal.returns-in-Some
returns-in-Some g c =
    call_advance {A = Unit {0}} {B = Option ℕ} 1 (no_fault (Some c.in-Some.byte.now) ReadFailed) c.advance.ensures.reader
    c.advance.ensures.ended c.advance.ensures.held (λ b rest can o. o ∙ first_byte c.bytes.result.now rest c.bytes.ensures c.in-Some.ensures.value)
    c.in_ok-fill.ensures.read_call

pub returns-in-None : goal.returns-in-None
returns-in-None g c =
    let none = none_held c.bytes.result.now c.bytes.ensures c.in-None.ensures.value in
    call_ok_so {A = Unit {0}} {B = Option ℕ} (Ok None) (no_fault {A = Option ℕ} None ReadFailed)
    (λ b a o. let left = nothing_left c.fill.new.self a none (end_seen c.fill.new.self c.in_ok-fill.ensures.enough none) o.1 in (o.0 ∙ left, left))
    (call_seen c.in_ok-fill.ensures.read_call)
