use Rattle.pnm_read.proofs.Words.{◌≡◌, ◌==◌, ℕ, false, List, Option, Some, None, Ok, Err, inl, inr, refl, sym, ◌∙◌, ne_eqb, err_from_is_err_and, BadPamLine}
use Rattle.pnm_read.proofs.Words.{HeaderCut, ReadFailed, IsByte}
use Rattle.pnm_read.specs.Items.{line_feed_item}
use Rattle.pnm_read.proofs.ReadCalls.{call_err_so, call_ok_so, no_fault}
use Rattle.pnm_read.proofs.pam.read_line_feed.Goals as goal

feed_taken : (found : Option ℕ) {byte : ℕ} → found ≡ Some byte → byte ≡ 10 → (b a : List ℕ) → IsByte (Ok found) b a → line_feed_item b ≡ Ok a
unfolding line_feed_item
feed_taken None e ten b a o = absurd cc
feed_taken (Some x) e ten b a o = let is : x ≡ 10 = cc in rw (o, is) refl

no_feed : (found : Option ℕ) → found ≡ None → (b a : List ℕ) → IsByte (Ok found) b a → line_feed_item b ≡ Err HeaderCut
unfolding line_feed_item
no_feed None e b a o = rw o.0 refl
no_feed (Some x) e b a o = absurd cc

pub returns-in_err-next_byte : goal.returns-in_err-next_byte
returns-in_err-next_byte g c =
    let p = err_from_is_err_and c.from_residual.result c.from_residual.ensures.1 in
    rw (p.1, p.2) (call_err_so (λ b a o. inr o) c.in_err-next_byte.ensures)

pub returns-in-Some-eq10 : goal.returns-in-Some-eq10
returns-in-Some-eq10 g c =
    call_ok_so (Ok tt) (no_fault tt ReadFailed) (feed_taken c.in_ok-next_byte.field-0 c.in-Some-eq10.is c.in-Some-eq10.field-0-test) c.in_ok-next_byte.ensures

pub returns-in-None : goal.returns-in-None
returns-in-None g c =
    call_ok_so (Err HeaderCut) (λ e. absurd cc) (λ b a o. inl (no_feed c.in_ok-next_byte.field-0 c.in-None.is b a o)) c.in_ok-next_byte.ensures

other_byte : (found : Option ℕ) {byte : ℕ} → found ≡ Some byte → (byte ≡ 10 → ⊥) → (b a : List ℕ) → IsByte (Ok found) b a → line_feed_item b ≡ Err BadPamLine
unfolding line_feed_item
other_byte None e other b a o = absurd cc
other_byte (Some x) {byte} e other b a o =
    let is : (x == 10) ≡ false = ne_eqb x 10 (λ ten. other (let same : x ≡ byte = cc in sym same ∙ ten)) in
    rw (o, is) refl

pub returns-in-Some : goal.returns-in-Some
returns-in-Some g c =
    call_ok_so (Err BadPamLine) (λ e. absurd cc)
    (λ b a o. inl (other_byte c.in_ok-next_byte.field-0 c.in-Some.is c.in-Some.field-0-test.1 b a o)) c.in_ok-next_byte.ensures
