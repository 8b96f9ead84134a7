use Rattle.pnm_lanes.proofs.Words.{◌≡◌, ℕ, length, sym, subst, ◌∙◌, err_from_is_err_and, Fault, OutOfOrder, messages_in, IsNotTogether, HasPassed}
use Rattle.pnm_lanes.proofs.TogetherSteps.{not_lawful}
use Rattle.pnm_lanes.proofs.FillSteps.{not_together, put_together}
use Rattle.pnm_lanes.proofs.next.receive_next.Goals as goal

pub returns-in_err-packet-clause-taken : goal.returns-in_err-packet-clause-taken
returns-in_err-packet-clause-taken g c passed holding =
    let p = err_from_is_err_and c.from_residual-in_err-packet.result c.from_residual-in_err-packet.ensures.1 in
    let count : length c.await_lanes.new.held ≡ length c.args.inputs.now = c.await_lanes.ensures.as_many.1 ∙ sym c.requires.held in
    rw (p.1, p.2) (not_together (c.in_ok-await_lanes.ensures.filled passed holding) c.in_err-packet.field-0.0
    (subst (λ (n : ℕ). IsNotTogether c.in_err-packet.field-0.0 n c.args.place.now c.await_lanes.new.held) count c.in_err-packet.ensures.not))

pub returns-in_default-clause-taken : goal.returns-in_default-clause-taken
returns-in_default-clause-taken g c passed holding =
    let count : length c.await_lanes.new.held ≡ length c.args.inputs.now = c.await_lanes.ensures.as_many.1 ∙ sym c.requires.held in
    not_together (c.in_ok-await_lanes.ensures.filled passed holding) (Fault OutOfOrder)
    (not_lawful c.requires.some (subst (λ (n : ℕ). HasPassed n c.args.place.now (messages_in c.in_ok-packet.packet) c.await_lanes.new.held
    c.put_together.new.held) count c.in_ok-packet.ensures.passed) c.in_default.ensures)

pub returns-clause-taken : goal.returns-clause-taken
returns-clause-taken g c passed holding =
    let count : length c.await_lanes.new.held ≡ length c.args.inputs.now = c.await_lanes.ensures.as_many.1 ∙ sym c.requires.held in
    put_together (c.in_ok-await_lanes.ensures.filled passed holding)
    (subst (λ (n : ℕ). HasPassed n c.args.place.now (messages_in c.in_ok-packet.packet) c.await_lanes.new.held c.put_together.new.held) count
    c.in_ok-packet.ensures.passed) c.in_ok-packet.ensures.ends c.in-Some.ensures.0 c.in-Some.ensures.1
