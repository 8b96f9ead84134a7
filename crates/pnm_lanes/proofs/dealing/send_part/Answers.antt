use Rattle.pnm_lanes.proofs.Words.{◌≡◌, ◌∙◌, ◌<◌, ◌-◌, ◌+◌, ◌%◌, ◌++◌, ℕ, List, Option, Message, StageEnd, ap, sym, subst, refl, arith, length, mod_below}
use Rattle.pnm_lanes.proofs.Words.{HeadValue, IsLawfulFrom, packet_list, row_messages, rows_list, end_messages, dealt_from, dealt_begin, every, row_at, part_at}
use Rattle.pnm_lanes.proofs.SendSteps.{IsSending, sends_nothing, sends_next, misses_next, sends_all, leaves_off}
use Rattle.pnm_lanes.proofs.DealtRows.{turn_of, its_turn, only_its_turn, part_by_turn}
use Rattle.pnm_lanes.proofs.dealing.send_part.Goals as goal
use Rattle.pnm_lanes.proofs.dealing.send_part.Goals.{then-not-send_to, else-not-send_to}

pub returns-in_default : goal.returns-in_default
returns-in_default g c = leaves_off (sends_nothing (λ (n : ℕ). n) (part_at (length c.args.outputs.now) c.args.place c.args.part) c.args.outputs.now)

pub loop-turn-init : goal.loop-turn-init
loop-turn-init g c = (
  sends_nothing (turn_of (c.next_row.result % length c.args.outputs.now) (length c.args.outputs.now))
      (part_at (length c.args.outputs.now) c.args.place c.args.part) c.args.outputs.now,
  λ later le lt. refl,
  refl,
)

pub returns-in_default-part_of : goal.returns-in_default-part_of
returns-in_default-part_of g c = leaves_off c.loop-turn.invariant.0

pub loop-turn-preserved : goal.loop-turn-preserved
loop-turn-preserved g c =
    let lanes : ℕ = length c.args.outputs.now in
    let first : ℕ = c.next_row.result % lanes in
    let turn : ℕ = c.loop-turn.turn in
    let lane : ℕ = (first + turn) % lanes in
    let head = c.into_parts-head.result.0 in
    let rows : List (List ℕ) = rows_list c.into_parts-head.result.1 in
    let ends = c.into_parts-head.result.2 in
    let part : ℕ → List Message = part_at lanes c.args.place c.args.part in
    let within : first < lanes = mod_below c.next_row.result lanes (omega (arith, c.requires.lanes.0)) in
    let lt : turn < lanes = c.loop-turn-test.true in
    let here : (row_at c.args.place % lanes + turn) % lanes ≡ lane = ap (λ (y : ℕ). (y % lanes + turn) % lanes) (sym c.next_row.ensures) in
    let left : every turn (lanes - 1) (rows_list c.loop-turn.rows) ≡ every turn (lanes - 1) rows =
    c.loop-turn.invariant.1 turn (omega arith) lt ∙ ap (every turn (lanes - 1)) c.in-Ok.ensures in
    let its : packet_list c.in-Ok-part_of.part ≡ part lane =
    c.in-Ok-part_of.ensures.part ∙ ap (λ (x : Option HeadValue).
    dealt_begin lane lanes x ++ (row_messages (every turn (lanes - 1) (rows_list c.loop-turn.rows)) ++ end_messages ends)) c.loop-turn.invariant.2
    ∙ ap (λ (x : List (List ℕ)). dealt_begin lane lanes head ++ (row_messages x ++ end_messages ends)) left
    ∙ part_by_turn lanes turn lane c.args.place head rows ends lt (subst (IsLawfulFrom c.args.place) c.into_parts-head.ensures.parts c.requires.lawful) here
    ∙ ap (dealt_from lane lanes c.args.place) (sym c.into_parts-head.ensures.parts) in
    let IsSent : Option StageEnd → Type 0 = λ unsent. IsSending (turn_of first lanes) (turn + 1) part unsent c.args.outputs.now c.send_to.new.outputs in
    let sending : IsSent c.if-not-send_to.unsent = elim c.if-not-send_to.branch [
      | then-not-send_to w ↦
          subst IsSent (sym w.unsent-is) (misses_next c.loop-turn.invariant.0 (c.send_to.ensures.gone w.if-not-send_to.true))
      | else-not-send_to w ↦
          subst IsSent (sym w.unsent-is) (sends_next lane c.loop-turn.invariant.0 (its_turn first lanes turn within lt)
          (λ n below same. only_its_turn first lanes turn n within below same) its (c.send_to.ensures.given w.if-not-send_to.false))
    ] in (
      sending,
      λ later le below. c.part_of.ensures.left later le below ∙ c.loop-turn.invariant.1 later (omega (arith, le)) below,
      c.loop-turn.invariant.2,
    )

pub returns : goal.returns
returns g c =
    let lanes : ℕ = length c.args.outputs.now in
    let first : ℕ = c.next_row.result % lanes in
    sends_all c.loop-turn.invariant.0 (λ lane below.
    let within : turn_of first lanes lane < lanes = mod_below (lane + (lanes - first)) lanes (omega (arith, below)) in
    omega (arith, within, c.loop-turn-test.false))
