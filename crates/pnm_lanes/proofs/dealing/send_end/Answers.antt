use Rattle.pnm_lanes.proofs.Words.{◌≡◌, ◌∙◌, [], ◌∷◌, ◌+◌, ℕ, Bool, List, Option, Message, StageEnd, ap, sym, subst, refl, arith, messages_in, stream_end}
use Rattle.pnm_lanes.proofs.SendSteps.{IsSending, sends_nothing, sends_next, misses_next, sends_all, sending_count}
use Rattle.pnm_lanes.proofs.dealing.send_end.Goals as goal
use Rattle.pnm_lanes.proofs.dealing.send_end.Goals.{then-is_whole, else-is_whole, then-not-send_to, else-not-send_to}

pub loop-lane-init : goal.loop-lane-init
loop-lane-init g c = sends_nothing (λ (n : ℕ). n) (λ (n : ℕ). stream_end c.args.is_whole ∷ []) c.args.outputs.now

pub loop-lane-preserved : goal.loop-lane-preserved
loop-lane-preserved g c =
    let end : Bool → List Message = λ whole. stream_end whole ∷ [] in
    let part : ℕ → List Message = λ n. end c.args.is_whole in
    let is : messages_in c.if-is_whole.end ≡ end c.args.is_whole = elim c.if-is_whole.branch [
      | then-is_whole w ↦ ap messages_in w.end-is ∙ sym (ap end w.if-is_whole.true)
      | else-is_whole w ↦ ap messages_in w.end-is ∙ sym (ap end w.if-is_whole.false)
    ] in
    let lane : ℕ = c.loop-lane.lane in
    elim c.if-not-send_to.branch [
      | then-not-send_to w ↦
          subst (λ (unsent : Option StageEnd). IsSending (λ (n : ℕ). n) (lane + 1) part unsent c.args.outputs.now c.send_to.new.outputs) (sym w.unsent-is)
          (misses_next c.loop-lane.invariant (c.send_to.ensures.gone w.if-not-send_to.true))
      | else-not-send_to w ↦
          subst (λ (unsent : Option StageEnd). IsSending (λ (n : ℕ). n) (lane + 1) part unsent c.args.outputs.now c.send_to.new.outputs) (sym w.unsent-is)
          (sends_next lane c.loop-lane.invariant refl (λ n below same. same) is (c.send_to.ensures.given w.if-not-send_to.false))
    ]

pub returns : goal.returns
returns g c = sends_all c.loop-lane.invariant (λ lane below. omega (arith, below, c.loop-lane-test.false, sending_count c.loop-lane.invariant))
