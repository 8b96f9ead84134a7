use Rattle.pnm_filters.proofs.Words.{◌≡◌, Err, length, subst, sym, arith, messages_in, ToolFault, JudgesAll, IsLawfulTool, is_all_given, is_idle, StateValue}
use Rattle.pnm_filters.proofs.Words.{state_value}
use Rattle.pnm_filters.proofs.StateSteps.{all_may_come, fed, judged, judged_out_of_order, sound_fed}
use Rattle.pnm_filters.proofs.state.StateFilter.feed.Goals as goal
use Rattle.pnm_filters.proofs.state.StateFilter.feed.Goals.{in-Some-place_after+in-Err, in-None-2}

pub returns-in-Ok-clause-accepted : goal.returns-in-Ok-clause-accepted
returns-in-Ok-clause-accepted g c = λ t l given at.
    let s = c.self.inside in
    let is_at = rw (← c.self.view_is) at at in
    let leads = c.in-Some-place_after.ensures in
    fed g.T.ImageTool.tool g.T.ImageTool.ready g.T.ImageTool.due g.T.ImageTool.kept (state_value s.work s.place s.pending s.fault) c.take.new.work
    c.in-Some-place_after.after (messages_in c.args.packet) c.in-Ok.pending s.fault t l given is_at leads.0 leads.1.0 leads.1.1 c.in-Ok.ensures

pub returns-clause-judged : goal.returns-clause-judged
returns-clause-judged g c = λ none t l given at.
    let s = c.self.inside in
    let is_at = rw (← c.self.view_is) at at in
    let old = state_value s.work s.place s.pending s.fault in
    let ms = messages_in c.args.packet in
    subst (λ (z : StateValue _). JudgesAll (is_all_given z.pending) t l ms (Err c.match-place_after.fault)) c.self.view_is (elim c.match-place_after.branch [
      | in-Some-place_after+in-Err w ↦
          let leads = w.in-Some-place_after.ensures in
          subst (λ (f : ToolFault). JudgesAll (is_idle s.pending.phase) t l ms (Err f)) (sym w.fault-is) (
            judged g.T.ImageTool.tool g.T.ImageTool.ready g.T.ImageTool.due g.T.ImageTool.kept old ms w.in-Err.fault t l given is_at leads.0 leads.1.0
                w.in-Err.ensures.0,
            λ several.
                all_may_come g.T.ImageTool.tool g.T.ImageTool.ready g.T.ImageTool.due g.T.ImageTool.kept old ms t l given is_at leads.0 leads.1.0,
          )
      | in-None-2 w ↦
          let one : length ms ≡ 1 = grind (arith, w.is_several.ensures.several, w.is_several.ensures.some, w.if-is_several.false) in
          subst (λ (f : ToolFault). JudgesAll (is_idle s.pending.phase) t l ms (Err f)) (sym w.fault-is) (
            judged_out_of_order g.T.ImageTool.tool g.T.ImageTool.ready g.T.ImageTool.due g.T.ImageTool.kept old ms t l given is_at one w.in-None.ensures,
            λ several. let no : ⊥ = omega (arith, one, several) in absurd no,
          )
    ])

pub invariant_of-self : goal.invariant_of-self
invariant_of-self g c =
    let s = c.self.inside in
    let leads = c.in-Some-place_after.ensures in (
      subst IsLawfulTool (sym c.in-Ok.ensures.tool) c.self.invariant.0,
      sound_fed g.T.ImageTool.tool g.T.ImageTool.ready g.T.ImageTool.due g.T.ImageTool.kept s.work c.take.new.work s.place c.in-Some-place_after.after
          (messages_in c.args.packet) s.pending c.in-Ok.pending s.fault c.in_default.is c.self.invariant.1 leads.0 leads.1.1 c.in-Ok.ensures,
    )
