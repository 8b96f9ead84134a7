use Rattle.pnm_filters.proofs.Words.{state_value, subst, sym, ◌∙◌, IsLawfulTool}
use Rattle.pnm_filters.proofs.GivingSteps.{given_by, stop_alone_by, full_by, wanted_memory}
use Rattle.pnm_filters.proofs.StateSteps.{sound_given}
use Rattle.pnm_filters.proofs.state.StateFilter.next.Goals as goal

pub returns-in-Ok-clause-given : goal.returns-in-Ok-clause-given
returns-in-Ok-clause-given g c =
    let s = c.self.inside in
    rw (← c.self.view_is)
    (given_by g.T.ImageTool.tool g.T.ImageTool.ready g.T.ImageTool.due g.T.ImageTool.kept (state_value s.work s.place s.pending s.fault)
    c.give.new.work c.give.new.pending s.fault c.in-Ok.given c.in-Ok.ensures)

pub returns-in-Ok-clause-stop_alone : goal.returns-in-Ok-clause-stop_alone
returns-in-Ok-clause-stop_alone g c =
    let s = c.self.inside in
    rw (← c.self.view_is)
    (stop_alone_by g.T.ImageTool.tool g.T.ImageTool.ready g.T.ImageTool.due g.T.ImageTool.kept
    (state_value s.work s.place s.pending s.fault) c.give.new.work c.give.new.pending c.in-Ok.given
    c.in-Ok.ensures)

pub returns-in-Ok-clause-full : goal.returns-in-Ok-clause-full
returns-in-Ok-clause-full g c =
    let s = c.self.inside in
    rw (← c.self.view_is)
    (full_by g.T.ImageTool.tool g.T.ImageTool.ready g.T.ImageTool.due g.T.ImageTool.kept (state_value s.work s.place s.pending s.fault)
    c.give.new.work c.give.new.pending s.fault c.in-Ok.given c.in-Ok.ensures)

pub returns-in-Err-clause-failed : goal.returns-in-Err-clause-failed
returns-in-Err-clause-failed g c = λ none. (
  c.in-Err.ensures.0,
  λ t l given at.
      let s = c.self.inside in
      let is_at = rw (← c.self.view_is) at at in
      wanted_memory g.T.ImageTool.tool g.T.ImageTool.ready g.T.ImageTool.due g.T.ImageTool.kept (state_value s.work s.place s.pending
      s.fault)
      t l given is_at c.in-Err.ensures.1,
)

pub invariant_of-self : goal.invariant_of-self
invariant_of-self g c =
    let s = c.self.inside in (
      subst IsLawfulTool (sym c.in-Ok.ensures.tool) c.self.invariant.0,
      sound_given g.T.ImageTool.tool g.T.ImageTool.ready g.T.ImageTool.due g.T.ImageTool.kept s.work c.give.new.work s.place c.in-Ok.given
          s.pending c.give.new.pending s.fault c.in_default.is c.self.invariant.1 c.in-Ok.ensures,
    )

pub invariant_of-self-in-Err : goal.invariant_of-self-in-Err
invariant_of-self-in-Err g c =
    (subst IsLawfulTool (sym (c.release.ensures.same ∙ c.in-Err.ensures.2)) c.self.invariant.0, c.release.ensures.kept)
