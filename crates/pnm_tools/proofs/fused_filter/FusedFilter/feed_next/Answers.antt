use Rattle.pnm_tools.proofs.Words.{◌∙◌, ◌++◌, Option, ap, subst, sym, is_some, messages_in, Packet, FusedFilter, FilterAt, packet_list, unfed_in}
use Rattle.pnm_tools.proofs.UnfedSteps.{drops_unfed, lacks_memory}
use Rattle.pnm_tools.proofs.fused_filter.FusedFilter.feed_next.Goals as goal

-- the tool has refused
pub returns-then-is_some-clause-dropped : goal.returns-then-is_some-clause-dropped
returns-then-is_some-clause-dropped g c = λ _ tool l given stage more.
    drops_unfed g.F.Filter.at g.F.Filter.all_given g.F.Filter.stopped c.args.self.now tool l given (unfed_in c.args.unfed.now)
    (sym (c.is_some.ensures ∙ ap is_some c.fault.ensures) ∙ c.if-is_some.true) stage

-- there is no memory for the next copies
pub returns-in_default-clause-dropped : goal.returns-in_default-clause-dropped
returns-in_default-clause-dropped g c = λ _ tool l given stage more.
    lacks_memory g.F.Filter.at g.F.Filter.all_given g.F.Filter.stopped c.args.self.now c.refuse.new.self tool l given (unfed_in c.args.unfed.now)
    (sym (c.is_some.ensures ∙ ap is_some c.fault.ensures) ∙ c.if-is_some.false) c.refuse.ensures stage (more c.in_default.ensures.failed)

-- not all of the packet may come
pub returns-in-Err-clause-fed : goal.returns-in-Err-clause-fed
returns-in-Err-clause-fed g c = λ is.
    let next = c.feed_first.ensures.fed is in
    let left = unfed_in c.next.new.self in
    record {
      fed = next.fed;
      parts = c.in-Ok.ensures.taken ∙ ap (λ (p : Option Packet). packet_list p ++ left) c.in-Some.is
          ∙ ap (λ (p : Packet). messages_in p ++ left) (sym c.in-Err.ensures.back.0) ∙ next.parts;
      busy = λ tool l given stage.
          next.busy tool l given
          (subst (λ (f : FusedFilter g.row.F.Denot). FilterAt g.F.Filter.at g.F.Filter.all_given g.F.Filter.stopped f tool l given)
          (sym c.in-Err.ensures.back.1) stage);
    }
