use Rattle.pnm_tools.proofs.Words.{◌++◌, sym, subst, messages_in, FusedFilter, FilterBusy}
use Rattle.pnm_tools.proofs.FusedSteps.{feeds, refuses}
use Rattle.pnm_tools.proofs.fused_filter.FusedFilter.feed.Goals as goal

pub returns-in-Ok-Ok-clause-fed : goal.returns-in-Ok-Ok-clause-fed
returns-in-Ok-Ok-clause-fed g c = λ tool l given stage.
    let idle = rw c.in-AtWork.is at stage in
    let fed = rw c.in-Ok-Ok.field-0-is at c.in-Ok-Ok.ensures in
    feeds g.F.Filter.at g.F.Filter.all_given g.F.Filter.stopped c.in-AtWork.filter c.feed.new.self (messages_in c.args.packet) tool l given idle
    (fed.accepted tool l given idle.state) (fed.judged idle.going tool l given idle.state) fed.goes_on.1

-- the tool refused the first message
pub returns-in-Ok-Err-clause-fed : goal.returns-in-Ok-Err-clause-fed
returns-in-Ok-Err-clause-fed g c = λ tool l given stage.
    let idle = rw c.in-AtWork.is at stage in
    let fed = rw c.in-Ok-Err.field-0-is at c.in-Ok-Err.ensures in
    let ms = messages_in c.args.packet in
    subst (λ (f : FusedFilter g.row.F.Denot). FilterBusy g.F.Filter.at g.F.Filter.stopped f tool (l ++ ms) given) (sym c.refuse.ensures)
    (refuses g.F.Filter.at g.F.Filter.all_given g.F.Filter.stopped c.in-AtWork.filter ms c.in-Ok-Err.fault tool l given idle
    (fed.judged idle.going tool l given idle.state))
