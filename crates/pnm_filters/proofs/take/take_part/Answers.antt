use Rattle.pnm_filters.proofs.Words.{◌+◌, ◌++◌, length, head_messages, rows_list, rows_come}
use Rattle.pnm_filters.proofs.TakingSteps.{end_may_come, part_is_accepted, part_lies_inside, rest_may_come, rows_may_come}
use Rattle.pnm_filters.proofs.take.take_part.Goals as goal

pub begin-requires-clause-inside : goal.begin-requires-clause-inside
begin-requires-clause-inside g c =
    let parts = c.into_parts-head.result in
    part_lies_inside c.args.place parts.0 parts.1 parts.2 (rw c.into_parts-head.ensures.parts at c.into_parts-head.ensures.some)
    (rw c.into_parts-head.ensures.parts at c.requires.accepted)

pub take_rows-requires-clause-accepted : goal.take_rows-requires-clause-accepted
take_rows-requires-clause-accepted g c =
    let parts = c.into_parts-head.result in
    let r = c.in_ok-shape in
    rows_may_come r.shape r.y parts.1 parts.2
    (rest_may_come c.args.place r.shape r.y parts.0 parts.1 parts.2 r.ensures.begun.inside (rw c.into_parts-head.ensures.parts at c.requires.accepted))

pub end-requires-clause-ready : goal.end-requires-clause-ready
end-requires-clause-ready g c =
    let parts = c.into_parts-head.result in
    let r = c.in_ok-shape in
    let come = c.requires.ready.0 in (
      r.y + length (rows_list parts.1),
      end_may_come r.shape r.y parts.1 parts.2
          (rest_may_come c.args.place r.shape r.y parts.0 parts.1 parts.2 r.ensures.begun.inside (rw c.into_parts-head.ensures.parts at c.requires.accepted)),
      (
        rows_come come (head_messages parts.0) ++ rows_list parts.1,
        c.in_ok-take_rows.ensures.taken.ready (rows_come come (head_messages parts.0)) (r.ensures.begun.ready come c.requires.ready.1),
      ),
    )

pub returns : goal.returns
returns g c =
    let parts = c.into_parts-head.result in
    let r = c.in_ok-shape in
    let may = end_may_come r.shape r.y parts.1 parts.2
    (rest_may_come c.args.place r.shape r.y parts.0 parts.1 parts.2 r.ensures.begun.inside (rw c.into_parts-head.ensures.parts at c.requires.accepted)) in
    let ended = c.end.ensures (r.y + length (rows_list parts.1)) may in
    let accepted = part_is_accepted g.T.ImageTool.tool g.T.ImageTool.ready g.T.ImageTool.due g.T.ImageTool.kept c.args.work.now c.begin.new.work
    c.take_rows.new.work c.end.new.work c.args.place r.shape r.y parts.0 r.made parts.1 parts.2 r.ensures.begun c.in_ok-take_rows.ensures.taken ended in
    rw (c.phase_of.ensures, c.into_parts-head.ensures.parts) accepted
