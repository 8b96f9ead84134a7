use Rattle.std.proofs.Common.{◌≡◌, ◌+◌, ◌-◌, ◌*◌, ◌∙◌, ℕ, length, take, drop, ap, arith, length-drop}
use Rattle.std.proofs.lemmas.List.{length-take-le}
use Rattle.pnm_image.proofs.PickedLaws.{one_more_picked, runs_within, run_within}
use Rattle.pnm_image.proofs.rows.every_run.Goals as goal

pub overflow_mul-many : goal.overflow_mul-many
overflow_mul-many g c =
    let k = c.requires.0 in
    let fits = runs_within k c.args.each c.args.from c.args.step c.args.many (length c.args.runs.now) c.requires.2 c.requires.1 in
    omega (arith, fits)

pub overflow_add-start-in-loop-at : goal.overflow_add-start-in-loop-at
overflow_add-start-in-loop-at g c =
    let within = run_within c.requires.0 c.args.each c.args.from c.args.step c.args.many c.loop-at.at (length c.args.runs.now) c.requires.2 c.requires.1
    (omega arith) in
    omega (arith, within)

pub loop-at-preserved : goal.loop-at-preserved
loop-at-preserved g c =
    let each = c.args.each in
    let runs = c.args.runs.now in
    let start = (c.args.from + c.loop-at.at * c.args.step) * each in
    let within = run_within c.requires.0 each c.args.from c.args.step c.args.many c.loop-at.at (length runs) c.requires.2 c.requires.1 (omega arith) in
    let long : start + each - start ≡ each = omega arith in
    one_more_picked c.loop-at.at each c.args.from c.args.step runs c.loop-at.picked.items (take (start + each - start) (drop start runs))
    c.extend_from_slice.new.self.items c.loop-at.invariant c.in_ok-extend_from_slice.ensures.items (ap (λ (n : ℕ). take n (drop start runs)) long)
    (length-take-le (start + each - start) (drop start runs) (omega (arith, length-drop start runs, within)) ∙ long)
