use Rattle.pnm_repeat_tools.proofs.Words.{◌≡◌, ◌+◌, ◌-◌, ◌*◌, ◌++◌, ℕ, take, drop, ap, sym, ◌∙◌, arith, IfOk-weaker, fronts_in}
use Rattle.pnm_repeat_tools.proofs.KeptRowLaws.{fronts_are_all}
use Rattle.pnm_repeat_tools.proofs.TileRowsLaws.{front_more}
use Rattle.pnm_repeat_tools.proofs.kept_rows.slice_fronts.Goals as goal

pub loop-row-preserved : goal.loop-row-preserved
loop-row-preserved g c =
    let from = c.loop-row.row * c.args.row_length in
    let size : (from + c.args.shown) - from ≡ c.args.shown = omega arith in
    front_more c.args.shown c.args.row_length c.loop-row.row c.args.samples.now c.loop-row.invariant
    (c.in_ok-extend_from_slice.ensures.items ∙ ap (λ (n : ℕ). c.loop-row.fronts.items ++ take n (drop from c.args.samples.now)) size)

pub returns-then-shown-row_length : goal.returns-then-shown-row_length
returns-then-shown-row_length g c =
    let shown = c.args.shown in
    let samples = c.args.samples.now in
    let same = sym (fronts_are_all shown c.args.count samples)
    ∙ ap (λ (n : ℕ). fronts_in shown c.args.count n samples) c.if-shown-row_length.true in
    IfOk-weaker c.from_slice.result (λ fronts. fronts.items ≡ take (c.args.count * shown) samples)
    (λ fronts. fronts.items ≡ fronts_in shown c.args.count c.args.row_length samples) (λ fronts is. is ∙ same) c.from_slice.ensures.items
