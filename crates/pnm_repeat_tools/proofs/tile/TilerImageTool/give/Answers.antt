use Rattle.pnm_repeat_tools.proofs.Words.{◌-◌, ◌++◌, ◌∙◌, List, ℕ, refl, ap, sym, arith, tiled, tiled_due}
use Rattle.pnm_repeat_tools.proofs.TileRowsLaws.{due_in_parts, rows_within, tiles_same}
use Rattle.pnm_repeat_tools.proofs.tile.TilerImageTool.give.Goals as goal

pub new-rows-requires-clause-within : goal.new-rows-requires-clause-within
new-rows-requires-clause-within c =
    let x = c.self.inside in
    let known = c.self.invariant (omega (arith, c.if-self-eq0.false)) in
    let tiles = tiles_same x.width x.height 0 x.shape.width x.shape.depth x.left 0 x.rows known.1 in
    rows_within x.shape.maxval x.width x.shape.width x.shape.depth (x.height - x.left) c.count_together-count.result x.rows tiles known.2
    c.in_ok-samples.ensures.made

pub returns-clause-due : goal.returns-clause-due
returns-clause-due c =
    let x = c.self.inside in
    let count = c.count_together-count.result in
    let known = c.self.invariant (omega (arith, c.if-self-eq0.false)) in
    let w = tiled x.width x.height x.shape.width x.shape.depth x.rows x.left in
    ap tiled_due (sym c.self.view_is)
    ∙ due_in_parts w count c.count_together-count.ensures.most known.0 refl refl c.in_ok-samples.ensures.made
    ∙ ap (λ (l : List (List ℕ)). l ++ tiled_due (tiled x.width x.height x.shape.width x.shape.depth x.rows (x.left - count)))
    (sym (c.once.ensures ∙ c.new-rows.ensures))
