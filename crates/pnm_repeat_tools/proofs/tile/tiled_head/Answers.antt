use Rattle.pnm_repeat_tools.proofs.Words.{inl, refl, ap, sym, ◌∙◌, Shape, head_value, Tile, head_so, fault_so}
use Rattle.pnm_repeat_tools.proofs.TileRowLaws.{tiled_without_rows, tiled_head_made, tiled_row_small}
use Rattle.pnm_repeat_tools.proofs.tile.tiled_head.Goals as goal

pub returns-then-shape-eq0-clause-refused : goal.returns-then-shape-eq0-clause-refused
returns-then-shape-eq0-clause-refused c =
    inl (tiled_without_rows c.args.width c.args.height c.args.head.now (ap (λ (z : Shape). z.height) (sym c.shape-shape.ensures.shape) ∙ c.if-shape-eq0.true))

pub returns-clause-made : goal.returns-clause-made
returns-clause-made c =
    let s = c.shape-shape.result in
    let made = tiled_head_made c.args.width c.args.height c.args.head.now c.shape-shape.ensures.shape c.tuple_type.ensures c.if-shape-eq0.false in
    head_so (Tile c.args.width c.args.height) c.args.head.now (head_value (record s { width = c.args.width; height = c.args.height }) c.tuple_type.result.now)
    c.head_within_limits.result made c.head_within_limits.ensures.made

pub returns-clause-limits : goal.returns-clause-limits
returns-clause-limits c =
    let s = c.shape-shape.result in
    tiled_row_small c.args.width c.args.height
    (head_value (record s { width = c.args.width; height = c.args.height }) c.tuple_type.result.now) c.head_within_limits.result c.shape-shape.ensures.shape
    refl c.head_within_limits.ensures.made

pub returns-clause-refused : goal.returns-clause-refused
returns-clause-refused c =
    let s = c.shape-shape.result in
    let made = tiled_head_made c.args.width c.args.height c.args.head.now c.shape-shape.ensures.shape c.tuple_type.ensures c.if-shape-eq0.false in
    fault_so (Tile c.args.width c.args.height) c.args.head.now (head_value (record s { width = c.args.width; height = c.args.height }) c.tuple_type.result.now)
    c.head_within_limits.result made c.head_within_limits.ensures.refused
