use Rattle.pnm_repeat_tools.proofs.Words.{rules, ◌≡◌, ◌-◌, ◌*◌, ◌<◌, ◌≤◌, ◌++◌, length, take, drop, min, ap, sym, ◌∙◌, arith, append_assoc, drop_at}
use Rattle.pnm_repeat_tools.proofs.Words.{length-append, length-drop}
use Rattle.pnm_repeat_tools.proofs.TileRowLaws.{prefix_begins, prefix_grows, prefix_stands, prefix_is_all, longer_piece, behind_more}
use Rattle.pnm_repeat_tools.proofs.tile.tile_row.Goals as goal

pub loop-tiled-init : goal.loop-tiled-init
loop-tiled-init g c =
    let s = c.args.shape in
    let old = c.args.tiled.now.items in
    let begun = take c.min.result c.args.row.now in
    let behind = ap (drop c.len-start.result) c.in_ok-extend_from_slice.ensures.items ∙ drop_at old begun c.len-start.result (omega arith) in (
      omega arith,
      c.in_ok-extend_from_slice.ensures.items ∙ ap (λ l. old ++ l) (sym behind),
      prefix_begins c.args.width s.width s.depth c.min.result c.args.row.now (drop c.len-start.result c.extend_from_slice.new.self.items) c.requires.row.0
          c.requires.row.1 (search rules) behind,
    )

pub loop-tiled-smaller : goal.loop-tiled-smaller
loop-tiled-smaller g c =
    let s = c.args.shape in
    let start = c.len-start.result in
    let items = c.loop-tiled.tiled.items in
    let part = drop start items in
    let h = c.loop-tiled.invariant in
    let within : start ≤ length items = omega (arith, h.0, ap length h.1, length-append c.args.tiled.now.items part) in
    let short : length part < c.args.width * s.depth = omega (arith, length-drop start items, c.loop-tiled.tiled.ok.0) in
    let least : c.min-more.result ≡ min (length part) (c.args.width * s.depth - length part) =
    omega (arith, length-drop start items, c.loop-tiled.tiled.ok.0, c.min-more.ensures) in
    let made = c.in_ok-repeat_samples.ensures in
    let there = prefix_stands c.requires.row.0 c.requires.row.1 h.2 short in
    longer_piece start (c.args.width * s.depth) items within there short least made

pub loop-tiled-preserved : goal.loop-tiled-preserved
loop-tiled-preserved g c =
    let s = c.args.shape in
    let start = c.len-start.result in
    let items = c.loop-tiled.tiled.items in
    let old = c.args.tiled.now.items in
    let part = drop start items in
    let h = c.loop-tiled.invariant in
    let within : start ≤ length items = omega (arith, h.0, ap length h.1, length-append old part) in
    let short : length part < c.args.width * s.depth = omega (arith, length-drop start items, c.loop-tiled.tiled.ok.0) in
    let least : c.min-more.result ≡ min (length part) (c.args.width * s.depth - length part) =
    omega (arith, length-drop start items, c.loop-tiled.tiled.ok.0, c.min-more.ensures) in
    let made = c.in_ok-repeat_samples.ensures in
    let behind = behind_more start c.min-more.result items within made in (
      h.0,
      made ∙ ap (λ l. l ++ take c.min-more.result part) h.1 ∙ append_assoc old part (take c.min-more.result part) ∙ ap (λ l. old ++ l) (sym behind),
      prefix_grows c.requires.row.0 c.requires.row.1 h.2 short least behind,
    )

pub returns-clause-made : goal.returns-clause-made
returns-clause-made g c =
    let s = c.args.shape in
    let h = c.loop-tiled.invariant in
    let items = c.loop-tiled.tiled.items in
    h.1 ∙ ap (λ l. c.args.tiled.now.items ++ l) (prefix_is_all c.requires.row.0 c.requires.row.1 h.2
    (omega (arith, length-drop c.len-start.result items, c.loop-tiled.tiled.ok.0)))

pub repeat_samples-requires-clause-some : goal.repeat_samples-requires-clause-some
repeat_samples-requires-clause-some g c =
    let s = c.args.shape in
    let start = c.len-start.result in
    let items = c.loop-tiled.tiled.items in
    let part = drop start items in
    let h = c.loop-tiled.invariant in
    let short : length part < c.args.width * s.depth = omega (arith, length-drop start items, c.loop-tiled.tiled.ok.0) in
    let there = prefix_stands c.requires.row.0 c.requires.row.1 h.2 short in
    omega (arith, there, length-drop start items, c.min-more.ensures)
