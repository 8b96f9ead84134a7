use Rattle.pnm_repeat_tools.proofs.Words.{rules, ◌≡◌, ℕ, ◌<◌, ◌++◌, List, map, take, min, ap, ap₂, subst, sym, ◌∙◌, arith, Tiled, tiled, tiled_due, shown_row}
use Rattle.pnm_repeat_tools.proofs.Words.{HasTiles, tiled_at_end}
use Rattle.pnm_repeat_tools.proofs.TileRowLaws.{due_at_end, none_due, tiles_at_end, rows_within_at_end}
use Rattle.pnm_repeat_tools.proofs.tile.TilerImageTool.end.Goals as goal

pub returns-clause-due : goal.returns-clause-due
returns-clause-due c = λ come count ready.
    let x = c.self.inside in
    let was = c.args.self.now in
    let s = c.args.shape in
    let across = ap (λ (w : Tiled). w.width) c.self.view_is in
    let down = ap (λ (w : Tiled). w.height) c.self.view_is in
    let rows = ap (λ (w : Tiled). w.rows) c.self.view_is ∙ ready.rows ∙ ap₂ (λ (m n : ℕ). map (shown_row m s) (take n come)) (sym across) (sym down) in
    let least : c.min-width.result ≡ min x.width s.width = search rules in
    ap (λ (n : ℕ). tiled_due (tiled x.width x.height n s.depth x.rows x.height)) least
    ∙ due_at_end x.width x.height s come rows count ready.some ready.lengths
    ∙ ap (λ (w : Tiled). tiled_at_end w.width w.height s come) c.self.view_is
    ∙ ap (λ (l : List (List ℕ)). l ++ tiled_at_end was.width was.height s come) (sym (none_due was ready.none_given))

pub invariant_of-self : goal.invariant_of-self
invariant_of-self c = λ wanted.
    let x = c.self.inside in
    let s = c.args.shape in
    let ready = rw (← c.self.view_is) at c.requires.ready.2 in
    let w = tiled x.width x.height x.shape.width x.shape.depth x.rows x.left in
    let least : c.min-width.result ≡ min x.width s.width = search rules in
    let wide : 0 < x.width = omega (arith, c.requires.lawful.0.0, ap (λ (w : Tiled). w.width) c.self.view_is) in (
      omega arith,
      subst (λ (n : ℕ). HasTiles (tiled x.width x.height n s.depth x.rows x.height)) (sym least) (tiles_at_end ready c.requires.ready.1 ready.some wide wanted),
      rows_within_at_end ready,
    )
