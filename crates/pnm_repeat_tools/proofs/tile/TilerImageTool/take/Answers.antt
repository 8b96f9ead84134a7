use Rattle.pnm_repeat_tools.proofs.Words.{◌≡◌, ◌-◌, ◌*◌, ◌≤◌, ◌<◌, ◌++◌, All, length, map, min, take, refl, ap, subst, sym, ◌∙◌, arith, ℕ, Tiled, tiled}
use Rattle.std.proofs.Math.Nat.{mul-le-mul_right}
use Rattle.pnm_repeat_tools.proofs.CutRowsLaws.{lengths_of}
use Rattle.pnm_repeat_tools.proofs.TileRowLaws.{lengths_shown, none_due}
use Rattle.pnm_repeat_tools.proofs.TileRowsLaws.{none_answer, kept_rows, rows_beyond, tiling_behind}
use Rattle.pnm_repeat_tools.proofs.tile.TilerImageTool.take.Goals as goal

pub returns-then-y-self-clause-ready : goal.returns-then-y-self-clause-ready
returns-then-y-self-clause-ready c = λ come ready.
    let w = c.args.self.now in
    let s = c.args.shape in
    let beyond : w.height ≤ c.args.y = omega (arith, c.if-y-self.true, ap (λ (w : Tiled). w.height) c.self.view_is) in
    tiling_behind w w s come c.args.rows refl ready.none_given
    (rows_beyond w.width w.height s c.requires.ready.0 come c.args.rows c.requires.ready.2.rows c.requires.ready.1 beyond ready.rows) c.requires.rows.1 ready

pub returns-then-y-self-clause-due : goal.returns-then-y-self-clause-due
returns-then-y-self-clause-due c =
    let w = c.args.self.now in
    none_due w c.requires.ready.2.none_given ∙ sym (none_answer w.width w.height c.args.shape c.args.y c.args.rows)

pub push_fronts-requires-clause-alike : goal.push_fronts-requires-clause-alike
push_fronts-requires-clause-alike c =
    let x = c.self.inside in
    let s = c.args.shape in
    let ready = rw (← c.self.view_is) at c.requires.ready.2 in
    subst (λ (n : ℕ). All (λ row. length row ≡ n) x.rows) (sym c.shown_length-shown.ensures) (lengths_shown ready)

pub push_fronts-requires-clause-within : goal.push_fronts-requires-clause-within
push_fronts-requires-clause-within c = λ k d lt.
    let x = c.self.inside in
    let s = c.args.shape in
    let fewer : min x.width s.width * s.depth ≤ s.width * s.depth = mul-le-mul_right {m = min x.width s.width} {n = s.width} s.depth (omega arith) in
    omega (arith, lengths_of s c.args.rows c.requires.rows.1 k d lt, fewer, c.shown_length-shown.ensures)

pub returns-clause-ready : goal.returns-clause-ready
returns-clause-ready c = λ come ready.
    let x = c.self.inside in
    let s = c.args.shape in
    let now = c.push_fronts.new.self in
    let w = tiled x.width x.height x.shape.width x.shape.depth x.rows x.left in
    let ready_now = rw (← c.self.view_is) at ready in
    let before = rw (← c.self.view_is) at c.requires.ready.2 in
    let within : c.args.y < x.height = omega (arith, c.if-y-self.false) in
    let most : c.min-kept.result ≡ min (x.height - c.args.y) (length c.args.rows) =
    c.min-kept.ensures ∙ ap (λ (n : ℕ). min (x.height - c.args.y) n) c.count.ensures.rows in
    let stored = c.in_ok-push_fronts.ensures.added
    ∙ ap (λ (n : ℕ). x.rows ++ map (take n) (take c.min-kept.result c.args.rows)) c.shown_length-shown.ensures in
    tiling_behind w (tiled x.width x.height x.shape.width x.shape.depth now x.left) s come c.args.rows refl ready_now.none_given
    (kept_rows x.width x.height s c.requires.ready.0 come c.args.rows before.rows c.requires.ready.1 within most ready_now.rows stored)
    c.requires.rows.1 ready_now

pub returns-clause-due : goal.returns-clause-due
returns-clause-due c =
    let x = c.self.inside in
    let w = c.args.self.now in
    let none = ap (λ (w : Tiled). w.left) c.self.view_is ∙ c.requires.ready.2.none_given in
    none_due (tiled x.width x.height x.shape.width x.shape.depth c.push_fronts.new.self x.left) none
    ∙ sym (none_answer w.width w.height c.args.shape c.args.y c.args.rows)
