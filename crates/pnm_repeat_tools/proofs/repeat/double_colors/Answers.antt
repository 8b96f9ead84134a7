use Rattle.pnm_repeat_tools.proofs.Words.{◌≡◌, ◌≤◌, ◌+◌, ◌-◌, ◌*◌, ◌/◌, ℕ, length, take, refl, subst, ap, ◌∙◌, arith, sym, same_len_mid, mid_len, take_all}
use Rattle.pnm_repeat_tools.proofs.EnlargeRowLaws.{columns_repeated, four_more, color_doubled}
use Rattle.pnm_repeat_tools.proofs.repeat.double_colors.Goals as goal

pub loop-x-preserved : goal.loop-x-preserved
loop-x-preserved g c =
    let x = c.loop-x.x in
    let buffer = c.loop-x.buffer in
    let part = c.double_four_colors.new.buffer in
    let long : length c.args.row.now ≡ c.args.shape.width * 3 = c.requires.row ∙ ap (λ (n : ℕ). c.args.shape.width * n) c.requires.depth in
    let fits : 24 * x + 24 ≤ length buffer = omega (arith, c.loop-x.invariant.1) in
    let same : length part ≡ 24 = omega (arith, c.double_four_colors.auto.buffer, mid_len (24 * x) (24 * x + 24) buffer fits) in (
      four_more c.args.row.now buffer x _ _ c.loop-x.invariant.0 fits (omega arith) same c.double_four_colors.ensures,
      same_len_mid (24 * x) (24 * x + 24 - 24 * x) buffer part (omega (arith, same, mid_len (24 * x) (24 * x + 24) buffer fits)) ∙ c.loop-x.invariant.1,
    )

pub color_at-requires : goal.color_at-requires
color_at-requires g c =
    let long : length c.args.row.now ≡ c.args.shape.width * 3 = c.requires.row ∙ ap (λ (n : ℕ). c.args.shape.width * n) c.requires.depth in
    omega (arith, long)

pub put_twice-requires : goal.put_twice-requires
put_twice-requires g c =
    let long : length c.args.row.now ≡ c.args.shape.width * 3 = c.requires.row ∙ ap (λ (n : ℕ). c.args.shape.width * n) c.requires.depth in
    omega (arith, long, c.loop-x-2.invariant.size)

pub loop-x-2-init : goal.loop-x-2-init
loop-x-2-init g c =
    let all : c.loop-x.x ≡ c.args.shape.width / 4 = omega arith in
    record {
      prefix = subst (λ (n : ℕ). take (6 * (4 * n)) c.loop-x.buffer ≡ columns_repeated 2 3 c.args.row.now (4 * n)) all c.loop-x.invariant.0;
      size = c.loop-x.invariant.1 ∙ c.requires.buffer;
    }

pub loop-x-2-preserved : goal.loop-x-2-preserved
loop-x-2-preserved g c =
    let x = c.loop-x-2.x in
    let next : 6 * (x + 1) ≡ 6 * x + 6 = omega arith in
    record {
      prefix = ap (λ (n : ℕ). take n c.put_twice.new.buffer) next
          ∙ color_doubled c.args.row.now c.loop-x-2.buffer c.put_twice.new.buffer x (6 * x) c.loop-x-2.invariant.prefix c.put_twice.ensures.stored
          c.color_at.ensures refl;
      size = c.put_twice.ensures.long ∙ c.loop-x-2.invariant.size;
    }

pub loop-x-init : goal.loop-x-init
loop-x-init g c = (refl, refl)

pub double_four_colors-requires-clause-row : goal.double_four_colors-requires-clause-row
double_four_colors-requires-clause-row g c =
    let from = 12 * c.loop-x.x in
    let long : length c.args.row.now ≡ c.args.shape.width * 3 = c.requires.row ∙ ap (λ (n : ℕ). c.args.shape.width * n) c.requires.depth in
    let count : (from + 12) - from ≡ 12 = omega arith in
    mid_len from (from + 12) c.args.row.now (omega (arith, long)) ∙ count

pub double_four_colors-requires-clause-buffer : goal.double_four_colors-requires-clause-buffer
double_four_colors-requires-clause-buffer g c =
    let from = 24 * c.loop-x.x in
    let long : length c.args.row.now ≡ c.args.shape.width * 3 = c.requires.row ∙ ap (λ (n : ℕ). c.args.shape.width * n) c.requires.depth in
    let count : (from + 24) - from ≡ 24 = omega arith in
    mid_len from (from + 24) c.loop-x.buffer (omega (arith, long, c.loop-x.invariant.1)) ∙ count

pub returns : goal.returns
returns g c =
    let x = c.loop-x-2.x in
    let buffer = c.loop-x-2.buffer in
    let long : length c.args.row.now ≡ c.args.shape.width * 3 = c.requires.row ∙ ap (λ (n : ℕ). c.args.shape.width * n) c.requires.depth in
    let all : x ≡ c.args.shape.width = omega arith in
    let le : length buffer ≤ 6 * x = omega (arith, long, c.loop-x-2.invariant.size) in
    sym (take_all (6 * x) buffer le) ∙ c.loop-x-2.invariant.prefix ∙ ap (columns_repeated 2 3 c.args.row.now) all
    ∙ ap (λ (depth : ℕ). columns_repeated 2 depth c.args.row.now c.args.shape.width) (sym c.requires.depth)
