use Rattle.pnm_repeat_tools.proofs.Words.{◌≡◌, ◌≤◌, ◌+◌, ◌*◌, ◌∙◌, length, ap, arith, ℕ, mul-le-mul, refl}
use Rattle.pnm_repeat_tools.proofs.CopyLaws.{color_repeated}
use Rattle.pnm_repeat_tools.proofs.repeat.repeat_colors.Goals as goal

pub put_colors-requires : goal.put_colors-requires
put_colors-requires g c =
    let x = c.loop-x.x in
    let across = c.args.across in
    let width = c.args.shape.width in
    let size : length c.args.row.now ≡ width * 3 = c.requires.row ∙ ap (λ (n : ℕ). width * n) c.requires.depth in
    let all : length c.loop-x.buffer ≡ width * 3 * across = c.loop-x.invariant.size ∙ ap (λ (n : ℕ). n * across) size in
    let within : (3 * x + 3) * across ≤ width * 3 * across = mul-le-mul {n₁ = 3 * x + 3} {m₁ = across} {n₂ = width * 3} {m₂ = across} (omega arith)
    (omega arith) in
    omega (arith, all, within)

pub loop-x-preserved : goal.loop-x-preserved
loop-x-preserved g c =
    record {
      prefix = color_repeated c.args.across c.loop-x.x c.args.row.now c.loop-x.buffer c.put_colors.new.buffer c.loop-x.invariant.prefix
          c.color_at.ensures refl c.put_colors.ensures.stored;
      size = c.put_colors.ensures.long ∙ c.loop-x.invariant.size;
    }

pub color_at-requires : goal.color_at-requires
color_at-requires g c =
    let size : length c.args.row.now ≡ c.args.shape.width * 3 = c.requires.row ∙ ap (λ (n : ℕ). c.args.shape.width * n) c.requires.depth in
    omega (arith, size)

pub overflow_mul-x-in-loop-x : goal.overflow_mul-x-in-loop-x
overflow_mul-x-in-loop-x g c =
    let count = length c.args.row.now in
    let across = c.args.across in
    let size : count ≡ c.args.shape.width * 3 = c.requires.row ∙ ap (λ (n : ℕ). c.args.shape.width * n) c.requires.depth in
    let within : 3 * c.loop-x.x * across ≤ count * across = mul-le-mul {n₁ = 3 * c.loop-x.x} {m₁ = across} {n₂ = count} {m₂ = across} (omega (arith, size))
    (omega arith) in
    omega (arith, within, c.loop-x.invariant.size)
