use Rattle.pnm_row_tools.proofs.Words.{ℕ, ◌≡◌, ◌≤◌, ◌+◌, ◌-◌, ◌*◌, ◌/◌, List, length, ap, ◌∙◌, arith, mul-le-mul, copy_within}
use Rattle.pnm_row_tools.proofs.EachRowLaws.{copied_further}
use Rattle.pnm_row_tools.proofs.cut.copy_by_chunks.Goals as goal

pub loop-i-preserved : goal.loop-i-preserved
loop-i-preserved g c =
    let from = c.args.from in
    let to = c.args.to in
    let size : ℕ = length c.args.chunk.now in
    let done : ℕ = c.loop-i.i * size in
    let next : done + size ≡ (c.loop-i.i + 1) * size = omega arith in
    let within : (c.loop-i.i + 1) * size ≤ (c.args.count / size) * size =
    mul-le-mul {n₁ = c.loop-i.i + 1} {m₁ = size} {n₂ = c.args.count / size} {m₂ = size} (omega (arith, c.loop-i-test.true)) (omega arith) in
    c.copy_chunk.ensures ∙ ap (λ (l : List _). copy_within l (from + done) (from + done + size) (to + done)) c.loop-i.invariant
    ∙ copied_further c.args.samples.now from to done size (omega (arith, c.requires.down)) (omega (arith, within, next, c.requires.within))
    ∙ ap (λ (n : ℕ). copy_within c.args.samples.now from (from + n) to) next

pub returns : goal.returns
returns g c =
    let from = c.args.from in
    let to = c.args.to in
    let size : ℕ = length c.args.chunk.now in
    let done : ℕ = (c.args.count / size) * size in
    let all : c.loop-i.i ≡ c.args.count / size = omega (arith, c.loop-i-test.false, c.loop-i.auto.i-end) in
    let whole : done + (c.args.count - done) ≡ c.args.count = omega arith in
    c.copy_chunk-2.ensures
    ∙ ap (λ (l : List _). copy_within l (from + done) (from + done + (c.args.count - done)) (to + done))
    (c.loop-i.invariant ∙ ap (λ (n : ℕ). copy_within c.args.samples.now from (from + n * size) to) all)
    ∙ copied_further c.args.samples.now from to done (c.args.count - done) (omega (arith, c.requires.down)) (omega (arith, whole, c.requires.within))
    ∙ ap (λ (n : ℕ). copy_within c.args.samples.now from (from + n) to) whole
