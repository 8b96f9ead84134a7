use Rattle.pnm_samples.proofs.Words.{◌≡◌, ◌≤◌, ◌+◌, ◌-◌, ◌*◌, ◌/◌, ℕ, length, subst, arith, IsMovedRun}
use Rattle.pnm_samples.proofs.RunLaws.{moved_further}
use Rattle.pnm_samples.proofs.bit_rows.runs.move_by_chunks.Goals as goal

pub loop-i-preserved : goal.loop-i-preserved
loop-i-preserved c =
    let a = c.args in
    let size : ℕ = length a.chunk.now in
    let done : ℕ = c.loop-i.i * size in
    let more : 8 * done + 8 * size ≡ 8 * ((c.loop-i.i + 1) * size) = omega arith in
    subst (λ (n : ℕ). IsMovedRun a.from a.to a.skipped n a.bytes.now c.move_chunk.new.bytes) more
    (moved_further done (omega (arith, c.requires.down)) c.loop-i.invariant c.move_chunk.ensures)

pub returns : goal.returns
returns c =
    let a = c.args in
    let size : ℕ = length a.chunk.now in
    let chunks : ℕ = a.count / (8 * size) in
    let done : ℕ = chunks * size in
    let all : c.loop-i.i ≡ chunks = omega (arith, c.loop-i-test.false, c.loop-i.auto.i-end) in
    let places : 8 * done ≡ chunks * (8 * size) = omega arith in
    let within : chunks * (8 * size) ≤ a.count = omega arith in
    let whole : 8 * done + (a.count - 8 * done) ≡ a.count = omega (arith, places, within) in
    let first : IsMovedRun a.from a.to a.skipped (8 * done) a.bytes.now c.loop-i.bytes =
    subst (λ (n : ℕ). IsMovedRun a.from a.to a.skipped (8 * (n * size)) a.bytes.now c.loop-i.bytes) all c.loop-i.invariant in
    subst (λ (n : ℕ). IsMovedRun a.from a.to a.skipped n a.bytes.now c.move_chunk-2.new.bytes) whole (moved_further done (omega (arith, c.requires.down)) first
    c.move_chunk-2.ensures)
