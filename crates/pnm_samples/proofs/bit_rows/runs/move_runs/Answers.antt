use Rattle.pnm_samples.proofs.Words.{◌≡◌, ◌≤◌, ◌+◌, ◌-◌, ◌*◌, ◌/◌, ◌%◌, ℕ, ap, subst, arith, mul-le-mul, IsMovedRun, bytes_for}
use Rattle.pnm_samples.proofs.RunLaws.{one_more_run, one_run}
use Rattle.pnm_samples.proofs.bit_rows.runs.move_runs.Goals as goal

pub returns-then-pixels-lt18446744073709551615 : goal.returns-then-pixels-lt18446744073709551615
returns-then-pixels-lt18446744073709551615 c row lt =
    let a = c.args in
    let all : c.saturating_mul-pixels.result ≡ 8 * (a.count * a.apart) =
    omega (arith, c.saturating_mul-pixels.ensures, c.if-pixels-lt18446744073709551615.true) in
    let close : bytes_for a.each ≡ a.apart = omega (arith, c.div_ceil-size.ensures, c.if-size-apart.true) in
    one_run a.count a.each row (ap (λ (k : ℕ). k - a.left) all) (c.requires.within (omega (arith, lt))) close lt c.move_by_chunks.ensures

pub loop-row-preserved : goal.loop-row-preserved
loop-row-preserved c =
    let a = c.args in
    let row : ℕ = c.loop-row.row in
    let from : ℕ = a.start + row * a.apart + a.left / 8 in
    let size : c.div_ceil-size.result ≡ bytes_for a.each = omega (arith, c.div_ceil-size.ensures) in
    let place : row * c.div_ceil-size.result ≡ row * bytes_for a.each = ap (λ (n : ℕ). row * n) size in
    let narrow : bytes_for a.each ≤ a.apart = omega (arith, c.requires.within (omega (arith, c.loop-row-test.true))) in
    let before : row * bytes_for a.each ≤ row * a.apart =
    mul-le-mul {n₁ = row} {m₁ = bytes_for a.each} {n₂ = row} {m₂ = a.apart} (omega arith) narrow in
    one_more_run c.loop-row.invariant (omega (arith, before))
    (subst (λ (n : ℕ). IsMovedRun from n (a.left % 8) a.each c.loop-row.bytes c.move_run.new.bytes) place c.move_run.ensures)
