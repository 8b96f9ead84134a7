use Rattle.pnm_samples.proofs.Words.{◌≡◌, ◌+◌, ◌-◌, ◌∙◌, ℕ, List, take, drop, ap, arith, bytes_for, all_pixels}
use Rattle.pnm_samples.proofs.RunLaws.{put_front, put_run}
use Rattle.pnm_samples.proofs.bit_rows.runs.move_run.Goals as goal

pub returns-then-to-size : goal.returns-then-to-size
returns-then-to-size c =
    let a = c.args in
    let front = c.split_at_mut-front.result.0.now in
    let back = c.split_at_mut-front.result.1.now in
    let n : ℕ = a.to + c.div_ceil-size.result - a.to in
    let size : n ≡ bytes_for a.count = omega (arith, c.div_ceil-size.ensures) in
    put_run n c.fill_run.new.buffer size (omega (arith, c.fill_run.auto.buffer, size, c.if-to-size.true)) (omega (arith, c.requires.run, c.requires.down))
    (put_front a.to n front back c.fill_run.new.buffer c.split_at_mut-front.ensures.value
    (omega (arith, size, c.if-to-size.true, c.split_at_mut-front.ensures.front_len)))
    (c.fill_run.ensures ∙ ap (λ (l : List ℕ). take a.count (drop a.skipped (all_pixels l))) c.split_at_mut-front.ensures.back)
