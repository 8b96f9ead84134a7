use Rattle.pnm_samples.proofs.Words.{◌≡◌, ◌+◌, ◌-◌, ◌∙◌, ℕ, List, length, take, drop, refl, ap, arith, take_rest, bytes_for, all_pixels}
use Rattle.pnm_samples.proofs.RunLaws.{put_run}
use Rattle.pnm_samples.proofs.bit_rows.runs.move_chunk.Goals as goal

pub returns : goal.returns
returns c =
    let a = c.args in
    let long : length c.fill_run.new.buffer ≡ bytes_for a.count = omega (arith, c.fill_run.auto.buffer, c.requires.chunk) in
    put_run (a.to + length c.fill_run.new.buffer - a.to) c.copy_from_slice.new.self (omega (arith, long))
    (ap length c.copy_from_slice.ensures.after ∙ long) (omega (arith, c.requires.run, c.requires.down)) refl
    (ap (λ (l : List ℕ). take a.count (all_pixels l)) c.copy_from_slice.ensures.after ∙ c.fill_run.ensures
    ∙ ap (λ (l : List ℕ). take a.count (drop a.skipped (all_pixels l))) (take_rest a.bytes.now a.from))
