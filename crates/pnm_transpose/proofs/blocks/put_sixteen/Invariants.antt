use Rattle.pnm_transpose.proofs.Words.{◌+◌, ◌-◌, ◌≤◌, length, drop, take, HavePixels, column_of}
use Rattle.pnm_transpose.proofs.blocks.put_sixteen.Given as goal

-- the columns that have passed got their pixels
abbrev pub invariant-loop-done : goal.invariant-loop-done
invariant-loop-done l =
    (l.done ≤ length l.fn.columns) × HavePixels l.done l.at (λ k. column_of 1 (take 16 (drop l.y l.rows)) (l.first + k)) l.fn.columns l.columns

-- and some of the next sixteen
abbrev pub invariant-loop-i : goal.invariant-loop-i
invariant-loop-i l = HavePixels (l.done + l.i) l.at (λ k. column_of 1 (take 16 (drop l.y l.rows)) (l.first + k)) l.fn.columns l.columns

abbrev pub decreases-loop-done : goal.decreases-loop-done
decreases-loop-done l = length l.columns - l.done
