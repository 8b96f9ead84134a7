use Rattle.pnm_repeat_tools.proofs.Words.{◌≡◌, ◌≤◌, ◌-◌, ◌++◌, length, replicate, take}
use Rattle.pnm_repeat_tools.proofs.repeat.put_copies.Given as goal

-- the sample stands from the first place on
abbrev pub invariant-loop-place : goal.invariant-loop-place
invariant-loop-place g l = record {
  begun : l.at ≤ l.place;
  within : l.place ≤ length l.buffer;
  size : length l.buffer ≡ length l.initial.buffer;
  prefix : take l.place l.buffer ≡ take l.at l.initial.buffer ++ replicate (l.place - l.at) l.sample;
}

abbrev pub decreases-loop-place : goal.decreases-loop-place
decreases-loop-place g l = l.end - l.place
