use Rattle.pnm_repeat_tools.proofs.Words.{◌≡◌, ◌≤◌, ◌+◌, ◌-◌, ◌*◌, ◌++◌, ◌∷◌, [], length, take, copies_of}
use Rattle.pnm_repeat_tools.proofs.repeat.put_colors.Given as goal

-- the samples stand so many times from the first place on
abbrev pub invariant-loop-stored : goal.invariant-loop-stored
invariant-loop-stored g l = record {
  within : l.at + 3 * l.stored ≤ length l.buffer;
  size : length l.buffer ≡ length l.initial.buffer;
  prefix : take (l.at + 3 * l.stored) l.buffer ≡ take l.at l.initial.buffer ++ copies_of l.stored (l.a ∷ l.b ∷ l.c ∷ []);
}

abbrev pub decreases-loop-stored : goal.decreases-loop-stored
decreases-loop-stored g l = l.count - l.stored
