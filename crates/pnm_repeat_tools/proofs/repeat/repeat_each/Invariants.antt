use Rattle.pnm_repeat_tools.proofs.Words.{◌≡◌, ◌≤◌, ◌+◌, ◌*◌, ◌++◌, length, take, copies_of}
use Rattle.pnm_repeat_tools.proofs.EnlargeRowLaws.{columns_repeated}
use Rattle.pnm_repeat_tools.proofs.repeat.repeat_each.Given as goal

-- the columns that have passed were repeated
abbrev pub invariant-loop-x : goal.invariant-loop-x
invariant-loop-x g l = record {
  prefix : take l.at l.buffer ≡ columns_repeated l.fn.across l.fn.shape.depth l.row l.x;
  place : l.at ≡ l.x * l.fn.across * l.fn.shape.depth;
}

-- the pixel was stored so many times
abbrev pub invariant-loop : goal.invariant-loop
invariant-loop g l = record {
  prefix : take l.at l.buffer ≡ take l.initial.at l.initial.buffer ++ copies_of l.counter l.pixel;
  place : l.at ≡ l.initial.at + l.counter * l.fn.shape.depth;
}

-- the samples that have passed were stored
abbrev pub invariant-loop-p : goal.invariant-loop-p
invariant-loop-p g l = record {
  prefix : take (l.at + l.p) l.buffer ≡ take l.at l.initial.buffer ++ take l.p l.pixel;
  within : l.at + l.depth ≤ length l.buffer;
}
