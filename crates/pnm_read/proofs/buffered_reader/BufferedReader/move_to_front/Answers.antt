use Rattle.pnm_read.proofs.Words.{◌≡◌, ◌-◌, arith, slice_range, common_steps, held_of}
use Rattle.pnm_read.proofs.buffered_reader.BufferedReader.move_to_front.Goals as goal

pub returns-then-self-gt0-clause-held : goal.returns-then-self-gt0-clause-held
returns-then-self-gt0-clause-held g c =
    let old = c.args.self.now in
    let moved : slice_range c.copy_within.new.self.items 0 (old.end - old.at) ≡ held_of old = grind (arith, common_steps) in moved
