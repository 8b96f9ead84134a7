-- What the program's output holds at its end.
use Rattle.std.specs.Prelude.{ℕ, List, Option, option_and_then}
use Rattle.std.specs.Io.KnownBytes.{append_known}
use Rattle.pnm_command_line.specs.declared.streams.Ended.{Ended}

-- what the output holds, where it is known
abbrev pub held_at_end : {R W : Type 0} → (W → Option (List ℕ)) → Ended R W → Option (List ℕ)
held_at_end contents ended = option_and_then contents ended.output

-- and then what wasn't written to it
abbrev pub given_at_end : {R W : Type 0} → (W → Option (List ℕ)) → Ended R W → Option (List ℕ)
given_at_end contents ended = append_known (held_at_end contents ended) ended.unwritten.items
