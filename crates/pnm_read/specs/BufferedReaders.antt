-- What a call reads, and what its answer says of the text, of which only a part is held.
use Rattle.std.specs.Prelude.{◌≡◌, ℕ, true, List, [], Option}
use Rattle.std.specs.List.{slice_range}
use Rattle.std.specs.Io.KnownBytes.{IsAtEnd}
use Rattle.pnm_read.specs.declared.buffered_reader.BufferedReader.{BufferedReader}

-- the bytes that are held
abbrev pub held_of : {R : Type 0} → BufferedReader R → List ℕ
held_of input = slice_range input.buffer.items input.at input.end

-- these bytes may still come: none after the end was seen
abbrev pub CanCome : {R : Type 0} → BufferedReader R → List ℕ → Type 0
CanCome input rest = input.ended ≡ true → rest ≡ []

-- the end was seen only where the reader has no byte left
abbrev pub EndsRightly : {R : Type 0} → (R → Option (List ℕ)) → BufferedReader R → Type 0
EndsRightly left input = input.ended ≡ true → IsAtEnd (left input.reader)
