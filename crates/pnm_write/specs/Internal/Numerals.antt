-- The decimal texts of small numbers, as a table has them.
use Rattle.std.specs.Prelude.{◌≡◌, ℕ, ◌+◌, ◌/◌, ◌%◌, List, [], ◌∷◌, length, take, drop, slice_index, decimal}
use Rattle.std.specs.Str.{byte}

-- the entry of a number: a digit, how many bytes the number has behind a blank, and these bytes, filled up
pub record IsEntry (number : ℕ) (entry : List ℕ) : Type 0 where
  pub long : length entry ≡ 5
  pub size : slice_index entry 0 ≡ 49 + length (decimal number)
  pub text : take (1 + length (decimal number)) (drop 1 entry) ≡ byte " " ∷ decimal number

-- the last three digits of a number
abbrev pub three_digits : ℕ → List ℕ
three_digits number = (48 + number / 100 % 10) ∷ (48 + number / 10 % 10) ∷ (48 + number % 10) ∷ []
