-- Columns of an image while they are made side by side.
use Rattle.std.specs.Prelude.{◌≡◌, ℕ, ◌+◌, ◌<◌, ◌≤◌, List, [], ◌++◌, get_or, length, map, take, slice_index_or, Vec}
use Rattle.std.specs.Prelude.{vec_len}
use denote.Ref.{Bor}
use Rattle.std.specs.Global.{Global}

-- so many columns of so many samples
pub record AreBlank {X : Type 0} (count samples : ℕ) (columns : List (Vec X Global)) : Type 0 where
  pub many : length columns ≡ count
  pub long : (k : ℕ) (d : Vec X Global) → k < count → vec_len (slice_index_or columns k d) ≡ samples

-- each has at least so many samples
abbrev pub AreLongEnough : {X : Type 0} → ℕ → List (Vec X Global) → Type 0
AreLongEnough {X = X} samples columns = (k : ℕ) (d : Vec X Global) → k < length columns
    → samples ≤ vec_len (slice_index_or columns k d)

-- each has so many samples
abbrev pub AreAsLong : {X : Type 0} → ℕ → List (Vec X Global) → Type 0
AreAsLong {X = X} samples columns = (k : ℕ) (d : Vec X Global) → k < length columns
    → vec_len (slice_index_or columns k d) ≡ samples

-- each of the first ones has got its samples behind those before a place, and is as long as it was; the others are as
-- they were
pub record HavePixels {X : Type 0} (count at : ℕ) (pixels : ℕ → List X) (old new : List (Vec X Global)) : Type 0 where
  pub many : length new ≡ length old
  pub long : (k : ℕ) (d : Vec X Global) → vec_len (slice_index_or new k d) ≡ vec_len (slice_index_or old k d)
  pub stored : (k : ℕ) (d : Vec X Global) → k < count → take (at + length (pixels k)) (slice_index_or new k d).items
      ≡ take at (slice_index_or old k d).items ++ pixels k
  pub others : (k : ℕ) (d : Vec X Global) → count ≤ k → slice_index_or new k d ≡ slice_index_or old k d

-- slices are the rows from this one on
abbrev pub AreRowsFrom : ℕ → List (List ℕ) → List (Bor (List ℕ)) → Type 0
AreRowsFrom y rows slices = (i : ℕ) (d : Bor (List ℕ)) → i < length slices → (get_or slices i d).now ≡ get_or rows
    (y + i) []

-- the samples of columns
abbrev pub column_samples : {X : Type 0} → List (Vec X Global) → List (List X)
column_samples columns = map (λ v. v.items) columns
