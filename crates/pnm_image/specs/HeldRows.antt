-- How rows that come together are held.
use Rattle.std.specs.Prelude.{◌≡◌, ℕ, ◌+◌, ◌*◌, ◌≤◌, List, ◌++◌, length, All}
use Rattle.std.specs.List.{flat_map}
use Rattle.pnm_image.specs.declared.rows.RowVec.{RowVec}
use Rattle.pnm_image.specs.declared.rows.RowVec.TheVariants.{Bits, Bytes, Words}
use Rattle.pnm_image.specs.declared.rows.RowSlice.{RowSlice}
use Rattle.pnm_image.specs.declared.rows.RowSlice.TheVariants.{Bits as SliceBits, Bytes as SliceBytes}
use Rattle.pnm_image.specs.declared.rows.RowSlice.TheVariants.{Words as SliceWords}
use Rattle.pnm_samples.specs.Cuts.{cut_rows}
use Rattle.pnm_samples.specs.Pixels.{packed_bytes}

-- so many rows of so many samples
abbrev pub row_lists : ℕ → ℕ → RowVec → List (List ℕ)
row_lists count each (Bits rows) = rows
row_lists count each (Bytes bytes) = cut_rows count each bytes.items
row_lists count each (Words words) = cut_rows count each words.items

abbrev pub slice_lists : ℕ → ℕ → RowSlice → List (List ℕ)
slice_lists count each (SliceBits rows) = rows.now
slice_lists count each (SliceBytes bytes) = cut_rows count each bytes.now
slice_lists count each (SliceWords words) = cut_rows count each words.now

-- the bytes that they take
abbrev pub slice_bytes : RowSlice → ℕ
slice_bytes (SliceBits rows) = length (flat_map packed_bytes rows.now)
slice_bytes (SliceBytes bytes) = length bytes.now
slice_bytes (SliceWords words) = length words.now * 2

-- there are so many rows of so many samples, and no sample more
abbrev pub AreRows : ℕ → ℕ → RowVec → Type 0
AreRows count each (Bits rows) = (length rows ≡ count) × All (λ row. length row ≡ each) rows
AreRows count each (Bytes bytes) = length bytes.items ≡ count * each
AreRows count each (Words words) = length words.items ≡ count * each

abbrev pub AreSliceRows : ℕ → ℕ → RowSlice → Type 0
AreSliceRows count each (SliceBits rows) = (length rows.now ≡ count) × All (λ row. length row ≡ each) rows.now
AreSliceRows count each (SliceBytes bytes) = length bytes.now ≡ count * each
AreSliceRows count each (SliceWords words) = length words.now ≡ count * each

-- no sample is above this number
abbrev pub AreRowsWithin : ℕ → List (List ℕ) → Type 0
AreRowsWithin bound rows = All (λ row. All (λ sample. sample ≤ bound) row) rows

-- these rows are held, so many of so many samples, and no sample more
abbrev pub HoldsRows : ℕ → ℕ → List (List ℕ) → RowVec → Type 0
HoldsRows count each rows held = (row_lists count each held ≡ rows) × AreRows count each held

-- the same rows are held as before, however many they were, and however long
abbrev pub HoldsSame : RowVec → RowVec → Type 0
HoldsSame old new = (count each : ℕ) → AreRows count each old → HoldsRows count each (row_lists count each old) new

-- the rows that are lent stand behind those that were held, however many and long both were
abbrev pub HasAdded : RowVec → RowSlice → RowVec → Type 0
HasAdded old more new = (count more_count each : ℕ) → AreRows count each old → AreSliceRows more_count each more
    → HoldsRows (count + more_count) each (row_lists count each old ++ slice_lists more_count each more) new
