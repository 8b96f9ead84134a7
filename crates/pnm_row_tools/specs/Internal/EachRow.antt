-- Rows that are held one after another, each of as many samples as the others.
use Rattle.std.specs.Prelude.{◌≡◌, ℕ, zero, suc, ◌*◌, List, [], ◌++◌, map, take, drop}
use Rattle.std.specs.List.{concat}
use Rattle.pnm_image.specs.HeldRows.{AreRows, row_lists}
use Rattle.pnm_image.specs.declared.rows.RowVec.{RowVec}
use Rattle.pnm_image.specs.declared.rows.RowVec.TheVariants.{Bits, Bytes, Words}
use Rattle.pnm_row_tools.specs.declared.cut.Parts.{Parts}

-- so many rows of so many samples, each changed, one after another
abbrev pub changed : {X : Type 0} → (List X → List X) → ℕ → ℕ → List X → List X
changed f zero each samples = []
changed f (suc count) each samples = f (take each samples) ++ changed f count each (drop each samples)

-- so many samples of a row, from one on
abbrev pub part : {X : Type 0} → ℕ → ℕ → List X → List X
part start size row = take size (drop start row)

-- the parts of rows, one after another
abbrev pub parts_of : {X : Type 0} → Parts → List X → List X
parts_of parts samples =
    changed (part parts.first parts.kept) parts.count parts.row_length (drop (parts.top * parts.row_length) samples)

-- ---- rows as wide as they have to be

-- all samples of rows, those of the first row first
abbrev pub held_samples : RowVec → List ℕ
held_samples (Bits rows) = concat rows
held_samples (Bytes bytes) = bytes.items
held_samples (Words words) = words.items

-- so many rows of so many samples are held, and they are these
abbrev pub HoldsRows : ℕ → ℕ → RowVec → List (List ℕ) → Type 0
HoldsRows count each held rows = AreRows count each held × (row_lists count each held ≡ rows)

-- each sample is changed, in rows as many and as long; they may be held in another width
abbrev pub IsEachChanged : (ℕ → ℕ) → RowVec → RowVec → Type 0
IsEachChanged f old new =
    (count each : ℕ) → AreRows count each old → HoldsRows count each new (map (map f) (row_lists count each old))

-- these samples are held, those of the first row first
abbrev pub HoldsSamples : List ℕ → RowVec → Type 0
HoldsSamples samples (Bits rows) = ⊥
HoldsSamples samples (Bytes bytes) = bytes.items ≡ samples
HoldsSamples samples (Words words) = words.items ≡ samples
