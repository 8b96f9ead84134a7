-- Between functions: rows of an image that are kept in strips: some rows each, with columns and rows exchanged.
use Rattle.std.specs.Prelude.{◌≡◌, ℕ, ◌*◌, ◌<◌, ◌≤◌, List, length, All, Bool}
use Rattle.pnm_transpose.specs.declared.strip.TheConstants.{STRIP_ROWS}
use Rattle.pnm_transpose.specs.Strips.{kept_count, coming_column, HaveSizes}

-- all of them have these first columns
pub record ReachColumns {X : Type 0} (columns depth : ℕ) (strips rows : List (List X)) : Type 0 where
  pub each_strip : All (λ strip. columns * (STRIP_ROWS * depth) ≤ length strip) strips
  pub each_row : All (λ row. columns * depth ≤ length row) rows

-- they are as many rows as before, of the same columns
pub record KeepColumns {X : Type 0} (reversed : Bool) (width depth : ℕ)
    (old_strips old_rows strips rows : List (List X)) : Type 0 where
  pub sizes : HaveSizes width depth strips rows
  pub count : kept_count strips rows ≡ kept_count old_strips old_rows
  pub same : (x : ℕ) → x < width → coming_column reversed depth strips rows x ≡ coming_column reversed depth old_strips
      old_rows x
