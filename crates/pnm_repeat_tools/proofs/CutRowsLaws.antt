-- Rows of a shape.
use Rattle.pnm_repeat_tools.proofs.Words.{◌≡◌, ℕ, List, length, All, AllByRecursion, All-from_recursion, Shape, row_length, IsRowOf}
use Rattle.pnm_repeat_tools.proofs.EnlargedRowsLaws.{each_of}

-- each row of a shape has its row length
pub lengths_of : (s : Shape) (rows : List (List ℕ)) → AllByRecursion (IsRowOf s) rows → All (λ row. length row ≡ row_length s) rows
lengths_of s rows are = All-from_recursion (λ (row : List ℕ). length row ≡ row_length s) rows (each_of s rows are)
