-- The rows that answer a row, tool by tool.
use Rattle.pnm_tools.proofs.Words.{◌≡◌, ℕ, ◌+◌, ◌<◌, ◌≤◌, List, [], ◌∷◌, map, length, get_or, refl, ap, ◌∙◌, arith, range_with_len, get_or-map-range_with_len}
use Rattle.pnm_tools.proofs.Words.{length-map-range_with_len, Shape, CutBox, FlipWay, Cut, Channel, Enlarge, Flip, Picks, picked_row, cut_rows_of}
use Rattle.pnm_tools.proofs.Words.{enlarged_rows, transform_of, transformed_rows}
use Rattle.pnm_tools.specs.Tools.{row_answer}

pub row_of_cut : (box : CutBox) (s : Shape) (y : ℕ) (row : List ℕ) → row_answer (Cut box) s y row ≡ cut_rows_of box s y row
unfolding row_answer
row_of_cut box s y row = refl

pub row_of_channel : (planes : Picks) (s : Shape) (y : ℕ) (row : List ℕ) → row_answer (Channel planes) s y row ≡ picked_row planes s row ∷ []
unfolding row_answer
row_of_channel planes s y row = refl

pub row_of_enlarge : (across down : ℕ) (s : Shape) (y : ℕ) (row : List ℕ) → row_answer (Enlarge across down) s y row ≡ enlarged_rows across down s row
unfolding row_answer
row_of_enlarge across down s y row = refl

pub row_of_flip : (way : FlipWay) (s : Shape) (y : ℕ) (row : List ℕ) → row_answer (Flip way) s y row ≡ transformed_rows (transform_of way) s row
unfolding row_answer
row_of_flip way s y row = refl

-- in a list of the values at 0 to n the value at s
pub at_of_values : (f : ℕ → ℕ) (table : List ℕ) (n s : ℕ) → table ≡ map f (range_with_len 0 (n + 1)) → s ≤ n → get_or table s 0 ≡ f s
at_of_values f table n s is le = ap (λ (l : List ℕ). get_or l s 0) is ∙ get_or-map-range_with_len f 0 (n + 1) s s 0 (omega arith) (omega arith)

pub within_values : (f : ℕ → ℕ) (table : List ℕ) (n s : ℕ) → table ≡ map f (range_with_len 0 (n + 1)) → s ≤ n → s < length table
within_values f table n s is le = omega (arith, ap length is, length-map-range_with_len f 0 (n + 1))
