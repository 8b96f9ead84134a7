-- A part of an image, split: what its first rows leave.
use Rattle.std.proofs.Common.{◌≡◌, ℕ, Bool, List, ◌++◌, Option, Some, ap, ◌∙◌, append_assoc}
use Rattle.std.proofs.lemmas.List.{map-append}
use Rattle.pnm_image.specs.declared.message.Message.{Message}
use Rattle.pnm_image.specs.declared.message.Message.TheVariants.{Row}
use Rattle.pnm_image.specs.Parts.{end_messages, rest_messages}
use Rattle.pnm_image.specs.Rows.{row_messages, rows_list}

-- the first rows alone, and what is behind them
pub behind_rows : (all first : List (List ℕ)) (rest : Option (List (List ℕ))) (ends : Bool) → all ≡ first ++ rows_list rest
    → rest_messages (Some all) ends ≡ row_messages first ++ rest_messages rest ends
behind_rows all first rest ends parts =
    ap (λ (rows : List (List ℕ)). row_messages rows ++ end_messages ends) parts
    ∙ ap (λ (ms : List Message). ms ++ end_messages ends) (map-append Row first (rows_list rest))
    ∙ append_assoc (row_messages first) (row_messages (rows_list rest)) (end_messages ends)
