-- A piece of which each byte goes on.
use Rattle.pnm_read.proofs.Words.{◌≡◌, ℕ, List, [], ◌∷◌, ◌++◌, Option, sym, ap, ◌∙◌, append_assoc, append-nil, InputFault, ScanStatus, GoesOn}
use Rattle.pnm_read.specs.Items.{piece_from}

-- where each byte of a body goes on, the piece goes on after it
pub goes_on_through : (item : List ℕ → ℕ → ScanStatus) (at_end : List ℕ → Option InputFault) {body : List ℕ} (before back text : List ℕ)
    → before ++ back ≡ body → ((prefix : List ℕ) (b : ℕ) (others : List ℕ) → prefix ++ b ∷ others ≡ body → item prefix b ≡ GoesOn)
    → piece_from item at_end before (back ++ text) ≡ piece_from item at_end body text
unfolding piece_from
goes_on_through item at_end before [] text e h = ap (λ (t : List ℕ). piece_from item at_end t text) (sym (append-nil before) ∙ e)
goes_on_through item at_end before (b ∷ back) text e h =
    rw (h before b back e) (goes_on_through item at_end (before ++ b ∷ []) back text (append_assoc before (b ∷ []) back ∙ e) h)
