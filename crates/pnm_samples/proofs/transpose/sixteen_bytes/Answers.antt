use Rattle.pnm_samples.proofs.Words.{◌+◌, ◌-◌, ◌∙◌, ℕ, take, drop, ap, get_or, arith, get_or-drop, get_or-take, get_or-chunk}
use Rattle.pnm_samples.proofs.transpose.sixteen_bytes.Goals as goal

pub returns-clause-bytes : goal.returns-clause-bytes
returns-clause-bytes c k lt =
    let at = c.args.at in
    let row = c.args.row.now in
    let size = at + 16 - at in
    get_or-chunk 0 16 (take size (drop at row)) k 0 lt ∙ get_or-take size (drop at row) (0 + k) 0 (omega arith) ∙ get_or-drop at row (0 + k) 0
    ∙ ap (λ (n : ℕ). get_or row n 0) (omega arith)
