use Rattle.pnm_row_tools.proofs.Words.{◌≤◌, ℕ, sym, subst}
use Rattle.pnm_row_tools.proofs.HeldRowsLaws.{changed_rows_within, samples_within}
use Rattle.pnm_row_tools.proofs.samplewise.SamplewiseRowTool.rows.Goals as goal

pub change-requires-clause-range : goal.change-requires-clause-range
change-requires-clause-range g c =
    let parts = c.into_parts-held in
    samples_within c.args.shape parts.result.1 parts.result.2 parts.result.0 parts.ensures.whole parts.ensures.rows c.requires.rows.1

pub new-requires-clause-within : goal.new-requires-clause-within
new-requires-clause-within g c =
    let parts = c.into_parts-held in
    let s = c.args.shape in
    let tool = c.args.self.now.tool in
    let f : ℕ → ℕ = (g.T.SampleTool.rule tool).sample s.maxval in
    changed_rows_within s f c.maxval-most.result parts.result.1 parts.result.2 parts.result.0 c.in_ok-changed.changed parts.ensures.rows
    parts.ensures.whole c.in_ok-changed.ensures c.requires.rows.1 (λ sample le. subst (λ (n : ℕ). f sample ≤ n) (sym c.maxval-most.ensures.value)
    ((g.met.T.SampleTool.changes tool).within s.maxval sample c.requires.lawful c.requires.ready.limits.maxval_low le))
