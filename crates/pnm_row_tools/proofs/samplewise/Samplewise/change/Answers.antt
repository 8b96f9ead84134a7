use Rattle.pnm_row_tools.proofs.Words.{◌∙◌, ℕ, List, slice_index, subst, arith, at_of_values, within_values, IsTable}
use Rattle.pnm_row_tools.proofs.ChangeLaws.{made_alike}
use Rattle.pnm_row_tools.proofs.samplewise.Samplewise.change.Goals as goal

pub change_rows-requires-in-Words-clause-takes : goal.change_rows-requires-in-Words-clause-takes
change_rows-requires-in-Words-clause-takes g c =
    let f : ℕ → ℕ = (g.T.SampleTool.rule c.args.self.now.tool).sample c.args.maxval in
    λ sample le. within_values f c.as_slice-table.result.now c.args.maxval sample
    (c.as_slice-table.ensures.value ∙ subst (IsTable f c.args.maxval) c.in-Words.is c.requires.table) le

pub change_rows-requires-in-Words-clause-within : goal.change_rows-requires-in-Words-clause-within
change_rows-requires-in-Words-clause-within g c =
    let tool = c.args.self.now.tool in
    let f : ℕ → ℕ = (g.T.SampleTool.rule tool).sample c.args.maxval in
    λ sample le. omega (
      arith,
      at_of_values f c.as_slice-table.result.now c.args.maxval sample
          (c.as_slice-table.ensures.value ∙ subst (IsTable f c.args.maxval) c.in-Words.is c.requires.table) le,
      (g.met.T.SampleTool.changes tool).within c.args.maxval sample c.requires.lawful c.requires.maxval.0 le,
      c.requires.most.1,
    )

pub returns-in-Words : goal.returns-in-Words
returns-in-Words g c =
    let f : ℕ → ℕ = (g.T.SampleTool.rule c.args.self.now.tool).sample c.args.maxval in
    let table : List ℕ = c.as_slice-table.result.now in
    made_alike (slice_index table) f c.args.maxval c.args.rows c.change_rows-in-Words.result c.requires.range
    (λ sample le. at_of_values f table c.args.maxval sample
    (c.as_slice-table.ensures.value ∙ subst (IsTable f c.args.maxval) c.in-Words.is c.requires.table) le)
    c.change_rows-in-Words.ensures
