-- What a tool with the meaning of a rule for samples makes of rows.
use Rattle.std.specs.Prelude.{◌≡◌, ◌≤◌, ℕ, List, [], map}
use Rattle.pnm_image.specs.declared.shape.Shape.{Shape}
use Rattle.pnm_tools.specs.declared.tool.Tool.{Tool}
use Rattle.pnm_tools.specs.Answering.{rows_answer}
use Rattle.pnm_tools.specs.Samplewise.{SampleRule}
use Rattle.pnm_tools.specs.Tools.{IsLawfulTool, end_answer}

-- rows are answered by as many, each sample changed, and the image's end by none; no sample gets above the new maxval
pub record ChangesSamples (tool : Tool) (rule : SampleRule) : Type 0 where
  pub rows : (s : Shape) (y : ℕ) (rows : List (List ℕ))
      → rows_answer tool s y rows ≡ map (map (rule.sample s.maxval)) rows
  pub no_end : (s : Shape) (rows : List (List ℕ)) → end_answer tool s rows ≡ []
  pub within : (maxval sample : ℕ) → IsLawfulTool tool → 1 ≤ maxval → sample ≤ maxval
      → rule.sample maxval sample ≤ rule.maxval maxval
