-- Tools that change each sample by itself: their rules, and that a whole image is answered by its result.
use Rattle.pnm_tools.proofs.Words.{◌≡◌, ℕ, ◌+◌, ◌≤◌, List, [], ◌∷◌, ◌++◌, map, Result, Ok, refl, sym, ap, ◌∙◌, append-nil, Shape, HeadValue, IsHead, Image}
use Rattle.pnm_tools.proofs.Words.{IsImage, rows_of, sample_at, ToolFault, Tool, rows_answer, image_by, Meaning, RowRule, ChangesSamples, SampleRule}
use Rattle.pnm_tools.proofs.Words.{changed_head, samplewise, samplewise_row_rule, IsLawfulTool, meaning, row_rule, end_answer}
use Rattle.pnm_tools.specs.Tools.{result_head, result_sample, row_answer}
use Rattle.pnm_tools.proofs.AnsweringLaws.{AnswersImages}
use Rattle.pnm_tools.proofs.FormulaLaws.{samplewise_rows}
use Rattle.pnm_tools.proofs.ImageLaws.{answers_to_rows, each_row_answered, result_by_head, answered_by_rows}

-- what each such tool has to show: it means its rule, answers rows by it, makes heads of heads, and leaves samples within the new maxval
pub record IsSamplewise (tool : Tool) (rule : SampleRule) : Type 1 where
  pub means : meaning tool ≡ samplewise (IsLawfulTool tool) rule
  pub rows : row_rule tool ≡ samplewise_row_rule rule
  pub head : (h : HeadValue) → IsLawfulTool tool → IsHead h → IsHead (changed_head rule h)
  pub within : (maxval sample : ℕ) → IsLawfulTool tool → 1 ≤ maxval → sample ≤ maxval → rule.sample maxval sample ≤ rule.maxval maxval

-- ---- the rules

pub head_of_rule : {tool : Tool} {rule : SampleRule} → IsSamplewise tool rule → (head : HeadValue) → result_head tool head ≡ Ok (changed_head rule head)
unfolding result_head
head_of_rule is head = ap (λ (m : Meaning). m.head head) is.means

pub row_of_rule : {tool : Tool} {rule : SampleRule} → IsSamplewise tool rule → (s : Shape) (y : ℕ) (row : List ℕ)
    → row_answer tool s y row ≡ map (rule.sample s.maxval) row ∷ []
unfolding row_answer
row_of_rule is s y row = ap (λ (r : RowRule). r.row_answer s y row) is.rows

-- rows are answered by as many, each sample changed
pub rows_of_rule : {tool : Tool} {rule : SampleRule} → IsSamplewise tool rule → (s : Shape) (y : ℕ) (rows : List (List ℕ))
    → rows_answer tool s y rows ≡ map (map (rule.sample s.maxval)) rows
rows_of_rule is s y [] = refl
rows_of_rule {tool = tool} {rule = rule} is s y (row ∷ rows) =
    ap (λ (l : List (List ℕ)). l ++ rows_answer tool s (y + 1) rows) (row_of_rule is s y row)
    ∙ ap (λ (l : List (List ℕ)). map (rule.sample s.maxval) row ∷ l) (rows_of_rule is s (y + 1) rows)

pub no_end_of_rule : {tool : Tool} {rule : SampleRule} → IsSamplewise tool rule → (s : Shape) (rows : List (List ℕ)) → end_answer tool s rows ≡ []
no_end_of_rule is s rows = ap (λ (r : RowRule). r.end_answer s rows) is.rows

pub sample_of_rule : {tool : Tool} {rule : SampleRule} → IsSamplewise tool rule → (i : Image) → result_sample tool i
    ≡ (λ x y p. rule.sample i.head.shape.maxval (sample_at i x y p))
unfolding result_sample
sample_of_rule is i = ap (λ (m : Meaning). m.sample i) is.means

-- ---- images

-- the head of a result is by the rule
pub changed_head_is : {tool : Tool} {rule : SampleRule} → IsSamplewise tool rule → (head result : HeadValue) → result_head tool head ≡ Ok result
    → result ≡ changed_head rule head
changed_head_is {rule = rule} is head result e =
    let same : ◌≡◌ {A = Result HeadValue ToolFault} (Ok result) (Ok (changed_head rule head)) = sym e ∙ head_of_rule is head in cc

-- the rows of a result are those of the image, each sample changed
changed_rows : {tool : Tool} {rule : SampleRule} → IsSamplewise tool rule → (i : Image) (result : HeadValue) → IsImage i → result ≡ changed_head rule i.head
    → rows_of (image_by result (result_sample tool i)) ≡ map (map (rule.sample i.head.shape.maxval)) (rows_of i)
changed_rows {tool = tool} {rule = rule} is i result image same =
    ap (λ (h : HeadValue). rows_of (image_by h (result_sample tool i))) same
    ∙ ap (λ (f : ℕ → ℕ → ℕ → ℕ). rows_of (image_by (changed_head rule i.head) f)) (sample_of_rule is i)
    ∙ samplewise_rows (rule.sample i.head.shape.maxval) i (changed_head rule i.head) image (record { width = refl; height = refl; depth = refl })

-- an image is answered by its result
pub samplewise_answers_images : {tool : Tool} {rule : SampleRule} → IsSamplewise tool rule → AnswersImages tool
samplewise_answers_images {tool = tool} {rule = rule} is i j image e =
    let s : Shape = i.head.shape in
    let same : j.head ≡ changed_head rule i.head = changed_head_is is i.head j.head (result_by_head tool i j e).head in
    answered_by_rows tool i j e (
    ap (λ (l : List (List ℕ)). answers_to_rows tool s 0 (rows_of i) ++ l) (no_end_of_rule is s (rows_of i))
    ∙ append-nil (answers_to_rows tool s 0 (rows_of i))
    ∙ each_row_answered tool s (map (rule.sample s.maxval)) (row_of_rule is s) 0 (rows_of i)
    ∙ sym (changed_rows is i j.head image same)
    )

-- what follows for rows
pub changes_samples : {tool : Tool} {rule : SampleRule} → IsSamplewise tool rule → ChangesSamples tool rule
changes_samples is = record { rows = rows_of_rule is; no_end = no_end_of_rule is; within = is.within }
