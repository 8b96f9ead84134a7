-- Tools that change each sample by itself. A result has as many samples as the image, in the same columns, rows and
-- planes.
use Rattle.std.specs.Prelude.{ℕ, List, map, Ok, true, [], ◌∷◌}
use Rattle.pnm_image.specs.declared.shape.Kind.{Kind}
use Rattle.pnm_image.specs.Heads.{HeadValue}
use Rattle.pnm_image.specs.Images.{sample_at}
use Rattle.pnm_tools.specs.Meaning.{Meaning, RowRule}

-- what such a tool does, which depends on the image's maxval alone
pub record SampleRule : Type 0 where
  -- the result's kind, maxval and tuple type, each as a function of the image's
  pub kind : Kind → Kind
  pub maxval : ℕ → ℕ
  pub tuple_type : List ℕ → List ℕ
  -- what becomes of a sample of an image of this maxval
  pub sample : ℕ → ℕ → ℕ

-- the head of the result of an image with this head
abbrev pub changed_head : SampleRule → HeadValue → HeadValue
changed_head rule head =
    record {
      shape = record head.shape { kind = rule.kind head.shape.kind; maxval = rule.maxval head.shape.maxval };
      tuple_type = rule.tuple_type head.tuple_type;
    }

-- the rule of a tool that changes samples and leaves the head as it is
abbrev pub keeping_head : (ℕ → ℕ → ℕ) → SampleRule
keeping_head sample =
    record { kind = λ kind. kind; maxval = λ maxval. maxval; tuple_type = λ tuple_type. tuple_type; sample = sample }

-- what a tool with this rule means, where its options are in their ranges
abbrev pub samplewise : Type 0 → SampleRule → Meaning
samplewise lawful rule = record {
  lawful = lawful;
  row_wise = true;
  head = λ head. Ok (changed_head rule head);
  sample = λ i x y p. rule.sample i.head.shape.maxval (sample_at i x y p);
}

-- each row answers itself, and nothing the end
abbrev pub samplewise_row_rule : SampleRule → RowRule
samplewise_row_rule rule =
    record { row_answer = λ s y row. map (rule.sample s.maxval) row ∷ []; end_answer = λ s rows. [] }
