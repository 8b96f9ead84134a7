use Rattle.std.proofs.Common.{refl, ap, ◌∙◌, inl, inr}
use Rattle.pnm_memory.proofs.ConversionSteps.{converted, not_converted}
use Rattle.pnm_memory.proofs.conversion.convert.Goals as goal

pub returns : goal.returns
returns c =
    elim c.run_serial_over-answer.ensures.ran [
      | inl ran ↦ converted _ _ _ _ _ _ c.requires.lawful ran (rw c.new-reader.ensures refl) refl refl
          (rw c.new-writer.ensures.bytes refl) (rw c.into_inner.ensures refl)
      | inr nothing ↦ not_converted _ _ _ _ nothing.0
          (ap (λ v. v.items) c.into_inner.ensures ∙ ap (λ w. w.bytes.items) nothing.2 ∙ c.new-writer.ensures.bytes)
    ]
