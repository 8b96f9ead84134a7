use Rattle.pnm_row_tools.proofs.Words.{rules, ◌≡◌, ◌++◌, [], ◌∷◌, List, ℕ, ◌∙◌, ap, sym, arith, map-range_with_len_more}
use Rattle.pnm_row_tools.proofs.samplewise.words_of.Goals as goal

pub loop-sample-preserved : goal.loop-sample-preserved
loop-sample-preserved g c =
    let f : ℕ → ℕ = (g.T.SampleTool.rule c.args.tool).sample c.args.maxval in
    let s = c.loop-sample.sample in
    let pushed : c.push.new.self.items ≡ c.loop-sample.words.items ++ f s ∷ [] = search rules in
    pushed ∙ ap (λ (l : List ℕ). l ++ f s ∷ []) c.loop-sample.invariant ∙ sym (map-range_with_len_more f 0 s s (omega arith))
