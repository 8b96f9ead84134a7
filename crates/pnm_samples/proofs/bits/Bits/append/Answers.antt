use Rattle.pnm_samples.proofs.Words.{◌≡◌, ◌++◌, ◌∙◌, ℕ, List, length, take, drop, Result, Ok, Err, OnOk, ap, arith, all_pixels}
use Rattle.pnm_samples.proofs.PixelRowLaws.{length_of_packed, run_of_row}
use Rattle.pnm_samples.proofs.bits.Bits.append.Goals as goal

-- what was appended, where there was memory
on_ok : {T E : Type 0} (r : Result T E) (new old : List ℕ) {a b : List ℕ} → OnOk r (new ≡ old ++ a) → a ≡ b → OnOk r (new ≡ old ++ b)
on_ok (Ok x) new old known same = known ∙ ap (λ (l : List ℕ). old ++ l) same
on_ok (Err e) new old known same = tt

pub returns-clause-appended : goal.returns-clause-appended
returns-clause-appended c =
    let from = c.from.inside.bytes.items in
    on_ok c.append_pixels.result c.append_pixels.new.self c.args.self.now c.append_pixels.ensures.appended
    (ap (λ (l : List ℕ). take c.args.count (drop c.args.start (all_pixels l))) c.as_slice.ensures.value
    ∙ run_of_row from c.args.start c.args.count c.from.inside.count
    (omega (arith, c.requires, length_of_packed c.from.inside.count from c.from.invariant, ap length c.from.view_is)) c.from.view_is)
