use Rattle.pnm_write.proofs.Words.{◌≡◌, ◌∙◌, ◌++◌, min, List, ℕ, length, take, drop, ap, sym, subst, SampleWidth, bytes_in, most_samples, WriteCall}
use Rattle.pnm_write.proofs.Words.{sending_part}
use Rattle.pnm_write.proofs.RawLaws.{parts, fit_rest}
use Rattle.pnm_write.proofs.WriteCallSteps.{call_failed}
use Rattle.pnm_write.proofs.row.write_words.Goals as goal

-- the bytes that are left are those of the part that is written now, and those after it
part_and_rest : (p : SampleWidth) {n most : ℕ} (rest : List ℕ) {part after written : List ℕ} → n ≡ min (length rest) most → most ≡ most_samples p
    → part ≡ take n rest → after ≡ drop n rest → written ≡ bytes_in p part → bytes_in p rest ≡ written ++ bytes_in p after
part_and_rest p {n} rest {written} e m prefix back w =
    parts p n rest (e ∙ ap (min (length rest)) m) ∙ ap (λ (l : List ℕ). bytes_in p l ++ bytes_in p (drop n rest)) (sym prefix)
    ∙ ap (λ (l : List ℕ). l ++ bytes_in p (drop n rest)) (sym w) ∙ ap (λ (l : List ℕ). written ++ bytes_in p l) (sym back)

pub returns-in_err-write_all : goal.returns-in_err-write_all
returns-in_err-write_all g c =
    let split = part_and_rest c.of-sample_width.result c.loop-rest.rest.now c.min-count.ensures c.most_samples-most.ensures c.split_at.ensures.front
    c.split_at.ensures.back
    (c.as_slice.ensures ∙ c.fill.ensures) in
    let call = call_failed g.W.BytesOut.held g.W.BytesOut.failures g.W.BytesOut.same c.args.writer.now c.loop-rest.writer c.write_all.new.writer
    (bytes_in c.of-sample_width.result c.args.samples.now) (bytes_in c.of-sample_width.result c.loop-rest.rest.now) c.as_slice.result.now
    (bytes_in c.of-sample_width.result c.split_at.result.1.now)
    c.from_residual.result c.from_residual.ensures.0 split c.loop-rest.invariant.0 c.in_err-write_all.ensures.failed
    (g.met.W.BytesOut.same_later _ _ _ c.loop-rest.invariant.0.same_device c.in_err-write_all.ensures.same_device) in
    subst (λ (p : SampleWidth). WriteCall g.W.BytesOut.held g.W.BytesOut.failures g.W.BytesOut.same c.args.writer.now c.write_all.new.writer
    c.from_residual.result (bytes_in p c.args.samples.now)) c.of-sample_width.ensures call

pub loop-rest-preserved : goal.loop-rest-preserved
loop-rest-preserved g c =
    let split = part_and_rest c.of-sample_width.result c.loop-rest.rest.now c.min-count.ensures c.most_samples-most.ensures c.split_at.ensures.front
    c.split_at.ensures.back
    (c.as_slice.ensures ∙ c.fill.ensures) in (
      sending_part g.W.BytesOut.held g.W.BytesOut.failures g.W.BytesOut.same c.args.writer.now c.loop-rest.writer c.write_all.new.writer
          (bytes_in c.of-sample_width.result c.args.samples.now) (bytes_in c.of-sample_width.result c.loop-rest.rest.now) c.as_slice.result.now
          (bytes_in c.of-sample_width.result c.split_at.result.1.now) split c.loop-rest.invariant.0 c.in_ok-write_all.ensures.written
          c.in_ok-write_all.ensures.count (g.met.W.BytesOut.same_later _ _ _ c.loop-rest.invariant.0.same_device c.in_ok-write_all.ensures.same_device),
      rw c.split_at.ensures.back (fit_rest c.of-sample_width.result c.min-count.result c.loop-rest.rest.now c.loop-rest.invariant.1),
    )
