use Rattle.pnm_write.proofs.Words.{◌∙◌, ◌-◌, ◌++◌, List, ℕ, take, sym, ap, arith, all_pixels, Bit, sending_part, plain_row_text}
use Rattle.pnm_write.proofs.PixelLaws.{pixels_split}
use Rattle.pnm_write.proofs.WriteCallSteps.{call_failed}
use Rattle.pnm_write.proofs.plain.write_pixels.Goals as goal

pub returns-in_err-write_all : goal.returns-in_err-write_all
returns-in_err-write_all g c =
    let rest = plain_row_text Bit (take (c.loop-left.left - c.min-size.result) (all_pixels c.split_at.result.1.now)) in
    let split = pixels_split c.loop-left.rest.now c.split_at.result.0.now c.split_at.result.1.now c.loop-left.left c.min-size.result
    c.loop-left.invariant.enough c.min-size.ensures c.split_at.ensures.front c.split_at.ensures.back
    ∙ ap (λ (l : List ℕ). l ++ rest) (sym (c.as_slice.ensures ∙ c.set_pixels.ensures)) in
    call_failed g.W.BytesOut.held g.W.BytesOut.failures g.W.BytesOut.same c.args.writer.now c.loop-left.writer c.write_all.new.writer
    (plain_row_text Bit (take c.args.count (all_pixels c.args.bytes.now)))
    (plain_row_text Bit (take c.loop-left.left (all_pixels c.loop-left.rest.now))) c.as_slice.result.now
    rest
    c.from_residual.result c.from_residual.ensures.0 split c.loop-left.invariant.sending c.in_err-write_all.ensures.failed
    (g.met.W.BytesOut.same_later _ _ _ c.loop-left.invariant.sending.same_device c.in_err-write_all.ensures.same_device)

pub loop-left-preserved : goal.loop-left-preserved
loop-left-preserved g c =
    let rest = plain_row_text Bit (take (c.loop-left.left - c.min-size.result) (all_pixels c.split_at.result.1.now)) in
    let split = pixels_split c.loop-left.rest.now c.split_at.result.0.now c.split_at.result.1.now c.loop-left.left c.min-size.result
    c.loop-left.invariant.enough c.min-size.ensures c.split_at.ensures.front c.split_at.ensures.back
    ∙ ap (λ (l : List ℕ). l ++ rest) (sym (c.as_slice.ensures ∙ c.set_pixels.ensures)) in
    record {
      sending = sending_part g.W.BytesOut.held g.W.BytesOut.failures g.W.BytesOut.same c.args.writer.now c.loop-left.writer c.write_all.new.writer
          (plain_row_text Bit (take c.args.count (all_pixels c.args.bytes.now)))
          (plain_row_text Bit (take c.loop-left.left (all_pixels c.loop-left.rest.now))) c.as_slice.result.now
          rest split c.loop-left.invariant.sending c.in_ok-write_all.ensures.written c.in_ok-write_all.ensures.count
          (g.met.W.BytesOut.same_later _ _ _ c.loop-left.invariant.sending.same_device c.in_ok-write_all.ensures.same_device);
      enough = omega arith;
    }
