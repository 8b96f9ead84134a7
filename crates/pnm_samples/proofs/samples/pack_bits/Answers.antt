use Rattle.pnm_samples.proofs.Words.{◌≡◌, ◌≤◌, ◌+◌, ◌/◌, ◌∙◌, length, take, ap, sym, arith, common_steps, take_all, length-take, with_items, all_pixels}
use Rattle.pnm_samples.proofs.Words.{packed_bytes}
use Rattle.pnm_samples.proofs.PackLaws.{length-packed_bytes}
use Rattle.pnm_samples.proofs.PackedAgain.{pixels_of_groups}
use Rattle.pnm_samples.proofs.samples.pack_bits.Goals as goal

pub returns : goal.returns
returns c =
    let pixels = c.args.pixels.now in
    let buffer = c.pack.new.buffer in
    let last : (with_items c.in_ok-bytes.bytes buffer).items ≡ buffer = grind (arith, common_steps) in
    let count : length buffer ≡ (length pixels + 7) / 8 =
    omega (arith, c.pack.auto.buffer, c.as_mut_slice.ensures.len, c.in_ok-bytes.ensures.len, c.div_ceil.ensures) in
    let all : length buffer ≤ c.pack.result =
    omega (arith, count, ap length c.pack.ensures.bytes, length-take c.pack.result buffer, length-packed_bytes pixels) in
    let bytes : buffer ≡ packed_bytes pixels = sym (take_all c.pack.result buffer all) ∙ c.pack.ensures.bytes in
    c.new.ensures ∙ ap (λ l. take (length pixels) (all_pixels l)) (last ∙ bytes) ∙ pixels_of_groups ((length pixels + 7) / 8) pixels (omega arith) c.requires
