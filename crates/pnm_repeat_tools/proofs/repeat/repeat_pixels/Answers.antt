use Rattle.pnm_repeat_tools.proofs.Words.{◌≡◌, ◌∙◌, length, drop, ap, sym, arith, take_at}
use Rattle.pnm_repeat_tools.proofs.repeat.repeat_pixels.Goals as goal

pub repeat_into-requires-clause-buffer : goal.repeat_into-requires-clause-buffer
repeat_into-requires-clause-buffer g c =
    ap length c.as_mut_slice.ensures.value ∙ omega (arith, c.in_ok-enlarged.ensures.len, c.in_ok-enlarged.enlarged.ok.0)

pub returns-clause-made : goal.returns-clause-made
returns-clause-made g c =
    let enlarged = c.in_ok-enlarged.enlarged in
    let long : length c.as_mut_slice.result.now ≡ enlarged.len = ap length c.as_mut_slice.ensures.value ∙ sym enlarged.ok.0 in
    take_at c.repeat_into.new.buffer (drop (length c.repeat_into.new.buffer) enlarged.items) enlarged.len (omega (arith, long, c.repeat_into.auto.buffer))
    ∙ c.repeat_into.ensures
