use Rattle.std.proofs.Common.{inl, subst}
use Rattle.std.specs.Io.KnownBytes.{Appends}
use Rattle.pnm_image.specs.Devices.{AppendsPrefix}
use Rattle.pnm_command_line.proofs.HelpSteps.{flushed_prefix, flushed_whole}
use Rattle.pnm_command_line.proofs.streams.print_text.Goals as goal

pub returns-in-Ok : goal.returns-in-Ok
returns-in-Ok g c =
    let held = g.W.BytesOut.held in
    let old = held c.args.output.now in
    let written = held c.write_all.new.writer in
    let new = held c.flush.new.self in
    let text = c.as_bytes.result.now in
    record {
      prefix = subst (AppendsPrefix old new) c.as_bytes.ensures.value (flushed_prefix old written new text c.in-Ok.ensures.written c.flush.ensures.bytes);
      whole = inl (subst (Appends old new) c.as_bytes.ensures.value (flushed_whole old written new text c.in-Ok.ensures.written c.flush.ensures.bytes));
    }
