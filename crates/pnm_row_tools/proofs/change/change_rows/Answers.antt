use Rattle.pnm_row_tools.proofs.Words.{◌∙◌, sym, ap, held_samples}
use Rattle.pnm_row_tools.proofs.ChangeLaws.{made_changed}
use Rattle.pnm_row_tools.proofs.change.change_rows.Goals as goal

pub returns-in_ok-bytes-in-Bits-2 : goal.returns-in_ok-bytes-in-Bits-2
returns-in_ok-bytes-in-Bits-2 g c =
    made_changed (g.C.Change.changed c.args.change) c.args.rows c.change_bytes.result
    (c.in_ok-bytes-in-Bits-2.ensures ∙ sym (ap held_samples c.in-Bits.is)) c.change_bytes.ensures

pub returns-in-Bytes : goal.returns-in-Bytes
returns-in-Bytes g c =
    made_changed (g.C.Change.changed c.args.change) c.args.rows c.change_bytes-in-Bytes.result
    (sym (ap held_samples c.in-Bytes.is)) c.change_bytes-in-Bytes.ensures

pub returns-in-Words : goal.returns-in-Words
returns-in-Words g c =
    made_changed (g.C.Change.changed c.args.change) c.args.rows c.change_words.result (sym (ap held_samples c.in-Words.is)) c.change_words.ensures
