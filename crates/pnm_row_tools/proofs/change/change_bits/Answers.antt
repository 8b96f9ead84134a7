use Rattle.pnm_row_tools.proofs.Words.{◌∙◌, sym, Bits}
use Rattle.pnm_row_tools.proofs.ChangeLaws.{bits_exchanged, bits_stay, made_changed}
use Rattle.pnm_row_tools.proofs.change.change_bits.Goals as goal

pub returns-in-0-eq1 : goal.returns-in-0-eq1
returns-in-0-eq1 g c =
    bits_stay (g.C.Change.changed c.args.change) c.args.bits (sym c.in-0-eq1.is-0 ∙ c.change.ensures) (sym c.in-0-eq1.is-1 ∙ c.change-2.ensures)
    c.requires.range

pub returns-in-1-eq0 : goal.returns-in-1-eq0
returns-in-1-eq0 g c =
    bits_exchanged (g.C.Change.changed c.args.change) c.args.bits (sym c.in-1-eq0.is-0 ∙ c.change.ensures)
    (sym c.in-1-eq0.is-1 ∙ c.change-2.ensures) c.requires.range c.invert.ensures

pub returns-in_ok-bytes-in_default : goal.returns-in_ok-bytes-in_default
returns-in_ok-bytes-in_default g c =
    made_changed (g.C.Change.changed c.args.change) (Bits c.args.bits) c.change_bytes.result c.in_ok-bytes-in_default.ensures c.change_bytes.ensures
