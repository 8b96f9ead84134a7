use Rattle.pnm_tools.proofs.Words.{List, ◌++◌, ◌-◌, ◌+◌, length, take, ap, ◌∙◌, arith, take-put_mid}
use Rattle.pnm_tools.proofs.buffer.store.Goals as goal

pub returns : goal.returns
returns g c =
    let at = c.args.at in
    let end = at + length c.args.samples.now in
    take-put_mid at (end - at) c.args.buffer.now c.copy_from_slice.new.self end (omega arith) (omega arith)
    ∙ ap (λ (l : List _). take at c.args.buffer.now ++ l) c.copy_from_slice.ensures.after
