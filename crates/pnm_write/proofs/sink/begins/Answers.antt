use Rattle.pnm_write.proofs.Words.{◌≡◌, true, List, None, sym, subst, AllByRecursion, messages_in, Message, form_fault_from, has_begun_by, HasRows}
use Rattle.pnm_write.proofs.MessageLaws.{begins_none, begins_with}
use Rattle.pnm_write.proofs.sink.begins.Goals as goal

pub returns-in_default-clause-begun : goal.returns-in_default-clause-begun
returns-in_default-clause-begun c = begins_none c.args.form c.args.has_begun (messages_in c.args.packet.now) c.in_default.ensures.none

pub returns-in-None-clause-begun : goal.returns-in-None-clause-begun
returns-in-None-clause-begun c =
    let begins = c.in-Some.ensures.some in
    subst (λ (l : List Message). AllByRecursion HasRows l × (form_fault_from c.args.form c.args.has_begun l ≡ None)
    × (true ≡ has_begun_by c.args.has_begun l)) (sym begins.1)
    (begins_with c.args.form c.args.has_begun c.in-Some.head.now begins.0 c.in-None.ensures.0 c.in-None.ensures.1 begins.2)
