use Rattle.pnm_io_loop.proofs.Words.{List, SameSender, Message, reader_of, Source, Ingress, IsIngress, HasGoneOn}
use Rattle.pnm_io_loop.proofs.ingress.Ingress.send_held.Given as goal

-- what was asked for was sent
abbrev pub invariant-loop : goal.invariant-loop
invariant-loop g l =
    ((first : Source g.row.R.Denot) (before : List Message) → IsIngress g.R.BytesIn.left g.R.BytesIn.failures first before l.initial.self
    → IsIngress g.R.BytesIn.left g.R.BytesIn.failures first before l.self)
    × ((start : Ingress g.row.R.Denot) → HasGoneOn start l.initial.self → HasGoneOn start l.self)
    × SameSender l.initial.self.output l.self.output
    × g.R.BytesIn.same (reader_of l.initial.self.source) (reader_of l.self.source)
