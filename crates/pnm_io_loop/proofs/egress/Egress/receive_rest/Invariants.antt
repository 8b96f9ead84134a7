use Rattle.pnm_io_loop.proofs.Words.{◌≡◌, List, ◌++◌, length, sent, received, known_items, known_packets, SameReceiver, Form, Message, output_of, IsEgress}
use Rattle.pnm_io_loop.proofs.egress.Egress.receive_rest.Given as goal

-- what was sent was received, or is known
abbrev pub invariant-loop-self : goal.invariant-loop-self
invariant-loop-self g l =
    ((form : Form) (start : g.row.W.Denot) (before : List Message) → IsEgress g.W.BytesOut.held g.W.BytesOut.failures form start before l.fn.self
    → IsEgress g.W.BytesOut.held g.W.BytesOut.failures form start before l.self)
    × (received l.self.input ++ known_items l.self.input ≡ sent l.sender)
    × SameReceiver l.fn.self.input l.self.input
    × g.W.BytesOut.same (output_of l.fn.self.fused_sink) (output_of l.self.fused_sink)

abbrev pub decreases-loop-self : goal.decreases-loop-self
decreases-loop-self g l = length (known_packets l.self.input)
