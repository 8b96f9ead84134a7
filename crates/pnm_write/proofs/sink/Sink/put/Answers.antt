use Rattle.pnm_write.proofs.Words.{on_ok_weaker, messages_in}
use Rattle.pnm_write.proofs.MessageLaws.{on_ok_both, puts, writes}
use Rattle.pnm_write.proofs.sink.Sink.put.Goals as goal

pub returns-clause-more : goal.returns-clause-more
returns-clause-more g c =
    on_ok_weaker c.write-written.result (λ taken messages put. puts put
    (record { takes = taken.0; sound = taken.1; form = c.write-written.ensures.form; place = taken.2; begun = taken.3 })) c.write-written.ensures.taken

pub returns-clause-bytes : goal.returns-clause-bytes
returns-clause-bytes g c =
    on_ok_both c.write-written.result (λ taken added start messages written. writes written
    (record { takes = taken.0; sound = taken.1; form = c.write-written.ensures.form; place = taken.2; begun = taken.3 }) added)
    c.write-written.ensures.taken c.write-written.ensures.written
