use Rattle.pnm_read.proofs.Words.{◌≡◌, take, length, rules}
use Rattle.pnm_read.proofs.ReadSteps.{call_copied}
use Rattle.pnm_read.proofs.buffered_reader.BufferedReader.read.Goals as goal

pub returns-clause-read_call : goal.returns-clause-read_call
returns-clause-read_call g c =
    let copied : c.copy_from_slice.new.self ≡ take c.min-count.result c.bytes-bytes.result.now = search rules in
    rw copied (call_copied _ (length c.args.target.now) c.in_ok-fill.ensures.read_call c.in_ok-fill.ensures.enough
    c.requires c.bytes-bytes.ensures c.min-count.ensures c.advance.ensures.reader c.advance.ensures.ended c.advance.ensures.held)
