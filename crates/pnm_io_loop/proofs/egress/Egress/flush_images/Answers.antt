use Rattle.pnm_io_loop.proofs.Words.{without_stop}
use Rattle.pnm_io_loop.proofs.egress.Egress.flush_images.Goals as goal

pub returns-clause-receiving : goal.returns-clause-receiving
returns-clause-receiving g c = λ form start before was. record {
  took = was.took;
  came = was.came;
  put = record {
    ended = was.put.ended;
    taken = c.flush_images.ensures.taken form start (without_stop was.took) was.put.taken;
  };
  counted = was.counted;
}
