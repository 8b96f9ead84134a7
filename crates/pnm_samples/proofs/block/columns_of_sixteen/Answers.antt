use Rattle.pnm_samples.proofs.Words.{◌≢◌, ◌<◌, ◌∙◌, length, ap, arith, below_more, get_or-set_other, get_or-set_same, bits_of}
use Rattle.std.proofs.Common.{length-set}
use Rattle.pnm_samples.proofs.BlockLaws.{places_more, bits_moved}
use Rattle.pnm_samples.proofs.block.columns_of_sixteen.Goals as goal

pub loop-k-preserved : goal.loop-k-preserved
loop-k-preserved c =
    let k = c.loop-k.k in
    let known = c.loop-k.invariant in
    let inside : k < length c.loop-k.columns = omega (arith, known.count) in
    record {
      count = length-set c.loop-k.columns k c.highest_bits.result ∙ known.count;
      lanes = places_more c.args.rows k known.lanes;
      columns =
          below_more _ _ (λ j h. let other : j ≢ k = omega arith in rw get_or-set_other (known.columns j h))
          (rw get_or-set_same (c.highest_bits.ensures ∙ ap (bits_of 7) known.lanes ∙ bits_moved c.args.rows k (omega arith)));
    }
