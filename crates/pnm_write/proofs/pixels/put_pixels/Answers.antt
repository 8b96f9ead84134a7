use Rattle.pnm_write.proofs.Words.{take, refl, arith, all_pixels}
use Rattle.pnm_write.proofs.PixelLaws.{cells_of_count, line_more, all_ended, count_of}
use Rattle.pnm_write.proofs.pixels.put_pixels.Goals as goal

pub loop-done-init : goal.loop-done-init
loop-done-init c = record {
  text = cells_of_count c.put_cells.new.buffer c.args.bytes.now c.args.count c.requires.enough c.put_cells.ensures;
  within = omega arith;
  whole = λ more. refl;
}

pub loop-done-preserved : goal.loop-done-preserved
loop-done-preserved c =
    let here = c.loop-done.invariant in
    record {
      text = line_more c.loop-done.buffer (take c.args.count (all_pixels c.args.bytes.now)) c.loop-done.done
          (count_of c.args.bytes.now c.args.count c.requires.enough) (omega arith) c.loop-done-test.true c.min-next.ensures (here.whole c.loop-done-test.true)
          here.text;
      within = omega arith;
      whole = λ more. omega (arith, here.whole c.loop-done-test.true);
    }

pub returns : goal.returns
returns c =
    all_ended c.loop-done.buffer (take c.args.count (all_pixels c.args.bytes.now)) c.loop-done.done
    (count_of c.args.bytes.now c.args.count c.requires.enough) (omega arith) c.loop-done.invariant.text
