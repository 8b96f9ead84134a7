use Rattle.pnm_read.proofs.Words.{◌≤◌, ◌*◌, ◌^◌, ℕ, length, arith, subst, List, sym, ◌∙◌}
use Rattle.pnm_read.proofs.HeldWords.{wide_lie}
use Rattle.pnm_read.proofs.held_rows.take.Goals as goal

pub take_wide-requires : goal.take_wide-requires
take_wide-requires g c =
    let count : ℕ = c.count_whole-count.result in
    let units : ℕ = c.args.raster.now.units in
    record {
      held = record {
        sample_width = c.in-Words.is;
        long = subst (λ (l : List ℕ). count * units * 2 ≤ length l) c.bytes.ensures
            (wide_lie count units (2 ^ 64) c.bytes.result.now (c.row_bytes.ensures.wide c.in-Words.is) (omega arith) c.count_whole-count.ensures.held);
      };
    }

pub returns-in_ok-rows-in-Bits-clause-raw : goal.returns-in_ok-rows-in-Bits-clause-raw
returns-in_ok-rows-in-Bits-clause-raw g c = sym c.is_plain.ensures ∙ c.if-is_plain.false
