use Rattle.pnm_repeat_tools.proofs.Words.{◌≡◌, ◌+◌, length, arith, ℕ, ◌*◌, ◌≤◌, refl, sym, ap, ◌∙◌, length-set, columns_end, append-nil, take_all}
use Rattle.pnm_repeat_tools.proofs.EnlargeRowLaws.{place_there, none_stored, pixel_there, sample_more, pixel_stored, pixel_more, column_more, next_place}
use Rattle.pnm_repeat_tools.proofs.EnlargeRowLaws.{columns_repeated}
use Rattle.pnm_repeat_tools.proofs.repeat.repeat_each.Goals as goal

pub loop-p-init : goal.loop-p-init
loop-p-init g c =
    let s = c.args.shape in
    record {
      prefix = none_stored c.loop.buffer c.args.row.now c.loop.at;
      within = place_there s.width c.args.across s.depth c.loop-x.x c.loop.counter _ c.loop-x-test.true
          c.loop-test.true c.loop.invariant.place c.loop-x.invariant.place c.requires.row (omega arith);
    }

pub loop-p-preserved : goal.loop-p-preserved
loop-p-preserved g c =
    let s = c.args.shape in
    record {
      prefix = sample_more _ _ c.loop-p.buffer c.loop.at c.loop-p.p c.loop-p.invariant.prefix (omega arith)
          (pixel_there c.args.row.now s.width s.depth c.loop-x.x _ _ c.loop-p.p c.requires.row c.loop-x-test.true (omega arith) (omega arith)
          c.loop-p-test.true) c.index-pixel-p.is;
      within = omega (arith, length-set c.loop-p.buffer (c.loop.at + c.loop-p.p) c.index-pixel-p.result);
    }

pub loop-preserved : goal.loop-preserved
loop-preserved g c =
    let all : c.loop-p.p ≡ c.args.shape.depth = omega arith in
    record {
      prefix = pixel_more _ _ c.loop.counter c.loop.invariant.prefix (pixel_stored _ c.loop-p.buffer _ c.loop.at _ c.loop-p.invariant.prefix all (omega arith));
      place = omega arith;
    }

pub loop-x-preserved : goal.loop-x-preserved
loop-x-preserved g c =
    let s = c.args.shape in
    let all : c.loop.counter ≡ c.args.across = omega arith in
    record {
      prefix = column_more s.depth c.args.row.now c.loop-x.x _ _ c.loop-x.invariant.prefix c.loop.invariant.prefix all (omega arith) (omega arith);
      place = next_place s.depth c.loop-x.x c.loop.invariant.place c.loop-x.invariant.place all;
    }

pub overflow_mul-pixel : goal.overflow_mul-pixel
overflow_mul-pixel g c =
    omega (arith, columns_end c.args.shape.width c.args.shape.depth c.loop-x.x c.loop-x-test.true, c.requires.row)

pub overflow_mul-pixel-in-loop-x : goal.overflow_mul-pixel-in-loop-x
overflow_mul-pixel-in-loop-x g c =
    omega (arith, columns_end c.args.shape.width c.args.shape.depth c.loop-x.x c.loop-x-test.true, c.requires.row)

pub bounds-pixel-p : goal.bounds-pixel-p
bounds-pixel-p g c =
    let s = c.args.shape in
    pixel_there c.args.row.now s.width s.depth c.loop-x.x _ _ c.loop-p.p c.requires.row c.loop-x-test.true (omega arith) (omega arith) c.loop-p-test.true

pub slice_bounds-pixel-end : goal.slice_bounds-pixel-end
slice_bounds-pixel-end g c =
    omega (arith, columns_end c.args.shape.width c.args.shape.depth c.loop-x.x c.loop-x-test.true, c.requires.row)

pub loop-x-init : goal.loop-x-init
loop-x-init g c = record { prefix = refl; place = omega arith }

pub loop-init : goal.loop-init
loop-init g c = record { prefix = sym (append-nil _); place = omega arith }

pub returns : goal.returns
returns g c =
    let s = c.args.shape in
    let all : c.loop-x.x ≡ s.width = omega arith in
    let long : length c.args.row.now * c.args.across ≡ s.width * s.depth * c.args.across = ap (λ (n : ℕ). n * c.args.across) c.requires.row in
    let le : length c.loop-x.buffer ≤ c.loop-x.at =
    omega (arith, c.loop-x.invariant.place, long, c.requires.buffer, ap (λ (n : ℕ). n * c.args.across * s.depth) all) in
    sym (take_all c.loop-x.at c.loop-x.buffer le) ∙ c.loop-x.invariant.prefix ∙ ap (columns_repeated c.args.across s.depth c.args.row.now) all
