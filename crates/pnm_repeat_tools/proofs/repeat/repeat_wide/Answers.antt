use Rattle.pnm_repeat_tools.proofs.Words.{◌≡◌, length, arith, ℕ, ◌*◌, ◌≤◌, refl, sym, ap, ◌∙◌, columns_end, append-nil, take_all}
use Rattle.pnm_repeat_tools.proofs.EnlargeRowLaws.{columns_repeated, column_more, next_place, wide_more, wide_there}
use Rattle.pnm_repeat_tools.proofs.repeat.repeat_wide.Goals as goal

pub loop-x-init : goal.loop-x-init
loop-x-init g c = record { prefix = refl; place = omega arith; size = c.requires.buffer }

pub loop-init : goal.loop-init
loop-init g c = record { prefix = sym (append-nil _); place = omega arith; size = refl }

pub store-requires : goal.store-requires
store-requires g c =
    let s = c.args.shape in
    wide_there c.args.row.now s.width c.args.across s.depth c.loop-x.x c.loop.counter _ _
    c.loop-x-test.true c.loop-test.true c.loop.invariant.place c.loop-x.invariant.place c.requires.row
    (c.loop.invariant.size ∙ c.loop-x.invariant.size) c.requires.row (omega arith) (omega arith)

pub loop-preserved : goal.loop-preserved
loop-preserved g c =
    let s = c.args.shape in
    record {
      prefix = wide_more _ c.loop.buffer c.store.new.buffer c.args.row.now s.width s.depth c.loop-x.x _ _ c.loop.at c.loop.counter c.requires.row
          c.loop-x-test.true (omega arith) (omega arith) c.loop.invariant.prefix c.store.ensures;
      place = omega arith;
      size = c.store.auto.buffer ∙ c.loop.invariant.size;
    }

pub loop-x-preserved : goal.loop-x-preserved
loop-x-preserved g c =
    let s = c.args.shape in
    let all : c.loop.counter ≡ c.args.across = omega arith in
    record {
      prefix = column_more s.depth c.args.row.now c.loop-x.x _ _ c.loop-x.invariant.prefix c.loop.invariant.prefix all (omega arith) (omega arith);
      place = next_place s.depth c.loop-x.x c.loop.invariant.place c.loop-x.invariant.place all;
      size = c.loop.invariant.size ∙ c.loop-x.invariant.size;
    }

pub overflow_mul-pixel : goal.overflow_mul-pixel
overflow_mul-pixel g c =
    omega (arith, columns_end c.args.shape.width c.args.shape.depth c.loop-x.x c.loop-x-test.true, c.requires.row)

pub overflow_mul-pixel-in-loop-x : goal.overflow_mul-pixel-in-loop-x
overflow_mul-pixel-in-loop-x g c =
    omega (arith, columns_end c.args.shape.width c.args.shape.depth c.loop-x.x c.loop-x-test.true, c.requires.row)

pub slice_bounds-pixel-end : goal.slice_bounds-pixel-end
slice_bounds-pixel-end g c =
    omega (arith, columns_end c.args.shape.width c.args.shape.depth c.loop-x.x c.loop-x-test.true, c.requires.row)

pub returns : goal.returns
returns g c =
    let s = c.args.shape in
    let all : c.loop-x.x ≡ s.width = omega arith in
    let long : length c.args.row.now * c.args.across ≡ s.width * s.depth * c.args.across = ap (λ (n : ℕ). n * c.args.across) c.requires.row in
    let le : length c.loop-x.buffer ≤ c.loop-x.at =
    omega (arith, c.loop-x.invariant.place, long, c.requires.buffer, ap (λ (n : ℕ). n * c.args.across * s.depth) all) in
    sym (take_all c.loop-x.at c.loop-x.buffer le) ∙ c.loop-x.invariant.prefix ∙ ap (columns_repeated c.args.across s.depth c.args.row.now) all
