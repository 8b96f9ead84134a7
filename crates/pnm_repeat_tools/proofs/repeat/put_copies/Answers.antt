use Rattle.pnm_repeat_tools.proofs.Words.{◌≡◌, ◌≤◌, ◌+◌, ◌-◌, ◌++◌, ℕ, sym, length, replicate, take, ap, ◌∙◌, arith, put_mid, length-set, length-replicate}
use Rattle.pnm_repeat_tools.proofs.CopyLaws.{length_with, copies_more, copies_stored, copy_more}
use Rattle.pnm_repeat_tools.proofs.repeat.put_copies.Goals as goal

pub loop-place-preserved-then-buffer-place-ge16 : goal.loop-place-preserved-then-buffer-place-ge16
loop-place-preserved-then-buffer-place-ge16 g c =
    let at = c.args.at in
    let place = c.loop-place.place in
    let v = c.args.sample in
    let buffer = c.loop-place.buffer in
    let copies = c.copy_from_slice.new.self in
    let count : (place + 16) - place ≡ 16 = omega arith in
    let fits : place + ((place + 16) - place) ≤ length buffer = omega (arith, c.loop-place.invariant.within) in
    let next : place + 16 ≡ place + ((place + 16) - place) = omega arith in
    let more : (place - at) + ((place + 16) - place) ≡ (place + 16) - at = omega (arith, c.loop-place.invariant.begun) in
    let are : copies ≡ replicate ((place + 16) - place) v = c.copy_from_slice.ensures.after ∙ ap (λ (n : ℕ). replicate n v) (sym count) in
    let size : length copies ≡ (place + 16) - place = ap length are ∙ length-replicate ((place + 16) - place) v in
    let long : length (put_mid place ((place + 16) - place) buffer copies) ≡ length buffer = length_with buffer copies place size fits in
    record {
      begun = omega (arith, c.loop-place.invariant.begun);
      within = omega (arith, long, fits);
      size = long ∙ c.loop-place.invariant.size;
      prefix = copies_more buffer (take at c.args.buffer.now) place (place - at) ((place + 16) - place) v c.loop-place.invariant.prefix are
          c.loop-place.invariant.within next ∙ ap (λ (n : ℕ). take at c.args.buffer.now ++ replicate n v) more;
    }

pub loop-place-preserved : goal.loop-place-preserved
loop-place-preserved g c =
    let at = c.args.at in
    let place = c.loop-place.place in
    let more : (place - at) + 1 ≡ (place + 1) - at = omega (arith, c.loop-place.invariant.begun) in
    record {
      begun = omega (arith, c.loop-place.invariant.begun);
      within = omega (arith, length-set c.loop-place.buffer place c.args.sample);
      size = length-set c.loop-place.buffer place c.args.sample ∙ c.loop-place.invariant.size;
      prefix = copy_more c.loop-place.buffer (take at c.args.buffer.now) place (place - at) c.args.sample c.loop-place.invariant.prefix (omega arith)
          ∙ ap (λ (n : ℕ). take at c.args.buffer.now ++ replicate n c.args.sample) more;
    }

pub returns-clause-stored : goal.returns-clause-stored
returns-clause-stored g c =
    copies_stored c.loop-place.buffer c.args.buffer.now c.args.at c.args.count c.loop-place.place c.args.sample (omega arith) (omega arith)
    c.loop-place.invariant.prefix
