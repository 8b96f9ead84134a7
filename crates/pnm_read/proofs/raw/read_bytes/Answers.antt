use Rattle.pnm_read.proofs.Words.{[], ◌≡◌, ◌-◌, ◌+◌, ℕ, List, ◌++◌, length, take, ap, sym, subst, arith, ◌∙◌, post_of, with_items, common_steps, take_all}
use Rattle.pnm_read.proofs.Words.{err_from_is_err_and, samples_of_bytes, AreBytesWithin}
use Rattle.pnm_read.proofs.ReadSteps.{range_length}
use Rattle.pnm_read.proofs.PartSteps.{no_bytes, no_bytes_within, samples_of_both, both_within, prefix_grown}
use Rattle.pnm_read.proofs.RawSteps.{units_begin, part_read, part_fault, units_read}
use Rattle.pnm_read.proofs.raw.read_bytes.Goals as goal

pub loop-filled-init : goal.loop-filled-init
loop-filled-init g c =
    let all : c.args.count - 0 ≡ c.args.count = omega arith in (
      rw all (units_begin c.args.sample_width c.args.shape.maxval c.args.count (samples_of_bytes c.args.sample_width []) c.args.input.now
          g.met.R.BytesIn.same_at_once (no_bytes c.args.sample_width)),
      omega arith,
      c.in-Ok.ensures.len,
      no_bytes_within c.args.sample_width c.args.shape.maxval,
    )

pub returns-in_err-filled-clause-found : goal.returns-in_err-filled-clause-found
returns-in_err-filled-clause-found g c =
    let p = err_from_is_err_and c.from_residual.result c.from_residual.ensures.1 in
    rw (p.1, p.2) (part_fault _ [] (λ count. samples_of_bytes c.args.sample_width (take count c.read_part.new.target))
    (λ row. samples_of_bytes c.args.sample_width row.items) c.args.shape g.met.R.BytesIn.same_later c.loop-filled.invariant.0 c.in_err-filled.ensures.found
    c.requires.sample_width c.requires.count (omega (
      arith,
      range_length c.as_mut_slice.result.now c.loop-filled.filled (length c.as_mut_slice.result.now),
      c.as_mut_slice.ensures.len,
      c.loop-filled.invariant.2,
    )))

pub loop-filled-preserved : goal.loop-filled-preserved
loop-filled-preserved g c =
    let bytes : List ℕ = c.as_mut_slice.result.now in
    let target : List ℕ = c.read_part.new.target in
    let filled = c.loop-filled.filled in
    let count = c.in_ok-filled.field-0 in
    let post : List ℕ = post_of filled (length bytes - filled) bytes in
    let kept : (with_items c.loop-filled.row (take filled bytes ++ (target ++ post))).items ≡ take filled bytes ++ (target ++ post) =
    grind (arith, common_steps) in
    let prefix : take (filled + count) (with_items c.loop-filled.row (take filled bytes ++ (target ++ post))).items ≡ take filled c.loop-filled.row.items
    ++ take count target =
    ap (take (filled + count)) kept
    ∙ prefix_grown bytes target post filled count (omega (arith, c.as_mut_slice.ensures.len, c.loop-filled.invariant.1, c.loop-filled.invariant.2))
    c.in_ok-filled.ensures.count.1 ∙ ap (λ (l : List ℕ). take filled l ++ take count target) c.as_mut_slice.ensures.value in
    let size = range_length bytes filled (length bytes) in
    let more : c.args.count - (filled + count) ≡ (c.args.count - filled) - count = omega arith in (
      rw (more, prefix, samples_of_both c.args.sample_width (take filled c.loop-filled.row.items) (take count target))
          (part_read _ [] (λ n. samples_of_bytes c.args.sample_width (take n target)) count
          (samples_of_bytes c.args.sample_width (take filled c.loop-filled.row.items) ++ samples_of_bytes c.args.sample_width (take count target))
          g.met.R.BytesIn.same_later
          c.loop-filled.invariant.0 c.in_ok-filled.ensures.found (omega (arith, size, c.as_mut_slice.ensures.len, c.loop-filled.invariant.2))
          (λ units e. ap (λ (l : List ℕ). samples_of_bytes c.args.sample_width (take filled c.loop-filled.row.items) ++ l) e)),
      omega (arith, size, c.as_mut_slice.ensures.len, c.loop-filled.invariant.2, c.in_ok-filled.ensures.count.1, c.read_part.auto.target),
      c.loop-filled.invariant.2,
      rw prefix (both_within c.args.sample_width c.args.shape.maxval (take filled c.loop-filled.row.items) (take count target) c.loop-filled.invariant.3
          c.in_ok-filled.ensures.within),
    )

pub returns-clause-found : goal.returns-clause-found
returns-clause-found g c =
    units_read (λ row. samples_of_bytes c.args.sample_width row.items) c.args.shape c.loop-filled.invariant.0 c.requires.sample_width
    c.requires.count (omega arith) (sym (ap (samples_of_bytes c.args.sample_width)
    (take_all c.loop-filled.filled c.loop-filled.row.items (omega (arith, c.loop-filled.row.ok.0, c.loop-filled.invariant.2)))))

pub returns-clause-within : goal.returns-clause-within
returns-clause-within g c =
    subst (AreBytesWithin c.args.sample_width c.args.shape.maxval)
    (take_all c.loop-filled.filled c.loop-filled.row.items (omega (arith, c.loop-filled.row.ok.0, c.loop-filled.invariant.2))) c.loop-filled.invariant.3
