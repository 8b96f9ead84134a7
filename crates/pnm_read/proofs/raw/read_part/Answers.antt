use Rattle.pnm_read.proofs.Words.{◌≡◌, true, false, length, [], take, refl, rules, samples_of_bytes}
use Rattle.pnm_read.proofs.PartSteps.{bytes_cut, bytes_above, bytes_read}
use Rattle.pnm_read.proofs.raw.read_part.Goals as goal

pub returns-then-count-eq0-clause-found : goal.returns-then-count-eq0-clause-found
returns-then-count-eq0-clause-found g c =
    bytes_cut c.args.sample_width c.args.maxval (length c.args.target.now) c.read.new.target []
    (λ count. samples_of_bytes c.args.sample_width (take count c.read.new.target)) c.in_ok-count.ensures.read_call c.if-count-eq0.true c.requires.target

pub returns-then-not-are_units_within-clause-found : goal.returns-then-not-are_units_within-clause-found
returns-then-not-are_units_within-clause-found g c =
    let size : length c.read.new.target ≡ length c.args.target.now = search rules in
    bytes_above c.args.sample_width c.args.maxval c.read.new.target []
    (λ count. samples_of_bytes c.args.sample_width (take count c.read.new.target)) c.in_ok-count.ensures.read_call size c.requires.bytes
    (λ within. let never : false ≡ true = c.if-not-are_units_within.ensures.1 within in cc)

pub returns-clause-found : goal.returns-clause-found
returns-clause-found g c =
    let size : length c.read.new.target ≡ length c.args.target.now = search rules in
    bytes_read c.args.sample_width c.args.maxval c.read.new.target
    (λ count. samples_of_bytes c.args.sample_width (take count c.read.new.target)) c.in_ok-count.ensures.read_call size c.requires.bytes
    (c.if-not-are_units_within.ensures.0 refl) refl
