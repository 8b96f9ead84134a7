-- The inverted image, from pnminvert(1): black becomes white and white black. Each sample is taken from the maxval; of
-- a PAM image, in every plane.
use Rattle.std.specs.Prelude.{ℕ, ◌-◌}
use Rattle.pnm_tools.specs.Meaning.{Meaning}
use Rattle.pnm_tools.specs.Samplewise.{SampleRule, keeping_head, samplewise}

abbrev pub inverted_sample : ℕ → ℕ → ℕ
inverted_sample maxval sample = maxval - sample

-- the head stays
abbrev pub inverting : SampleRule
inverting = keeping_head inverted_sample

abbrev pub inversion : Meaning
inversion = samplewise (Unit {0}) inverting
