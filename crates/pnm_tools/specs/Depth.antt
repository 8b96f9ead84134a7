-- The rescaled image, from pamdepth(1): the image with another maxval. Each sample becomes the one nearest to the same
-- share of the new maxval; of two that are as near, the greater.
use Rattle.std.specs.Prelude.{ℕ, ◌+◌, ◌*◌, ◌/◌, List, codes, ◌==◌, if◌then◌else◌, ◌≤◌}
use Rattle.std.specs.Str.{bytes_eq}
use Rattle.pnm_image.specs.declared.limits.TheConstants.{MAX_MAXVAL}
use Rattle.pnm_image.specs.declared.shape.Kind.{Kind}
use Rattle.pnm_image.specs.declared.shape.Kind.TheVariants.{Bit, Gray, Color, Pam}
use Rattle.pnm_tools.specs.Meaning.{Meaning}
use Rattle.pnm_tools.specs.Samplewise.{SampleRule, samplewise}

-- the sample nearest to sample * new / old, halves up
abbrev pub nearest_sample : ℕ → ℕ → ℕ → ℕ
nearest_sample new old sample = (2 * sample * new + old) / (2 * old)

-- samples of bits and of black and white are gray ones at any maxval but 1
abbrev pub gray_kind : Kind → Kind
gray_kind Bit = Gray
gray_kind Gray = Gray
gray_kind Color = Color
gray_kind Pam = Pam

abbrev pub gray_type : List ℕ → List ℕ
gray_type tuple_type =
    if bytes_eq tuple_type (codes "BLACKANDWHITE") then codes "GRAYSCALE"
    else if bytes_eq tuple_type (codes "BLACKANDWHITE_ALPHA") then codes "GRAYSCALE_ALPHA"
    else tuple_type

abbrev pub kind_at : ℕ → Kind → Kind
kind_at new kind = if new == 1 then kind else gray_kind kind

abbrev pub type_at : ℕ → List ℕ → List ℕ
type_at new tuple_type = if new == 1 then tuple_type else gray_type tuple_type

abbrev pub rescaled_by : ℕ → SampleRule
rescaled_by new =
    record { kind = kind_at new; maxval = λ old. new; tuple_type = type_at new; sample = nearest_sample new }

abbrev pub rescaling : ℕ → Meaning
rescaling new = samplewise ((1 ≤ new) × (new ≤ MAX_MAXVAL)) (rescaled_by new)
