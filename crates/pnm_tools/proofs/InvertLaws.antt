-- The inverted image: each sample is changed by itself.
use Rattle.pnm_tools.proofs.Words.{◌≡◌, Ok, refl, arith, HeadValue, Invert, inverting, result_head}
use Rattle.pnm_tools.proofs.SamplewiseLaws.{IsSamplewise, head_of_rule}

pub invert_is_samplewise : IsSamplewise Invert inverting
invert_is_samplewise = record { means = refl; rows = refl; head = λ h lawful is. is; within = λ maxval sample lawful some le. omega arith }

pub inverted_head_stays : (head : HeadValue) → result_head Invert head ≡ Ok head
inverted_head_stays head = head_of_rule invert_is_samplewise head
