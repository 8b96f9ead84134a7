-- What is said after the end of an image.
use Rattle.pnm_read.proofs.Words.{ℕ, Bool, if◌then◌else◌, List, Said, ends_stream}

-- after a raw image what is said of the text by this; what follows a plain one is ignored
abbrev pub end_said : (List ℕ → Said) → Bool → List ℕ → Said
end_said later is_plain text = if is_plain then ends_stream else later text
