use Rattle.std.proofs.Common.{refl}
use Rattle.pnm_image.proofs.format.Format.magic.Goals as goal

pub returns-in-Gray-Plain : goal.returns-in-Gray-Plain
returns-in-Gray-Plain c = rw (c.in-Gray-Plain.is-0, c.in-Gray-Plain.is-1) refl
