use Rattle.std.proofs.Common.{rules}
use Rattle.pnm_image.proofs.device.DeviceBytesOut.write.Goals as goal

pub returns-in-Ok-clause-some : goal.returns-in-Ok-clause-some
returns-in-Ok-clause-some g c = search rules

pub returns-in-Err-clause-bytes : goal.returns-in-Err-clause-bytes
returns-in-Err-clause-bytes g c = search rules
