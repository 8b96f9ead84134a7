use Rattle.std.proofs.Common.{rules}
use Rattle.pnm_image.proofs.device.DeviceBytesIn.read.Goals as goal

pub returns-in-Err-clause-bytes : goal.returns-in-Err-clause-bytes
returns-in-Err-clause-bytes g c = search rules
