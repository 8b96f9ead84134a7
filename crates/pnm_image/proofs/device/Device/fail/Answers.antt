use Rattle.pnm_image.proofs.device.Device.fail.Goals as goal

pub returns-clause-count : goal.returns-clause-count
returns-clause-count g c = c.saturating_add-self.ensures
