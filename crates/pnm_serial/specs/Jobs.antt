-- What a run is to do, and what is due from it.
use Rattle.std.specs.Prelude.{◌≡◌, ℕ, List, Option, None}
use Rattle.std.specs.Io.KnownBytes.{Appends}
use Rattle.pnm_image.specs.declared.format.Form.{Form}
use Rattle.pnm_image.specs.Images.{Image}
use Rattle.pnm_tools.specs.declared.tool.Tool.{Tool}
use Rattle.pnm_tools.specs.Chains.{AreResultsInTurn, due_in_turn}
use Rattle.pnm_write.specs.Encoding.{written_of, encoding_of}
use Rattle.pnm_write.specs.Forms.{images_fault}

-- the tools that images pass through, and the form in which their results are written
pub record Job : Type 0 where
  pub tools : List Tool
  pub form : Form

abbrev pub job_of : List Tool → Form → Job
job_of tools form = record { tools = tools; form = form }

-- the bytes that are due for images: those of the results before the first image that is refused, as far as the form
-- takes them
abbrev pub bytes_due : Job → List Image → List ℕ
bytes_due job images = written_of job.form (due_in_turn job.tools images)

-- these are the results of the images, none of which is refused; the form can hold them, and they were written in it
pub record IsOutputOf (job : Job) (images results : List Image) (old new : Option (List ℕ)) : Type 0 where
  pub made : AreResultsInTurn job.tools images results
  pub fit : images_fault job.form results ≡ None
  pub written : Appends old new (encoding_of job.form results)
