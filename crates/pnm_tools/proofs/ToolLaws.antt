-- Each tool answers a whole image by its result.
use Rattle.pnm_tools.proofs.Words.{Tool, Invert, Cut, Depth, Channel, Enlarge, Flip, Tile, IsLawfulTool}
use Rattle.pnm_tools.proofs.AnsweringLaws.{AnswersImages}
use Rattle.pnm_tools.proofs.InvertLaws.{invert_is_samplewise}
use Rattle.pnm_tools.proofs.CutLaws.{cut_answers_images}
use Rattle.pnm_tools.proofs.DepthLaws.{depth_is_samplewise}
use Rattle.pnm_tools.proofs.ChannelLaws.{channel_answers_images}
use Rattle.pnm_tools.proofs.EnlargeLaws.{enlarge_answers_images}
use Rattle.pnm_tools.proofs.FlipLaws.{flip_answers_images}
use Rattle.pnm_tools.proofs.SamplewiseLaws.{samplewise_answers_images}
use Rattle.pnm_tools.proofs.TileLaws.{tile_answers_images}

-- a whole image is answered by its result
pub tool_answers_images : (tool : Tool) → IsLawfulTool tool → AnswersImages tool
tool_answers_images Invert lawful = samplewise_answers_images invert_is_samplewise
tool_answers_images (Cut box) lawful = cut_answers_images box
tool_answers_images (Depth maxval) lawful = samplewise_answers_images (depth_is_samplewise maxval)
tool_answers_images (Channel planes) lawful = channel_answers_images planes lawful
tool_answers_images (Enlarge across down) lawful = enlarge_answers_images across down lawful.0.0 lawful.1.0
tool_answers_images (Flip way) lawful = flip_answers_images way
tool_answers_images (Tile across down) lawful = tile_answers_images across down
