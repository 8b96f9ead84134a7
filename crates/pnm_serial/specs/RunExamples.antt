-- Small texts, the images that are said of them, and the bytes due for these from small chains.
use Rattle.std.specs.Prelude.{◌≡◌, ℕ, List, [], ◌∷◌, ◌++◌, Some, None, Err, pos, negsuc, codes}
use Rattle.pnm_image.specs.declared.format.Form.TheVariants.{Raw, Plain}
use Rattle.pnm_image.specs.declared.shape.Kind.{Kind}
use Rattle.pnm_image.specs.declared.shape.Kind.TheVariants.{Bit, Gray, Color}
use Rattle.pnm_image.specs.Images.{Image, messages_of_stream}
use Rattle.pnm_read.specs.Said.{said_of}
use Rattle.pnm_tools.specs.declared.cut.CutBox.{CutBox}
use Rattle.pnm_tools.specs.declared.fault.ToolFault.TheVariants.{CutOutside}
use Rattle.pnm_tools.specs.declared.flip.FlipWay.TheVariants.{Null, LeftRight, TopBottom, Transpose}
use Rattle.pnm_tools.specs.declared.tool.Tool.{Tool}
use Rattle.pnm_tools.specs.declared.tool.Tool.TheVariants.{Invert, Cut, Depth, Channel, Enlarge, Flip, Tile}
use Rattle.pnm_tools.specs.Channel.{picks}
use Rattle.pnm_serial.specs.declared.fault.RunFault.TheVariants.{Tool as OfTool}
use Rattle.pnm_serial.specs.declared.summary.Summary.{Summary}
use Rattle.pnm_serial.specs.Jobs.{Job, job_of, bytes_due}
use Rattle.pnm_serial.specs.SerialRuns.{IsAllWritten}

abbrev pub image_of_samples : Kind → ℕ → ℕ → ℕ → ℕ → List ℕ → Image
image_of_samples kind width height depth maxval samples =
    record {
      head =
          record {
            shape = record { kind = kind; width = width; height = height; depth = depth; maxval = maxval };
            tuple_type = [];
          };
      samples = samples;
    }

-- these tools, with results in raw form or in plain form
abbrev pub raw_job : List Tool → Job
raw_job tools = job_of tools Raw

abbrev pub plain_job : List Tool → Job
plain_job tools = job_of tools Plain

-- the text spells the images, and these bytes are due for them
pub record IsExample (text : List ℕ) (job : Job) (images : List Image) (bytes : List ℕ) : Type 0 where
  pub said : said_of text ≡ messages_of_stream images
  pub due : bytes_due job images ≡ bytes

-- the last column
abbrev pub last_column : CutBox
last_column = record { left = None; right = Some (negsuc 0); top = None; bottom = None; width = Some 1; height = None }

pub record RunExamplesHold : Type 0 where
  pub gray : IsExample (codes "P5\n2 1\n122\nAB") (raw_job (Invert ∷ []))
      (image_of_samples Gray 2 1 1 122 (65 ∷ 66 ∷ []) ∷ []) (codes "P5\n2 1\n122\n98")
  pub bits : IsExample (codes "P4\n9 1\n" ++ 255 ∷ 255 ∷ []) (raw_job (Invert ∷ []))
      (image_of_samples Bit 9 1 1 1 (0 ∷ 0 ∷ 0 ∷ 0 ∷ 0 ∷ 0 ∷ 0 ∷ 0 ∷ 0 ∷ []) ∷ []) (codes "P4\n9 1\n" ++ 0 ∷ 0 ∷ [])
  pub to_255 : IsExample (codes "P5\n1 1\n256\n" ++ 1 ∷ 0 ∷ []) (raw_job (Depth 255 ∷ []))
      (image_of_samples Gray 1 1 1 256 (256 ∷ []) ∷ []) (codes "P5\n1 1\n255\n" ++ 255 ∷ [])
  pub half_up : IsExample (codes "P5\n1 1\n2\n" ++ 1 ∷ []) (raw_job (Depth 1 ∷ []))
      (image_of_samples Gray 1 1 1 2 (1 ∷ []) ∷ []) (codes "P5\n1 1\n1\n" ++ 1 ∷ [])
  pub bits_to_gray : IsExample (codes "P4\n2 1\n" ++ 64 ∷ []) (raw_job (Depth 255 ∷ []))
      (image_of_samples Bit 2 1 1 1 (1 ∷ 0 ∷ []) ∷ []) (codes "P5\n2 1\n255\n" ++ 255 ∷ 0 ∷ [])
  pub planes : IsExample (codes "P3 1 1 255 10 20 30") (raw_job (Channel (picks (2 ∷ 0 ∷ []) []) ∷ []))
      (image_of_samples Color 1 1 3 255 (10 ∷ 20 ∷ 30 ∷ []) ∷ [])
      (codes "P7\nWIDTH 1\nHEIGHT 1\nDEPTH 2\nMAXVAL 255\nENDHDR\n" ++ 30 ∷ 10 ∷ [])
  pub last : IsExample (codes "P5\n2 1\n9\n" ++ (1 ∷ 2 ∷ (codes "P6\n1 1\n9\n" ++ 3 ∷ 4 ∷ 5 ∷ [])))
      (raw_job (Cut last_column ∷ []))
      (image_of_samples Gray 2 1 1 9 (1 ∷ 2 ∷ []) ∷ image_of_samples Color 1 1 3 9 (3 ∷ 4 ∷ 5 ∷ []) ∷ [])
      (codes "P5\n1 1\n9\n" ++ (2 ∷ (codes "P6\n1 1\n9\n" ++ 3 ∷ 4 ∷ 5 ∷ [])))
  pub chain : IsExample (codes "P5\n2 1\n9\n" ++ 1 ∷ 2 ∷ []) (raw_job (Invert ∷ Cut last_column ∷ []))
      (image_of_samples Gray 2 1 1 9 (1 ∷ 2 ∷ []) ∷ []) (codes "P5\n1 1\n9\n" ++ 7 ∷ [])
  pub enlarged : IsExample (codes "P5\n1 1\n9\n" ++ 7 ∷ []) (raw_job (Enlarge 2 2 ∷ Invert ∷ []))
      (image_of_samples Gray 1 1 1 9 (7 ∷ []) ∷ []) (codes "P5\n2 2\n9\n" ++ 2 ∷ 2 ∷ 2 ∷ 2 ∷ [])
  pub enlarged_across : IsExample (codes "P5\n1 3\n9\n" ++ 1 ∷ 2 ∷ 3 ∷ []) (raw_job (Enlarge 2 1 ∷ []))
      (image_of_samples Gray 1 3 1 9 (1 ∷ 2 ∷ 3 ∷ []) ∷ []) (codes "P5\n2 3\n9\n" ++ 1 ∷ 1 ∷ 2 ∷ 2 ∷ 3 ∷ 3 ∷ [])
  pub left_right : IsExample (codes "P6\n2 1\n255\nABCDEF") (raw_job (Flip LeftRight ∷ []))
      (image_of_samples Color 2 1 3 255 (65 ∷ 66 ∷ 67 ∷ 68 ∷ 69 ∷ 70 ∷ []) ∷ []) (codes "P6\n2 1\n255\nDEFABC")
  pub top_bottom : IsExample (codes "P6\n1 2\n255\nABCDEF") (raw_job (Flip TopBottom ∷ []))
      (image_of_samples Color 1 2 3 255 (65 ∷ 66 ∷ 67 ∷ 68 ∷ 69 ∷ 70 ∷ []) ∷ []) (codes "P6\n1 2\n255\nDEFABC")
  pub transposed : IsExample (codes "P5\n2 3\n9\n" ++ 1 ∷ 2 ∷ 3 ∷ 4 ∷ 5 ∷ 6 ∷ []) (raw_job (Flip Transpose ∷ []))
      (image_of_samples Gray 2 3 1 9 (1 ∷ 2 ∷ 3 ∷ 4 ∷ 5 ∷ 6 ∷ []) ∷ [])
      (codes "P5\n3 2\n9\n" ++ 1 ∷ 3 ∷ 5 ∷ 2 ∷ 4 ∷ 6 ∷ [])
  pub tiled : IsExample (codes "P5\n2 2\n9\n" ++ 1 ∷ 2 ∷ 3 ∷ 4 ∷ []) (raw_job (Tile 3 3 ∷ []))
      (image_of_samples Gray 2 2 1 9 (1 ∷ 2 ∷ 3 ∷ 4 ∷ []) ∷ [])
      (codes "P5\n3 3\n9\n" ++ 1 ∷ 2 ∷ 1 ∷ 3 ∷ 4 ∷ 3 ∷ 1 ∷ 2 ∷ 1 ∷ [])
  pub plain_bits : IsExample (codes "P4\n3 2\n" ++ 160 ∷ 64 ∷ []) (plain_job (Flip Null ∷ []))
      (image_of_samples Bit 3 2 1 1 (0 ∷ 1 ∷ 0 ∷ 1 ∷ 0 ∷ 1 ∷ []) ∷ []) (codes "P1\n3 2\n1 0 1\n0 1 0\n")
  pub plain_color : IsExample (codes "P6\n1 1\n255\nABC") (plain_job (Invert ∷ []))
      (image_of_samples Color 1 1 3 255 (65 ∷ 66 ∷ 67 ∷ []) ∷ []) (codes "P3\n1 1\n255\n190 189 188\n")
  -- a plain file holds one image
  pub plain_first : IsExample (codes "P5\n1 1\n9\n" ++ (1 ∷ (codes "P5\n1 1\n9\n" ++ 2 ∷ []))) (plain_job (Invert ∷ []))
      (image_of_samples Gray 1 1 1 9 (1 ∷ []) ∷ image_of_samples Gray 1 1 1 9 (2 ∷ []) ∷ []) (codes "P2\n1 1\n9\n8\n")
  -- and no PAM
  pub plain_pam : IsExample (codes "P3 1 1 255 10 20 30") (plain_job (Channel (picks (2 ∷ 0 ∷ []) []) ∷ []))
      (image_of_samples Color 1 1 3 255 (10 ∷ 20 ∷ 30 ∷ []) ∷ []) []

-- ---- a refused image

-- from the second column on
abbrev pub from_second : CutBox
from_second = record { left = Some (pos 1); right = None; top = None; bottom = None; width = None; height = None }

-- an image of two columns, and one of a single column, which has no second one
abbrev pub wide_then_narrow : List Image
wide_then_narrow = image_of_samples Gray 2 1 1 9 (1 ∷ 2 ∷ []) ∷ image_of_samples Gray 1 1 1 9 (3 ∷ []) ∷ []

-- where these are said and the second is refused, all that was due begins with the result of the first
abbrev pub ResultBeforeRefusalIsWritten : Type 0
ResultBeforeRefusalIsWritten = (text old new : List ℕ) → said_of text ≡ messages_of_stream wide_then_narrow
    → IsAllWritten {A = Summary} text (raw_job (Cut from_second ∷ [])) (Err (OfTool 1 CutOutside)) (Some old) (Some new)
    → (rest : List ℕ) × (new ≡ old ++ (codes "P5\n1 1\n9\n" ++ 2 ∷ rest))
