-- Small texts, and what is said of them.
use Rattle.std.specs.Prelude.{◌≡◌, ℕ, List, [], ◌∷◌, ◌++◌, map, Some, None, codes}
use Rattle.pnm_image.specs.declared.shape.Kind.{Kind}
use Rattle.pnm_image.specs.declared.shape.Kind.TheVariants.{Bit, Gray, Color, Pam}
use Rattle.pnm_image.specs.declared.message.Message.{Message}
use Rattle.pnm_image.specs.declared.message.Message.TheVariants.{Begin, Row, ImageEnd, StreamEnd}
use Rattle.pnm_read.specs.declared.fault.InputFault.TheVariants.{EmptyInput, BadMagic, HeaderCut, BadNumber, ZeroSize}
use Rattle.pnm_read.specs.declared.fault.InputFault.TheVariants.{BadPamLine, DuplicateField, MissingField, RasterCut}
use Rattle.pnm_read.specs.declared.fault.InputFault.TheVariants.{SampleAboveMaxval, BadSample, PlainInStream}
use Rattle.pnm_read.specs.Said.{Said, text_said, fault_of}

-- the head of a kind, a width, a height, a depth and a maxval
abbrev pub head : Kind → ℕ → ℕ → ℕ → ℕ → Message
head kind width height depth maxval =
    Begin (record {
      shape = record { kind = kind; width = width; height = height; depth = depth; maxval = maxval };
      tuple_type = [];
    })

-- the messages of an image, without a fault
abbrev pub one_image : Message → List (List ℕ) → Said
one_image begin rows = record { messages = begin ∷ (map Row rows ++ ImageEnd ∷ StreamEnd ∷ []); fault = None }

pub record TextExamplesHold : Type 0 where
  pub plain_bits : text_said (codes "P1\n# j\n3 2\n101\n010\n") ≡ one_image (head Bit 3 2 1 1)
      ((0 ∷ 1 ∷ 0 ∷ []) ∷ (1 ∷ 0 ∷ 1 ∷ []) ∷ [])
  pub spare_bits : text_said (codes "P4\n9 1\n" ++ 255 ∷ 255 ∷ []) ≡ one_image (head Bit 9 1 1 1)
      ((0 ∷ 0 ∷ 0 ∷ 0 ∷ 0 ∷ 0 ∷ 0 ∷ 0 ∷ 0 ∷ []) ∷ [])
  pub plain_color : text_said (codes "P3 1 1 255 10 20 30") ≡ one_image (head Color 1 1 3 255)
      ((10 ∷ 20 ∷ 30 ∷ []) ∷ [])
  pub comment_after_sample : text_said (codes "P3 1 1 9 1#c\n2 3") ≡ one_image (head Color 1 1 3 9)
      ((1 ∷ 2 ∷ 3 ∷ []) ∷ [])
  pub pixel_after_last : text_said (codes "P1 2 2\n10011")
      ≡ record { messages = head Bit 2 2 1 1 ∷ Row (0 ∷ 1 ∷ []) ∷ []; fault = Some BadSample }
  pub wide_above : text_said (codes "P5\n1 1\n300\n" ++ 1 ∷ 45 ∷ [])
      ≡ record { messages = head Gray 1 1 1 300 ∷ []; fault = Some SampleAboveMaxval }
  pub comment_in_number : text_said (codes "P5\n1#x\n0 1\n255\nABCDEFGHIJ") ≡ one_image (head Gray 10 1 1 255)
      (codes "ABCDEFGHIJ" ∷ [])
  pub comment_after_maxval : text_said (codes "P5\n1 1\n255#c\n\nA") ≡ one_image (head Gray 1 1 1 255) ((65 ∷ []) ∷ [])
  pub after_plain : text_said (codes "P2 1 1 9 5 junk") ≡ one_image (head Gray 1 1 1 9) ((5 ∷ []) ∷ [])
  pub letter_after_last : fault_of (codes "P2 1 1 9 5x") ≡ Some BadSample
  pub letter_after_above : fault_of (codes "P2 1 1 9 10x") ≡ Some BadSample
  pub comment_after_above : fault_of (codes "P2 1 1 9 10#") ≡ Some SampleAboveMaxval
  pub no_width : fault_of (codes "P5 0 1 9\n") ≡ Some ZeroSize
  pub letter : fault_of (codes "P5 1 x") ≡ Some BadNumber
  pub half_magic : fault_of (codes "P") ≡ Some HeaderCut
  pub other_magic : fault_of (codes "P8") ≡ Some BadMagic
  pub other_digit : fault_of (codes "P1 1 1 2") ≡ Some BadSample
  pub empty : fault_of [] ≡ Some EmptyInput
  pub cut_raster : text_said (codes "P5 1 2 9\n" ++ 5 ∷ [])
      ≡ record { messages = head Gray 1 2 1 9 ∷ Row (5 ∷ []) ∷ []; fault = Some RasterCut }
  pub byte_after_raw : text_said (codes "P5 1 1 9\n" ++ 5 ∷ 81 ∷ [])
      ≡ record { messages = head Gray 1 1 1 9 ∷ Row (5 ∷ []) ∷ ImageEnd ∷ []; fault = Some BadMagic }
  pub two_images : text_said (codes "P5\n2 1\n9\n" ++ (1 ∷ 2 ∷ (codes "P6\n1 1\n9\n" ++ 3 ∷ 4 ∷ 5 ∷ [])))
      ≡ record {
        messages = head Gray 2 1 1 9 ∷ Row (1 ∷ 2 ∷ []) ∷ ImageEnd ∷ head Color 1 1 3 9 ∷ Row (3 ∷ 4 ∷ 5 ∷ [])
            ∷ ImageEnd ∷ StreamEnd ∷ [];
        fault = None;
      }
  pub cut_second : text_said (codes "P5\n2 1\n9\n" ++ (1 ∷ 2 ∷ (codes "P6\n1 1\n9\n" ++ 3 ∷ 4 ∷ [])))
      ≡ record {
        messages = head Gray 2 1 1 9 ∷ Row (1 ∷ 2 ∷ []) ∷ ImageEnd ∷ head Color 1 1 3 9 ∷ [];
        fault = Some RasterCut;
      }
  pub plain_after_raw : fault_of (codes "P4 1 1\n" ++ 0 ∷ codes "P1 1 1 0") ≡ Some PlainInStream
  pub raw_after_plain : text_said (codes "P2 1 1 9 5 P5 1 1 9 5") ≡ one_image (head Gray 1 1 1 9) ((5 ∷ []) ∷ [])
  pub pam : text_said
      (codes "P7\n# c\nTUPLTYPE A\nDEPTH 1\n\nMAXVAL 1\nTUPLTYPE  B \nWIDTH 1\nHEIGHT 1\nENDHDR\n" ++ 1 ∷ [])
      ≡ one_image
      (Begin (record {
        shape = record { kind = Pam; width = 1; height = 1; depth = 1; maxval = 1 };
        tuple_type = codes "A B";
      }))
      ((1 ∷ []) ∷ [])
  pub pam_without_depth : fault_of (codes "P7\nMAXVAL 1\nWIDTH 1\nHEIGHT 1\nENDHDR\n") ≡ Some MissingField
  pub pam_field_twice : fault_of (codes "P7\nWIDTH 1\nWIDTH 1\n") ≡ Some DuplicateField
  pub pam_no_number : fault_of (codes "P7\nWIDTH\n") ≡ Some BadPamLine
  pub pam_bad_number : fault_of (codes "P7\nWIDTH x\n") ≡ Some BadNumber
  pub pam_blank_after_magic : fault_of (codes "P7 \n") ≡ Some BadPamLine
  pub pam_cut : fault_of (codes "P7\nWIDTH 1") ≡ Some HeaderCut
