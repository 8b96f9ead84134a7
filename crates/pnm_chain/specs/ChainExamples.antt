-- Small texts of chains, their faults, and the tools that they mean, as the definitions compute them.
use Rattle.std.specs.Prelude.{◌≡◌, ℕ, negsuc, Some, None, Option, [], ◌∷◌, codes}
use Rattle.pnm_image.specs.Texts.{words}
use Rattle.pnm_tools.specs.declared.flip.FlipWay.TheVariants.{LeftRight, Rotate90}
use Rattle.pnm_tools.specs.declared.tool.Tool.TheVariants as tools
use Rattle.pnm_tools.specs.Channel.{picks}
use Rattle.pnm_chain.specs.declared.chain_text.ChainFault.{ChainFault}
use Rattle.pnm_chain.specs.declared.chain_text.ChainKind.{ChainKind}
use Rattle.pnm_chain.specs.declared.chain_text.ChainKind.TheVariants.{Empty, TooMany, EmptyStage, UnknownTool}
use Rattle.pnm_chain.specs.declared.chain_text.ChainKind.TheVariants.{UnknownOption, MissingValue, BadValue, Conflict}
use Rattle.pnm_chain.specs.declared.chain_text.ChainKind.TheVariants.{MissingArgument, ExtraArgument}
use Rattle.pnm_chain.specs.declared.options.ToolName.TheVariants.{Cut, Channel, Enlarge, Flip}
use Rattle.pnm_chain.specs.StageWords.{items_of, meant_by}
use Rattle.pnm_chain.specs.ChainText.{chain_fault_of}

abbrev pub at_stage : ℕ → ChainKind → Option ChainFault
at_stage stage kind = Some (record { stage = stage; kind = kind })

pub record ChainTextsHold : Type 0 where
  pub inverts : chain_fault_of (codes "pnminvert") ≡ None
  pub empty : chain_fault_of [] ≡ at_stage 0 Empty
  pub blank : chain_fault_of (codes " \t ") ≡ at_stage 0 Empty
  pub too_many : chain_fault_of (codes "||||||||||||||||||||||||||||||||||||||||||||||||||||||||||||||||")
      ≡ at_stage 0 TooMany
  pub many_without_words : chain_fault_of (codes "|||||||||||||||||||||||||||||||||||||||||||||||||||||||||||||||")
      ≡ at_stage 1 EmptyStage
  pub empty_stage : chain_fault_of (codes "pnminvert | | pnminvert") ≡ at_stage 2 EmptyStage
  pub unknown_tool : chain_fault_of (codes "pnmscale 2") ≡ at_stage 1 UnknownTool
  pub unknown_option : chain_fault_of (codes "pamcut -pad") ≡ at_stage 1 UnknownOption
  pub abbreviated : chain_fault_of (codes "pamcut -l 1") ≡ at_stage 1 UnknownOption
  pub no_name : chain_fault_of (codes "pamflip --") ≡ at_stage 1 UnknownOption
  pub missing_value : chain_fault_of (codes "pamcut -left") ≡ at_stage 1 MissingValue
  pub empty_value : chain_fault_of (codes "pamcut -left= 1") ≡ at_stage 1 BadValue
  pub option_as_value : chain_fault_of (codes "pamcut -left -right") ≡ at_stage 1 BadValue
  pub plus : chain_fault_of (codes "pamcut -left +3") ≡ at_stage 1 BadValue
  pub value_of_way : chain_fault_of (codes "pamflip -lr=") ≡ at_stage 1 BadValue
  pub depth_of_0 : chain_fault_of (codes "pamdepth 0") ≡ at_stage 1 BadValue
  pub past_limit : chain_fault_of (codes "pamcut -width 16777217") ≡ at_stage 1 BadValue
  pub at_limit : chain_fault_of (codes "pamcut -left -16777216 -width 16777216") ≡ None
  pub three_of_axis : chain_fault_of (codes "pamcut -left 1 -right 2 -width 2") ≡ at_stage 1 Conflict
  pub twice : chain_fault_of (codes "pnminvert | pamcut -left 1 --left=x") ≡ at_stage 2 Conflict
  pub two_ways : chain_fault_of (codes "pamflip -lr -leftright") ≡ at_stage 1 Conflict
  pub turned_and_flipped : chain_fault_of (codes "pamflip -r90 -xy") ≡ at_stage 1 Conflict
  pub argument_and_scale : chain_fault_of (codes "pamenlarge -xscale 2 3") ≡ at_stage 1 Conflict
  pub no_way : chain_fault_of (codes "pamflip") ≡ at_stage 1 MissingArgument
  pub no_factor : chain_fault_of (codes "pamenlarge") ≡ at_stage 1 MissingArgument
  pub one_of_two : chain_fault_of (codes "pnmtile 3") ≡ at_stage 1 MissingArgument
  pub extra : chain_fault_of (codes "pnminvert 3") ≡ at_stage 1 ExtraArgument
  pub last_column : meant_by Cut (items_of Cut (words (codes "-left -1 --height=07"))) ≡ tools.Cut (record {
    left = Some (negsuc 0);
    right = None;
    top = None;
    bottom = None;
    width = None;
    height = Some 7;
  })
  pub planes : meant_by Channel (items_of Channel (words (codes "2 -tupletype a=b 0")))
      ≡ tools.Channel (picks (2 ∷ 0 ∷ []) (codes "a=b"))
  pub across : meant_by Enlarge (items_of Enlarge (words (codes "-xscale=3"))) ≡ tools.Enlarge 3 1
  pub mirrored : meant_by Flip (items_of Flip (words (codes "-leftright"))) ≡ tools.Flip LeftRight
  pub turned : meant_by Flip (items_of Flip (words (codes "-r90"))) ≡ tools.Flip Rotate90
