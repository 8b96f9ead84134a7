use Rattle.pnm_chain.proofs.Words.{refl, ChainTextsHold}
use Rattle.pnm_image.specs.Texts.{words}
use Rattle.pnm_chain.specs.Options.{tool_named, cut_option, channel_option, enlarge_option, flip_option, turn_option}
use Rattle.pnm_chain.specs.StageWords.{items_of, fault_after}
use Rattle.pnm_chain.specs.ChainText.{fault_from, chain_fault_of}
use Rattle.pnm_chain.proofs.laws.chain_texts_hold.Goals as goal

computed : ChainTextsHold
unfolding words tool_named cut_option channel_option enlarge_option flip_option turn_option items_of fault_after fault_from chain_fault_of
computed = record {
  inverts = refl;
  empty = refl;
  blank = refl;
  too_many = refl;
  many_without_words = refl;
  empty_stage = refl;
  unknown_tool = refl;
  unknown_option = refl;
  abbreviated = refl;
  no_name = refl;
  missing_value = refl;
  empty_value = refl;
  option_as_value = refl;
  plus = refl;
  value_of_way = refl;
  depth_of_0 = refl;
  past_limit = refl;
  at_limit = refl;
  three_of_axis = refl;
  twice = refl;
  two_ways = refl;
  turned_and_flipped = refl;
  argument_and_scale = refl;
  no_way = refl;
  no_factor = refl;
  one_of_two = refl;
  extra = refl;
  last_column = refl;
  planes = refl;
  across = refl;
  mirrored = refl;
  turned = refl;
}

pub returns : goal.returns
returns c = computed
