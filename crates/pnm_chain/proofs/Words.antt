-- What the proofs of pnm_chain name of its definitions, of std and of the crates below.
pub use Rattle.pnm_chain.specs.ChainExamples.{ChainTextsHold}
pub use Rattle.pnm_chain.specs.ChainText.{IsOneChainOrOneFault, IsPlaced, SpellTools, SpellsChain, SpellsTool, chain_fault_of, fault_from, is_of_stage}
pub use Rattle.pnm_chain.specs.ChainText.{named_fault, stage_fault, stage_texts, whole_fault, words_fault}
pub use Rattle.pnm_chain.specs.Internal.ChainText.{IsRefusal}
pub use Rattle.pnm_chain.specs.Internal.Settings.{AreRead, AreSettingsOf, AreTaken, IsReading, NowSay, argument_fault, has_option, item_read, said_by}
pub use Rattle.pnm_chain.specs.Internal.Settings.{value_read, with_number, with_option}
pub use Rattle.pnm_chain.specs.Options.{Said, arguments_taken, begins_with_dash, excludes, factor_by, has_three, is_numeral, most_arguments, offset_value}
pub use Rattle.pnm_chain.specs.Options.{option_named, slot_of, spells_number, spells_offset, takes_argument, takes_value, tool_named, tool_rule, wants_value}
pub use Rattle.pnm_chain.specs.Options.{way_in, without_dash}
pub use Rattle.pnm_chain.specs.StageWords.{Argument, Given, IsFormed, Item, Means, Unknown, arguments_of, end_fault, fault_after, given_as, is_conflict}
pub use Rattle.pnm_chain.specs.StageWords.{is_missing, is_there, item_fault, item_of, items_of, meant_by, name_in, numbers_of, option_value, options_of}
pub use Rattle.pnm_chain.specs.StageWords.{said_of, takes_next, value_fault, value_in, way_of, without_dashes}
pub use Rattle.pnm_chain.specs.declared.chain_text.ChainFault.{ChainFault}
pub use Rattle.pnm_chain.specs.declared.chain_text.ChainKind.{ChainKind}
pub use Rattle.pnm_chain.specs.declared.chain_text.ChainKind.TheVariants.{BadValue, Conflict, Empty, ExtraArgument, Memory, MissingArgument, MissingValue}
pub use Rattle.pnm_chain.specs.declared.chain_text.ChainKind.TheVariants.{TooLong, TooMany}
pub use Rattle.pnm_chain.specs.declared.chain_text.TheConstants.{MAX_TEXT_LENGTH}
pub use Rattle.pnm_chain.specs.declared.options.ToolName.{ToolName}
pub use Rattle.pnm_chain.specs.declared.options.ToolName.TheVariants.{Channel, Cut, Depth, Enlarge, Flip, Invert, Tile}
pub use Rattle.pnm_chain.specs.declared.options.ToolOption.{ToolOption}
pub use Rattle.pnm_chain.specs.declared.options.ToolOption.TheVariants.{Bottom, Height, Left, Right, Top, TupleType, Way, Width, XScale, YScale}
pub use Rattle.pnm_chain.specs.declared.settings.Settings.{Settings}
pub use Rattle.pnm_image.proofs.BoolLaws.{not_and_parts}
pub use Rattle.pnm_image.proofs.Lists.{first_and_rest, not_nil}
pub use Rattle.pnm_image.proofs.Words.{begins_in_word, words-cons, words-nil, words_by}
pub use Rattle.pnm_image.specs.Heads.{IsTupleType}
pub use Rattle.pnm_image.specs.Texts.{decimal_value, is_blank, is_digit, is_white, words}
pub use Rattle.pnm_image.specs.declared.limits.TheConstants.{MAX_DEPTH, MAX_MAXVAL, MAX_TUPLE_TYPE_LENGTH}
pub use Rattle.pnm_tools.specs.Chains.{AreLawfulTools, IsChain}
pub use Rattle.pnm_tools.specs.Cut.{IsEdge, IsLawfulAxis}
pub use Rattle.pnm_tools.specs.ToolLimits.{IsExtent}
pub use Rattle.pnm_tools.specs.Tools.{IsLawfulTool}
pub use Rattle.pnm_tools.specs.declared.flip.FlipWay.{FlipWay}
pub use Rattle.pnm_tools.specs.declared.limits.TheConstants.{MAX_EXTENT, MAX_TOOLS}
pub use Rattle.pnm_tools.specs.declared.tool.Tool.{Tool}
pub use Rattle.std.proofs.Common.{Bool, Err, IfErr, IfOk, IfSome, IsSome, List, MatchResult, None, Ok, OnOk, Option, Result, Some, [], ap, append-nil}
pub use Rattle.std.proofs.Common.{append_assoc, arith, cond, drop, false, get_or, if◌then◌else◌, inl, inr, is_some, length, ltb, map, nat_eq, not, of_z}
pub use Rattle.std.proofs.Common.{option_map, pos, refl, rules, subst, suc, sym, take, tests, to_z, true, unwrap_or, w32, zero, ℕ, ℤ, ◌&&◌, ◌++◌, ◌+◌, ◌-ℤ◌}
pub use Rattle.std.proofs.Common.{◌-◌, ◌<◌, ◌==◌, ◌^◌, ◌||◌, ◌∙◌, ◌∷◌, ◌≡◌, ◌≤◌, ◌⊎◌}
pub use Rattle.std.proofs.Math.Bool.{or-false, or_assoc}
pub use Rattle.std.proofs.Math.Seq.{drop-cons, take-length}
pub use Rattle.std.proofs.lemmas.Bool.{and_from, and_left, and_parts, and_right, both_ways, cond-false, cond-true, eq-eqb, eqb-true, false_from_ne_true}
pub use Rattle.std.proofs.lemmas.Bool.{false≢true, le-ltb, leb-false, leb-true, lt-leb, lt-ltb, ltb-false, not-true, not_from_true, or_from, or_parts}
pub use Rattle.std.proofs.lemmas.Bool.Decides.{nat_tests}
pub use Rattle.std.proofs.lemmas.Grind.{common_steps}
pub use Rattle.std.proofs.lemmas.Int.{ints}
pub use Rattle.std.proofs.lemmas.Iterator.{YieldsList-from_slice}
pub use Rattle.std.proofs.lemmas.Iterator.Consumers.{YieldsList-at, YieldsList-end, YieldsList-turn}
pub use Rattle.std.proofs.lemmas.Iterator.Search.{position_from_yields_List}
pub use Rattle.std.proofs.lemmas.Iterator.Splits.{YieldsList-from_str_split}
pub use Rattle.std.proofs.lemmas.List.{drop_all, drop_more, length-append, length-drop, length-map, length-take, length_push, map-append, take-append-drop}
pub use Rattle.std.proofs.lemmas.List.{take_all, take_more}
pub use Rattle.std.proofs.lemmas.List.Elements.{All-append, All-cons, All-nil}
pub use Rattle.std.proofs.lemmas.List.Folds.{list_all_more, list_any_at, list_any_none}
pub use Rattle.std.proofs.lemmas.List.Quantifiers.{position-Some}
pub use Rattle.std.proofs.lemmas.List.Splits.{length-slice_split, slice_split-cons_no}
pub use Rattle.std.proofs.lemmas.List.Sums.{count_by_more_no, count_by_more_yes, fails_before_first}
pub use Rattle.std.proofs.lemmas.Map.Keys.{IsDistinct-cons}
pub use Rattle.std.proofs.lemmas.Option.{cond_some, same_Some}
pub use Rattle.std.proofs.lemmas.Result.{IfErr-weaker, IfOk-weaker, on_ok_weaker}
pub use Rattle.std.proofs.lemmas.Str.{IsUtf8-from_ascii}
pub use Rattle.std.proofs.lemmas.Str.Ascii.{IsAscii-cons, IsAscii-nil}
pub use Rattle.std.proofs.lemmas.Str.Parse.{IsDigitsTest, IsNumeralModel, numerals_by_value, parse_plain}
pub use Rattle.std.specs.List.{AllByRecursion, after_first, before_first, count_by, list_all, list_any, onto_first, position, position_or_len, starts_with}
pub use Rattle.std.specs.Option.{option_map_or, option_or}
pub use Rattle.std.specs.Prelude.{All, MatchOption, nat_le, nat_lt, neg_ℤ, slice_index, slice_index_or, unsigned_abs, ◌≢◌}
pub use Rattle.std.specs.Result.{OkIff, result_ok}
pub use Rattle.std.specs.Str.{IsAscii, IsUtf8}
pub use Rattle.std.specs.Str.Parse.{ParsesUnsigned}
pub use denote.Ref.{Bor}
