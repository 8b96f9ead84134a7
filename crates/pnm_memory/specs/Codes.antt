-- The numbers by which faults are told.
use Rattle.std.specs.Prelude.{ℕ}
use Rattle.pnm_chain.specs.declared.chain_text.ChainKind.{ChainKind}
use Rattle.pnm_read.specs.declared.fault.InputFault.{InputFault}
use Rattle.pnm_tools.specs.declared.fault.ToolFault.{ToolFault}
use Rattle.pnm_write.specs.declared.fault.SinkFault.{SinkFault}
use Rattle.pnm_write.specs.declared.fault.SinkFault.TheVariants.{WriteFailed, OutOfOrder, Broken, SecondPlain, PlainPam}
use Rattle.pnm_serial.specs.declared.fault.RunFault.{RunFault}
use Rattle.pnm_serial.specs.declared.fault.RunFault.TheVariants.{NoStart, Input, Tool as OfTool, Output, PeerGone}
use Rattle.pnm_chain.specs.declared.chain_text.ChainKind.TheVariants.{Empty as ChainEmpty, TooLong as ChainTooLong}
use Rattle.pnm_chain.specs.declared.chain_text.ChainKind.TheVariants.{TooMany as ChainTooMany}
use Rattle.pnm_chain.specs.declared.chain_text.ChainKind.TheVariants.{EmptyStage as ChainEmptyStage}
use Rattle.pnm_chain.specs.declared.chain_text.ChainKind.TheVariants.{UnknownTool as ChainUnknownTool}
use Rattle.pnm_chain.specs.declared.chain_text.ChainKind.TheVariants.{UnknownOption as ChainUnknownOption}
use Rattle.pnm_chain.specs.declared.chain_text.ChainKind.TheVariants.{MissingValue as ChainMissingValue}
use Rattle.pnm_chain.specs.declared.chain_text.ChainKind.TheVariants.{BadValue as ChainBadValue}
use Rattle.pnm_chain.specs.declared.chain_text.ChainKind.TheVariants.{Conflict as ChainConflict}
use Rattle.pnm_chain.specs.declared.chain_text.ChainKind.TheVariants.{MissingArgument as ChainMissingArgument}
use Rattle.pnm_chain.specs.declared.chain_text.ChainKind.TheVariants.{ExtraArgument as ChainExtraArgument}
use Rattle.pnm_chain.specs.declared.chain_text.ChainKind.TheVariants.{Memory as ChainMemory}
use Rattle.pnm_read.specs.declared.fault.InputFault.TheVariants.{EmptyInput as InputEmptyInput}
use Rattle.pnm_read.specs.declared.fault.InputFault.TheVariants.{BadMagic as InputBadMagic, HeaderCut as InputHeaderCut}
use Rattle.pnm_read.specs.declared.fault.InputFault.TheVariants.{TooLong as InputTooLong, BadNumber as InputBadNumber}
use Rattle.pnm_read.specs.declared.fault.InputFault.TheVariants.{ZeroSize as InputZeroSize, TooLarge as InputTooLarge}
use Rattle.pnm_read.specs.declared.fault.InputFault.TheVariants.{BadMaxval as InputBadMaxval}
use Rattle.pnm_read.specs.declared.fault.InputFault.TheVariants.{BadPamLine as InputBadPamLine}
use Rattle.pnm_read.specs.declared.fault.InputFault.TheVariants.{DuplicateField as InputDuplicateField}
use Rattle.pnm_read.specs.declared.fault.InputFault.TheVariants.{MissingField as InputMissingField}
use Rattle.pnm_read.specs.declared.fault.InputFault.TheVariants.{RasterCut as InputRasterCut}
use Rattle.pnm_read.specs.declared.fault.InputFault.TheVariants.{SampleAboveMaxval as InputSampleAboveMaxval}
use Rattle.pnm_read.specs.declared.fault.InputFault.TheVariants.{BadSample as InputBadSample}
use Rattle.pnm_read.specs.declared.fault.InputFault.TheVariants.{PlainInStream as InputPlainInStream}
use Rattle.pnm_read.specs.declared.fault.InputFault.TheVariants.{ReadFailed as InputReadFailed, Memory as InputMemory}
use Rattle.pnm_tools.specs.declared.fault.ToolFault.TheVariants.{CutOutside as ToolCutOutside}
use Rattle.pnm_tools.specs.declared.fault.ToolFault.TheVariants.{ChannelOutside as ToolChannelOutside}
use Rattle.pnm_tools.specs.declared.fault.ToolFault.TheVariants.{TooLarge as ToolTooLarge, OutOfOrder as ToolOutOfOrder}
use Rattle.pnm_tools.specs.declared.fault.ToolFault.TheVariants.{Memory as ToolMemory}

-- ---- each fault has one; those of memory have 501 to 504

abbrev pub chain_code : ChainKind → ℕ
chain_code ChainEmpty = 101
chain_code ChainTooLong = 102
chain_code ChainTooMany = 103
chain_code ChainEmptyStage = 104
chain_code ChainUnknownTool = 105
chain_code ChainUnknownOption = 106
chain_code ChainMissingValue = 107
chain_code ChainBadValue = 108
chain_code ChainConflict = 109
chain_code ChainMissingArgument = 110
chain_code ChainExtraArgument = 111
chain_code ChainMemory = 501

abbrev pub input_code : InputFault → ℕ
input_code InputEmptyInput = 201
input_code InputBadMagic = 202
input_code InputHeaderCut = 203
input_code InputTooLong = 204
input_code InputBadNumber = 205
input_code InputZeroSize = 206
input_code InputTooLarge = 207
input_code InputBadMaxval = 208
input_code InputBadPamLine = 209
input_code InputDuplicateField = 210
input_code InputMissingField = 211
input_code InputRasterCut = 212
input_code InputSampleAboveMaxval = 213
input_code InputBadSample = 214
input_code InputPlainInStream = 215
input_code InputReadFailed = 216
input_code InputMemory = 502

abbrev pub tool_code : ToolFault → ℕ
tool_code ToolCutOutside = 301
tool_code ToolChannelOutside = 302
tool_code ToolTooLarge = 303
tool_code ToolOutOfOrder = 304
tool_code ToolMemory = 503

-- a failed write is want of memory for the results
abbrev pub output_code : SinkFault → ℕ
output_code WriteFailed = 504
output_code OutOfOrder = 402
output_code Broken = 403
output_code SecondPlain = 404
output_code PlainPam = 405

-- what a run in one thread never answers has none
abbrev pub code_of : RunFault → ℕ
code_of NoStart = 0
code_of (Input fault) = input_code fault
code_of (OfTool number fault) = tool_code fault
code_of (Output fault) = output_code fault
code_of (PeerGone number) = 0

-- the number of the tool that is at fault
abbrev pub number_of : RunFault → ℕ
number_of NoStart = 0
number_of (Input fault) = 0
number_of (OfTool number fault) = number
number_of (Output fault) = 0
number_of (PeerGone number) = number
