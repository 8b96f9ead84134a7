mod Words
pub mod RingSteps
pub mod PacketLaws
pub mod EndingLaws
pub mod PrefixLaws
mod LongestPrefixes
pub mod SendingSteps
pub mod StagedSteps
pub mod PassingSteps
