mod Words
pub mod ToolSteps
pub mod LaneRefusals
pub mod ToolOverLaws
pub mod ToolRunSteps
pub mod ChainSteps
pub mod SentEnds
pub mod StageEndLaws
pub mod SentLaws
pub mod ThreadedRunSteps
pub mod ThreadedAnswerSteps
