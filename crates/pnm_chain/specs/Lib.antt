pub mod Options
pub mod StageWords
pub mod ChainText
pub mod ChainExamples
pub mod Internal
