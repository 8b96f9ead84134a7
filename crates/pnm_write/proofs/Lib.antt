mod Words
pub mod FormLaws
pub mod MessageLaws
pub mod PlainLaws
pub mod EntryLaws
pub mod PixelLaws
pub mod NumeralLaws
pub mod PartLaws
pub mod WriteCallSteps
pub mod RowsLaws
pub mod RunLaws
pub mod RowMessages
pub mod RawLaws
pub mod WordSizes
pub mod OneText
