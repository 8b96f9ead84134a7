pub mod Codes
pub mod Conversions
pub mod CallAnswers
