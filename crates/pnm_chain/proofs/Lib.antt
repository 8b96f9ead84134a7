mod Words
pub mod NameLaws
pub mod WordLaws
pub mod ItemSteps
pub mod ItemLaws
pub mod NumberLaws
pub mod SettingLaws
pub mod MeaningLaws
pub mod ChainLaws
pub mod LawfulLaws
pub mod ReadingLaws
pub mod ParsingLaws
pub mod FaultLaws
