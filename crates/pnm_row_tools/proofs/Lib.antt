mod Words
pub mod FlipRowLaws
pub mod ValueLaws
pub mod EachRowLaws
pub mod CutRowsLaws
pub mod FlipRowsLaws
pub mod ChannelRowsLaws
pub mod HeldRowsLaws
pub mod ChangeLaws
