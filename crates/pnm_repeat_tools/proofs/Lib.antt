mod Words
pub mod EnlargedHeadLaws
pub mod EnlargeRowLaws
pub mod CopyLaws
pub mod CutRowsLaws
pub mod TileRowLaws
pub mod TileRowsLaws
pub mod KeptRowLaws
pub mod TileBitLaws
pub mod RepeatedBitLaws
pub mod EnlargedRowsLaws
pub mod HeldRowLaws
pub mod WideRowLaws
pub mod WaitingLaws
