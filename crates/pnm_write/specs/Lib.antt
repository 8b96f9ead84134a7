pub mod PlainRows
pub mod Forms
pub mod Encoding
pub mod Sinks
pub mod EncodingLaws
pub mod Internal
