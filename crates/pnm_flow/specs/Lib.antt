pub mod Links
pub mod ChainRuns
pub mod ThreadedRuns
pub mod SentMessages
pub mod Internal
