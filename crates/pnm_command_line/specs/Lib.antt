pub mod CommandLine
pub mod CommandLineExamples
pub mod NamedRuns
pub mod Streams
pub mod ProgramFacts
pub mod Internal
