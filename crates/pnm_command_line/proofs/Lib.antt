pub mod DefaultReads
pub mod CommandLineSteps
pub mod OneKind
pub mod HelpSteps
pub mod ProgramFactSteps
