mod Words
pub mod IngressSteps
pub mod EgressSteps
pub mod IoLoopSteps
