mod Words
pub mod TakingSteps
pub mod StateSteps
pub mod GivingSteps
pub mod RowStateSteps
pub mod StartSteps
