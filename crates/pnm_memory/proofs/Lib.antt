pub mod ConversionSteps
