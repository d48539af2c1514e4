pub mod OpenLaws
pub mod OpenSteps
pub mod Unique
