pub mod ValueSteps
pub mod ActionSteps
