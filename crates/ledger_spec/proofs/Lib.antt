pub mod ReplayLaws
pub mod CallsLaws
pub mod StartsLaws
pub mod InstanceLaws
pub mod LegalLaws
pub mod PublishingLaws
pub mod StepLaws
mod StandingLemmas
mod PublishingLemmas
pub mod FromSemantics
pub mod FromBundle
pub mod FromRoles
pub mod FromBuilderSpec
pub mod FromLedgerLaws
