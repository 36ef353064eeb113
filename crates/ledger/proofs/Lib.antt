mod MomentLemmas
pub mod FromSemantics
pub mod FromBundle
pub mod FromRoles
