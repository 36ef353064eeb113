pub mod FrontsLaws
pub mod HoldingLaws
pub mod SufficesLaws
pub mod FundsLaws
pub mod OnePartLaws
pub mod FromSemantics
pub mod FromBundle
pub mod FromRoles
