pub mod Cuts
pub mod Nets
pub mod Brings
pub mod Floors
pub mod Asked
pub mod Others
