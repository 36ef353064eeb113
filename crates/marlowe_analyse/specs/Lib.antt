pub mod Order
pub mod Told
pub mod Printed
pub mod Keeping
pub mod OrderSupport
pub mod RunsSupport
pub mod OnceSupport
