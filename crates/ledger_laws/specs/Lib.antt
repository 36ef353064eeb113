pub mod Past
pub mod Threads
pub mod Sound
pub mod Laws
pub mod Worked
