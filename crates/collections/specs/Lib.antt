pub mod Answers
pub mod Keys
pub mod Positive
pub mod Repeats
pub mod Same
pub mod Search
pub mod Total
pub mod formers
