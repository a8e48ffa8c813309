pub mod Clocks
pub mod Memory
pub mod Moments
pub mod Seen
pub mod Told
pub mod ToldLaws
