pub mod Finding
pub mod Giving
pub mod Opening
pub mod Since
