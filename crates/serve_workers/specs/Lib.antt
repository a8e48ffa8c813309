pub mod Stores
pub mod Seated
pub mod Workers
