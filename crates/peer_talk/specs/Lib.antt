pub mod Laws
pub mod Mirror
pub mod Sayings
