pub mod Known
pub mod Held
pub mod Named
pub mod Kept
pub mod Changed
pub mod Opening
