pub mod Held
pub mod ReadLaws
