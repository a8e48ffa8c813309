pub mod Bodies
pub mod Chunks
pub mod Laws
pub mod ReadLaws
pub mod Reads
pub mod RunLaws
pub mod Steps
