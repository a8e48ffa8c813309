-- What the proofs of several functions cite.
pub mod Imaging
pub mod Listing
pub mod Memories
pub mod Records
