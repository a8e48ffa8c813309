pub mod Counts
pub mod Edits
pub mod Kinds
pub mod Merging
pub mod Removed
pub mod Rules
