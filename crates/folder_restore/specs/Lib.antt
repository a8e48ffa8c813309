pub mod Faults
pub mod RestoreScript
pub mod Restores
pub mod Turns
pub mod ShownLaws
