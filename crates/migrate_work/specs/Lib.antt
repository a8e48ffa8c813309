pub mod Script
pub mod Ends
pub mod Texts
pub mod Keeping
pub mod KeepingLaws
