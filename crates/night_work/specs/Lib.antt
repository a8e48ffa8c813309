pub mod Script
pub mod Steps
pub mod Ends
pub mod Texts
