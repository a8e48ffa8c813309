pub mod Compared
pub mod Parts
pub mod Runs
pub mod Script
pub mod Steps
pub mod Texts
