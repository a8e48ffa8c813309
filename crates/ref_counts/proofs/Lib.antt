pub mod Laying
pub mod Merged
