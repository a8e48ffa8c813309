pub mod Chosen
pub mod RunLaws
pub mod Runs
pub mod Sources
pub mod TableLaws
pub mod Tables
pub mod ViewLaws
pub mod Views
