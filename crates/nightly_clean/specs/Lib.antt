pub mod Cleanings
pub mod CleaningLaws
