pub mod Counts
pub mod Periods
