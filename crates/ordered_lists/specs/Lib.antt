pub mod Merge
pub mod MergeLaws
pub mod Order
pub mod OrderLaws
pub mod Search
