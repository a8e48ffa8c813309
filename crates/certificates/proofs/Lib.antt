pub mod Ids
pub mod Next
