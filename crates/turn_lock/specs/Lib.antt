pub mod Asked
pub mod History
pub mod Returned
pub mod ReturnedLaws
pub mod Rule
pub mod SumLaws
pub mod Sums
