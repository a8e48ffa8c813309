pub mod Adopted
pub mod SplitLaws
pub mod PartLaws
pub mod FillLaws
pub mod GainLaws
pub mod AdoptedLaws
