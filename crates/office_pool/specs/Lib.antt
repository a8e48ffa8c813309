pub mod FitLaws
pub mod AddedLaws
