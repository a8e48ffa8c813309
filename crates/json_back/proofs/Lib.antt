pub mod BackLaws
pub mod ReadingLaws
