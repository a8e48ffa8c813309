pub mod CleanLaws
pub mod PutLaws
pub mod ReaderLaws
