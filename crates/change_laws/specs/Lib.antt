pub mod BroughtLaws
pub mod Changes
pub mod PutLaws
pub mod RemovalLaws
pub mod SameItemLaws
pub mod SameItems
