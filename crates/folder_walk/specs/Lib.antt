pub mod Rows
pub mod Causes
pub mod Events
pub mod Puts
pub mod Bases
pub mod Dumps
pub mod ShownLaws
