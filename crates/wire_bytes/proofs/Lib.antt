pub mod Steps
pub mod Field
pub mod Numbers
pub mod Signed
pub mod Texts
pub mod Flags
