pub mod Flagging
pub mod Calling
mod Lookups
