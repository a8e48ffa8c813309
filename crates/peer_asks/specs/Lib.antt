pub mod AskLaws
pub mod Asks
