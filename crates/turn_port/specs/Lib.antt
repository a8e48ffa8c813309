pub mod Asks
pub mod AsksLaws
pub mod Stores
pub mod Comes
pub mod ComesLaws
