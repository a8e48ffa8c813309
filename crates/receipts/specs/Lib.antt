pub mod Session
pub mod TokenSets
pub mod Receipts
pub mod TokenLaws
