pub mod AskLaws
pub mod FieldLaws
pub mod MessageLaws
pub mod ResponseLemmas
