pub mod BackLaws
pub mod SessionLaws
