pub mod BitLaws
pub mod ZoneLaws
