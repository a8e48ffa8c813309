pub mod Listed
pub mod Given
pub mod HoldingLaws
pub mod EventLaws
pub mod ListedLaws
pub mod RunLaws
pub mod GivenLaws
pub mod OpenedLaws
