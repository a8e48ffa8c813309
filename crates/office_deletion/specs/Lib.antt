pub mod DeletionLaws
pub mod ExpiryLaws
pub mod OfficeLaws
