pub mod Actions
pub mod Forms
pub mod Laws
pub mod Table
pub mod Targets
