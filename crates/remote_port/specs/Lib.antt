pub mod Asked
pub mod Hearing
pub mod Laws
pub mod Ports
pub mod Speaks
pub mod SpeaksLaws
