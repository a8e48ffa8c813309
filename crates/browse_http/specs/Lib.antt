pub mod Laws
pub mod Pieces
pub mod Reading
pub mod Scripts
pub mod Sending
pub mod Serving
pub mod Staging
pub mod Talk
