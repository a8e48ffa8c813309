pub mod Laws
pub mod Plain
pub mod Requests
pub mod ResponseReads
