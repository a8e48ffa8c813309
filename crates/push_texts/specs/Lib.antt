pub mod Laws
pub mod Queries
pub mod Requests
