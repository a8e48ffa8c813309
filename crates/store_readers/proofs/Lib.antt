pub mod Running
pub mod Heres
pub mod Closes
pub mod Parting
pub mod Passing
pub mod Opens
