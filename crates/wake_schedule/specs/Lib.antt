pub mod Clock
pub mod Zones
pub mod Contact
pub mod Nights
