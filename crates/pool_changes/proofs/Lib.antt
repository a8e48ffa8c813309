pub mod Changing
pub mod Layering
pub mod Naming
pub mod Picking
pub mod Ranging
pub mod Totals
