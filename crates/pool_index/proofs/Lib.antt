pub mod Order
pub mod Laying
