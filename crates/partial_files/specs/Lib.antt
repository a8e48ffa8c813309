pub mod Faults
pub mod Layout
pub mod LayoutLaws
pub mod Partials
