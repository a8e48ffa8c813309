pub mod Faults
pub mod Items
pub mod ItemLaws
pub mod Layout
pub mod LayoutLaws
pub mod Index
