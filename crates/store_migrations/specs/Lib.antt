pub mod Migrated
pub mod Called
pub mod LayoutLaws
pub mod WrittenLaws
pub mod PlanLaws
pub mod StandsLaws
pub mod RunLaws
pub mod CalledLaws
