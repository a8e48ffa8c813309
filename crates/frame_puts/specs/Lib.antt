pub mod Steps
pub mod StepLaws
pub mod Laid
pub mod Runs
pub mod RunLaws
