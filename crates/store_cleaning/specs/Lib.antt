pub mod CleanLaws
pub mod StageFiles
