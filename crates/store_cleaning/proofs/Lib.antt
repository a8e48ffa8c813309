pub mod StageFiles
pub mod Sweeps
pub mod CleanIds
pub mod Cleans
