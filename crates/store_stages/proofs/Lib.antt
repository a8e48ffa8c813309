pub mod Opens
pub mod StageFiles
pub mod Puts
pub mod Repeats
