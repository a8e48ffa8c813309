pub mod Frames
pub mod PieceLaws
