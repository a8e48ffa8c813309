pub mod Cuts
pub mod Layouts
pub mod OneFrame
pub mod Reading
pub mod Sequences
pub mod Streams
pub mod Trees
pub mod Writing
