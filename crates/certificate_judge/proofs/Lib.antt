pub mod Halving
pub mod Numbers
pub mod Parts
pub mod Wrongs
pub mod Runs
pub mod Blocks
pub mod Closing
