pub mod FrameLaws
pub mod SinceLaws
