pub mod Changes
pub mod ChangesLaws
pub mod Layout
pub mod RawChanges
pub mod Overlay
pub mod OverlayLaws
pub mod Steps
pub mod Calls
