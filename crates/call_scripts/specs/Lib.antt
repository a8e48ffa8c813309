pub mod Scripts
pub mod Moments
pub mod ScriptLaws
pub mod FirstCalls
