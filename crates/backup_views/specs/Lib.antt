pub mod Stored
pub mod StoredLaws
pub mod FileLaws
pub mod Faults
pub mod FaultLaws
pub mod Kept
