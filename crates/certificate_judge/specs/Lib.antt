pub mod Faults
pub mod Verdicts
pub mod Judging
pub mod Right
pub mod RightLaws
pub mod VerdictLaws
