pub mod LayoutLaws
pub mod BodyLaws
pub mod StepsLaws
pub mod CommitLaws
pub mod CallsLaws
