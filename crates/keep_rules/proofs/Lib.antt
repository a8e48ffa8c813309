pub mod Ages
pub mod GapLaws
pub mod RiseLaws
pub mod SpanLaws
pub mod StepLaws
pub mod WalkLaws
