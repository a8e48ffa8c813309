pub mod CallLaws
pub mod EventLaws
pub mod FitLaws
pub mod FrameLaws
pub mod PullLaws
pub mod ReadLaws
pub mod ServedLaws
pub mod TextLengths
