pub mod AskedLaws
pub mod MirrorLaws
pub mod SayingLaws
pub mod StatusLaws
pub mod WordLaws
