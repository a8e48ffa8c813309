pub mod CutLemmas
pub mod NameLemmas
pub mod PathLemmas
pub mod PlainLemmas
pub mod QueryLemmas
pub mod ReadBack
pub mod ReadLemmas
