pub mod PairLemmas
pub mod PathLemmas
pub mod PlainLemmas
pub mod ReadBack
pub mod ReadLemmas
pub mod TextLemmas
pub mod ValueLemmas
