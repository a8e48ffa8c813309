pub mod CodecLaws
pub mod EventLaws
pub mod KindLemmas
pub mod RangeLemmas
