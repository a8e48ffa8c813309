pub mod CodecLaws
pub mod ServedLaws
