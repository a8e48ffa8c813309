-- What the proofs of several functions cite.
pub mod ScanLaws
pub mod NameLaws
