pub mod ApartLemmas
pub mod FindLemmas
pub mod FormLemmas
pub mod PathLemmas
pub mod Patterns
pub mod SoundLemmas
pub mod TableLemmas
pub mod TakesLemmas
