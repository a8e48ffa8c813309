pub mod Exchanges
pub mod Several
pub mod SeveralLaws
