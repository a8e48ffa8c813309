pub mod IntentLaws
pub mod Found
pub mod FoundLaws
pub mod View
pub mod ViewLaws
pub mod OpeningLaws
pub mod Chain
pub mod ChainLaws
