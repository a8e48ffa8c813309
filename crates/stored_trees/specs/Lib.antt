pub mod NodeLaws
pub mod OccurrenceLaws
pub mod Occurrences
pub mod Resolved
pub mod ResolvedLaws
pub mod TreeViews
pub mod ValueLaws
pub mod Values
