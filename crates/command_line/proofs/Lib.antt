mod MatchesLemmas
mod NumberLaws
mod OptionLemmas
mod UsageLemmas
mod WordLemmas
