mod CallLemmas
mod HearingLemmas
mod ServedLemmas
