-- What a server does at a door: the connections that it serves there, one after the other.
use Rattle.std.specs.Prelude.{◌≡◌, ℕ, List, [], ◌∷◌, ◌++◌, Option}
use Rattle.stream_traits.specs.declared.link.Faults.{Ghosts}
use Rattle.stream_traits.specs.Seen.{seen_of}
use Rattle.office_model.specs.Step.{Call}
use Rattle.request_events.specs.declared.defaults.Defaults.{Defaults}
use Rattle.browse_http.specs.declared.end.End.{End}
use Rattle.browse_http.specs.Talk.{ServesLink}
use Rattle.caller_doors.specs.Links.{ahead_of, with_last}

-- a connection that was served: its link as it came and as it was given back, the calls that it made, and how it ended
pub record Connection (L : Type 0) : Type 0 where
  pub link : L
  pub back : L
  pub calls : List Call
  pub end : End

-- a port that makes just these calls
abbrev pub Makes : List Call → Unit {0} → List Call → Unit {0} → Type 0
Makes made old calls new = calls ≡ made

-- A connection under these settings is a talk: what was written on its link fits what was read from it, the calls that it made, and
-- its end, which is a fault of the link only where the link's count rose. The clock had the moments before it, and has those after.
abbrev pub IsServed : Defaults → {L : Type 0} → Ghosts L → Option (List ℕ) → Connection L → Option (List ℕ) → Type 0
IsServed defaults l moments connection moments' =
    ServesLink defaults (Makes connection.calls) tt tt (seen_of l connection.link) (seen_of l connection.back) moments moments'
    connection.end

-- so is each of these, and the clock's moments go on from one to the next
abbrev pub AreServed : Defaults → {L : Type 0} → Ghosts L → Option (List ℕ) → List (Connection L) → Option (List ℕ) → Type 0
AreServed defaults l moments [] moments' = moments' ≡ moments
AreServed defaults l moments (connection ∷ later) moments' =
    (between : Option (List ℕ)) × IsServed defaults l moments connection between × AreServed defaults l between later moments'

-- the links as they came
abbrev pub links_of : {L : Type 0} → List (Connection L) → List L
links_of [] = []
links_of (connection ∷ later) = connection.link ∷ links_of later

-- the links as they were given back
abbrev pub backs_of : {L : Type 0} → List (Connection L) → List L
backs_of [] = []
backs_of (connection ∷ later) = connection.back ∷ backs_of later

-- the calls of all, one connection after the other
abbrev pub all_calls : {L : Type 0} → List (Connection L) → List Call
all_calls [] = []
all_calls (connection ∷ later) = connection.calls ++ all_calls later

-- A server at a door, over a port: there are connections, each a talk, whose calls lead from the port's state before to that after,
-- each once and in order; where the door tells its links, they are those that it had to give, in order, each of them given back as
-- it was after its talk.
pub record ServesDoor (defaults : Defaults) {P : Type 0} (moves : P → List Call → P → Type 0) (old new : P) {L : Type 0} (l : Ghosts L)
    (coming coming' given given' : Option (List L)) (moments moments' : Option (List ℕ)) : Type 0 where
  pub connections : List (Connection L)
  pub moved : moves old (all_calls connections) new
  pub served : AreServed defaults l moments connections moments'
  pub came : coming ≡ ahead_of (links_of connections) coming'
  pub gave : given' ≡ with_last given (backs_of connections)
