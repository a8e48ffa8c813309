-- What a request asks for: an event, or a file that goes by stages.
--     looked_at      how many bytes of a body the event of a plan needs
--     goes_by_stages, staged_by      whether a head's file goes by stages, and the put of a plan that does
--     asked      what a request asks for
use Rattle.std.specs.Prelude.{◌≡◌, ℕ, nat_lt, Bool, ◌||◌, List, Option, Some, None, Ok, unwrap_or, if◌then◌else◌}
use Rattle.http_heads.specs.Heads.{HeadParts}
use Rattle.office_model.specs.Office.{piece_limit}
use Rattle.office_model.specs.declared.event.Event.{Event}
use Rattle.request_events.specs.declared.defaults.Defaults.{Defaults}
use Rattle.request_events.specs.declared.plan.FilePut.{FilePut}
use Rattle.request_events.specs.declared.plan.Plan.{Plan}
use Rattle.request_events.specs.declared.plan.Plan.TheVariants as P
use Rattle.request_events.specs.declared.way.Way.{Way}
use Rattle.request_events.specs.declared.way.Way.TheVariants.{Staged, Planned}
use Rattle.request_events.specs.Said.{Said, ◌>>=◌}
use Rattle.request_events.specs.Plans.{planned}
use Rattle.request_events.specs.Events.{event_of}

-- how many bytes of a body the event needs: of a file that goes whole all, of a target one more than it may have
abbrev pub looked_at : Plan → ℕ
looked_at (P.PutFile put) = piece_limit
looked_at (P.PutLink dump path attributes token) = 4097
looked_at plan = 0

-- a file goes by stages if it comes in chunks, or is longer than a piece
abbrev pub goes_by_stages : HeadParts → Bool
goes_by_stages head = head.chunked || nat_lt piece_limit (unwrap_or head.content_length 0)

-- the put of a file, if files go by stages
abbrev pub staged_by : Bool → Plan → Option FilePut
staged_by by_stages (P.PutFile put) = if by_stages then Some put else None
staged_by by_stages plan = None

-- the way of a plan, by the put of a file that goes by stages
abbrev pub IsWay : Option FilePut → Plan → Way → Type 0
IsWay staged plan (Staged put) = staged ≡ Some put
IsWay staged plan (Planned kept) = (staged ≡ None) × (kept ≡ plan)

pub data Asked : Type 0 where
  One : Event → Asked
  InStages : FilePut → Asked

-- the put of a file that goes by stages, or else what is said of the event
abbrev pub asked_by : Option FilePut → Said Event → Said Asked
asked_by None said = said >>= λ event. Ok (One event)
asked_by (Some put) said = Ok (InStages put)

-- what a request asks for with its body, a moment and the settings, or why it is refused
unfoldable pub asked : HeadParts → List ℕ → ℕ → Defaults → Said Asked
asked head body moment defaults = do
  plan ← planned head
  asked_by (staged_by (goes_by_stages head) plan) (event_of plan body moment defaults)
