-- From a plan, a body and a moment to the event.
--     event_of      the event of a plan
use Rattle.std.specs.Prelude.{ℕ, List, Option, Ok, Err, if◌then◌else◌}
use Rattle.attr_records.specs.Attributes.{Attributes}
use Rattle.attr_records.specs.Names.{is_link_target}
use Rattle.attr_records.specs.declared.nodes.Item.TheVariants as I
use Rattle.office_model.specs.declared.event.Event.{Event}
use Rattle.office_model.specs.declared.event.Event.TheVariants as E
use Rattle.office_model.specs.declared.event.PutItem.TheVariants.{Whole}
use Rattle.receipts.specs.declared.session.SessionName.{SessionName}
use Rattle.receipts.specs.declared.session.Token.{Token}
use Rattle.wake_schedule.specs.declared.zone.Local.{Local}
use Rattle.wake_schedule.specs.Clock.{local_of}
use Rattle.wake_schedule.specs.Zones.{ahead_at}
use Rattle.request_events.specs.declared.defaults.Defaults.{Defaults}
use Rattle.request_events.specs.declared.plan.FilePut.{FilePut}
use Rattle.request_events.specs.declared.plan.Plan.{Plan}
use Rattle.request_events.specs.declared.plan.Plan.TheVariants as P
use Rattle.request_events.specs.declared.refusal.RequestRefusal.TheVariants.{BadTarget}
use Rattle.request_events.specs.Said.{Said}

-- what the clock of the settings' zone shows at a moment
abbrev pub local_in : Defaults → ℕ → Local
local_in defaults moment = local_of moment (ahead_at defaults.zone moment)

-- the put of a file with these bytes
abbrev pub file_event : FilePut → List ℕ → Event
file_event put bytes = E.Put put.dump put.path (Whole (I.File (record { attr = put.attr; group = put.group; bytes = bytes }))) put.token

-- the put of a link with this target
abbrev pub link_event : SessionName → List ℕ → Attributes → Option Token → List ℕ → Said Event
link_event dump path attributes token target =
    if is_link_target target then Ok (E.Put dump path (Whole (I.Link (record { attr = attributes; target = target }))) token)
    else Err BadTarget

-- the event of a plan with a body, a moment and the settings
abbrev pub event_of : Plan → List ℕ → ℕ → Defaults → Said Event
event_of (P.Ready event) body moment defaults = Ok event
event_of (P.AddHost host) body moment defaults = Ok (E.AddHost host defaults.rules)
event_of (P.OpenDump host kind token) body moment defaults = Ok (E.OpenDump host kind moment token)
event_of (P.PutFile put) body moment defaults = Ok (file_event put body)
event_of (P.PutLink dump path attributes token) body moment defaults = link_event dump path attributes token body
event_of (P.Commit dump) body moment defaults = Ok (E.Commit dump moment)
event_of (P.Expire host) body moment defaults = Ok (E.Expire host moment)
event_of (P.Due host) body moment defaults = Ok (E.Due host moment (local_in defaults moment))
