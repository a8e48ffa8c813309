-- The names in a path: a host, a backup's number, a session.
use Rattle.std.specs.Prelude.{ℕ, ◌-◌, ◌^◌, ◌==◌, List, Option, Some, None, unwrap_or, if◌then◌else◌, option_and_then}
use Rattle.std.specs.List.{before_first, after_first}
use Rattle.std.specs.Option.{option_map}
use Rattle.attr_records.specs.Names.{is_host_name}
use Rattle.http_query.specs.Numbers.{number_of}
use Rattle.http_routes.specs.Targets.{first_part, second_part}
use Rattle.receipts.specs.declared.session.SessionName.{SessionName}
use Rattle.request_events.specs.declared.refusal.RequestRefusal.TheVariants.{BadName, BadNumber}
use Rattle.request_events.specs.Said.{Said, or_refuse}

-- the host that a path names
abbrev pub host_in : List ℕ → Said (List ℕ)
host_in path = or_refuse BadName (if is_host_name (first_part path) then Some (first_part path) else None)

-- the number that it names
abbrev pub number_in : List ℕ → Said ℕ
number_in path = or_refuse BadNumber (number_of (2 ^ 32 - 1) (second_part path))

-- the session whose name a text is: two numbers in decimal, joined by a dash
unfoldable pub session_of : List ℕ → Option SessionName
session_of text =
    option_and_then (λ epoch. option_map (λ sequence. record { epoch = epoch; sequence = sequence })
    (number_of (2 ^ 64 - 1) (after_first (λ byte. byte == 45) text)))
    (number_of (2 ^ 64 - 1) (before_first (λ byte. byte == 45) text))

-- the session that a path names; a text of another form stands for 0-0, which no session has
abbrev pub session_in : List ℕ → SessionName
session_in path = unwrap_or (session_of (first_part path)) (record { epoch = 0; sequence = 0 })
