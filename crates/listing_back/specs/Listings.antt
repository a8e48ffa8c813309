-- What the bodies of two answers say.
--     listing_of      the listing of a host's backups
--     opened_of      the name of the restore that was opened
-- Members that aren't named here say nothing.
use Rattle.std.specs.Prelude.{ℕ, List, [], ◌∷◌, codes, Option, Some, option_map, option_and_then}
use Rattle.backup_rules.specs.declared.lines.Line.{Line}
use Rattle.receipts.specs.declared.session.SessionName.{SessionName}
use Rattle.serde_json.specs.Data.{Data, Items, no_items, item}
use Rattle.serde_json.specs.Find.{get, as_array}
use Rattle.json_back.specs.Reading.{data_of}
use Rattle.listing_back.specs.Members.{count_at, number_at, flag_at, text_at, kind_of, session_of, maybe_session_in}
use Rattle.listing_back.specs.declared.listing.Listing.{Listing}

-- the line of a backup that an object is
abbrev pub line_in : Data → Option Line
line_in value =
    option_and_then (λ number. option_and_then (λ start. option_and_then (λ end. option_and_then (λ kind. option_and_then (λ filled.
    option_map (λ keep. record { number = number; start = start; end = end; kind = kind; filled = filled; keep = keep })
    (flag_at (codes "keep") value)) (flag_at (codes "filled") value)) (option_and_then kind_of (text_at (codes "kind") value)))
    (count_at (codes "end") value)) (count_at (codes "start") value)) (number_at (codes "number") value)

-- each item as a line
abbrev pub lines_in : Items → Option (List Line)
lines_in no_items = Some []
lines_in (item value values) = option_and_then (λ line. option_map (λ lines. line ∷ lines) (lines_in values)) (line_in value)

-- the listing that an object is
abbrev pub listing_in : Data → Option Listing
listing_in value =
    option_and_then (λ lines. option_and_then (λ next. option_map (λ dump. record { lines = lines; next = next; dump = dump })
    (option_and_then maybe_session_in (get (codes "dump") value))) (count_at (codes "next") value))
    (option_and_then lines_in (option_and_then as_array (get (codes "backups") value)))

-- the restore that an object names
abbrev pub opened_in : Data → Option SessionName
opened_in value = option_and_then session_of (text_at (codes "restore") value)

-- ---- bytes

-- the listing that bytes are as JSON
abbrev pub listing_of : List ℕ → Option Listing
listing_of bytes = option_and_then listing_in (data_of bytes)

-- the restore that bytes name as JSON
abbrev pub opened_of : List ℕ → Option SessionName
opened_of bytes = option_and_then opened_in (data_of bytes)
