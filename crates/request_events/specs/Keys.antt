-- The keys that requests take.
--     needed, optional      a key that must be there, and one that may be absent
--     rule_keys, put_keys      the keys of rules;  those of a put, by its kind
--     keys_of      those that an action takes
--     taken      a query breaks no rule of queries, or is refused for the first that it breaks
use Rattle.std.specs.Prelude.{ℕ, true, false, List, [], ◌∷◌, ◌++◌, codes, Option, Some, None, Ok, Err, bytes_eq, if◌then◌else◌}
use Rattle.http_query.specs.declared.keys.QueryRule.{QueryRule}
use Rattle.http_query.specs.Query.{Pair, KeyRow, value_of, broken_query_rule}
use Rattle.http_routes.specs.declared.route.Action.{Action}
use Rattle.http_routes.specs.declared.route.Action.TheVariants as A
use Rattle.http_routes.specs.declared.route.OfficeAction.TheVariants as O
use Rattle.http_routes.specs.declared.route.HostAction.TheVariants as H
use Rattle.http_routes.specs.declared.route.BackupAction.TheVariants as B
use Rattle.http_routes.specs.declared.route.SessionAction.TheVariants as S
use Rattle.request_events.specs.declared.refusal.RequestRefusal.TheVariants.{BadQuery}
use Rattle.request_events.specs.Said.{Said}

-- a key that must be there, and one that may be absent
abbrev pub needed : List ℕ → KeyRow
needed name = record { name = name; needed = true }

abbrev pub optional : List ℕ → KeyRow
optional name = record { name = name; needed = false }

abbrev pub rule_keys : List KeyRow
rule_keys =
    optional (codes "FillCycle") ∷ optional (codes "FullPeriod") ∷ optional (codes "IncrPeriod")
    ∷ optional (codes "FullKeepCnt") ∷ optional (codes "FullKeepCntMin") ∷ optional (codes "FullAgeMax")
    ∷ optional (codes "IncrKeepCnt") ∷ optional (codes "IncrKeepCntMin") ∷ optional (codes "IncrAgeMax")
    ∷ optional (codes "BlackoutGoodCnt") ∷ optional (codes "BlackoutBadPingLimit") ∷ optional (codes "BlackoutPeriods")
    ∷ optional (codes "OldAge") ∷ optional (codes "OldFullKeepCnt") ∷ optional (codes "OldIncrKeepCnt") ∷ []

-- what a put of each kind takes, and what that of a file takes
abbrev pub entry_keys : List KeyRow
entry_keys =
    needed (codes "path") ∷ needed (codes "kind") ∷ optional (codes "mode") ∷ optional (codes "uid")
    ∷ optional (codes "gid") ∷ optional (codes "mtime") ∷ optional (codes "nanos") ∷ optional (codes "token") ∷ []

abbrev pub file_keys : List KeyRow
file_keys = entry_keys ++ optional (codes "group") ∷ []

abbrev pub put_keys : Option (List ℕ) → List KeyRow
put_keys None = entry_keys
put_keys (Some kind) = if bytes_eq kind (codes "file") then file_keys else entry_keys

abbrev pub keys_of : Action → List Pair → List KeyRow
keys_of (A.Office O.Clean) pairs = needed (codes "bucket") ∷ []
keys_of (A.Host H.SetRules) pairs = rule_keys
keys_of (A.Host H.OpenDump) pairs = needed (codes "kind") ∷ optional (codes "token") ∷ []
keys_of (A.Host H.Contact) pairs = needed (codes "good") ∷ []
keys_of (A.Backup B.List) pairs = optional (codes "path") ∷ []
keys_of (A.Backup B.Lookup) pairs = needed (codes "path") ∷ []
keys_of (A.Backup B.OpenFile) pairs = needed (codes "path") ∷ []
keys_of (A.Backup B.OpenRead) pairs = optional (codes "base") ∷ []
keys_of (A.Backup B.Keep) pairs = needed (codes "on") ∷ []
keys_of (A.Session S.Put) pairs = put_keys (value_of (codes "kind") pairs)
keys_of (A.Session S.Remove) pairs = needed (codes "path") ∷ optional (codes "token") ∷ []
keys_of action pairs = []

abbrev pub refused_for : Option QueryRule → Said (Unit {0})
refused_for None = Ok tt
refused_for (Some rule) = Err (BadQuery rule)

-- the keys of a query are among these, and those that must be there are there
abbrev pub taken : List KeyRow → List Pair → Said (Unit {0})
taken keys pairs = refused_for (broken_query_rule keys pairs)
