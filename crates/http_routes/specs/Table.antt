-- The table of routes: the text of each, and what it is for by its method; and the rows that a router makes of it.
use Rattle.std.specs.Borrow.{Bor}
use Rattle.std.specs.Prelude.{ℕ, List, [], ◌∷◌, codes, Result, Ok, Err}
use Rattle.matchit.specs.Rows.{RowsOf}
use Rattle.matchit.specs.Order.{placed}
use Rattle.matchit.specs.Route.{Scan, parse_route}
use Rattle.matchit.specs.Router.{RouteOf, route_from}
use Rattle.matchit.specs.declared.error.InsertError.{InsertError}
use Rattle.http_routes.specs.declared.route.Route.{Route}
use Rattle.http_routes.specs.declared.route.Route.TheVariants.{Hosts, Host, Rules, Dumps, Entry, Commit, Park, Dump, Resume, Partial, Backups, Backup, BackupList, BackupEntry, BackupFile, Restores, Keep, Next, Restore, Expire, Contacts, Due, Clean, Sweep, Stats, Reopen}
use Rattle.http_routes.specs.declared.route.Action.{Action}
use Rattle.http_routes.specs.declared.route.Action.TheVariants as A
use Rattle.http_routes.specs.declared.route.OfficeAction.TheVariants as O
use Rattle.http_routes.specs.declared.route.HostAction.TheVariants as H
use Rattle.http_routes.specs.declared.route.BackupAction.TheVariants as B
use Rattle.http_routes.specs.declared.route.SessionAction.TheVariants as S

-- a route's text and its name
abbrev pub Named : Type 0
Named = List ℕ × Route

-- the routes of the server: `{name}` stands for a piece of a path
abbrev pub routes : List Named
routes =
    (codes "/hosts", Hosts)
    ∷ (codes "/hosts/{host}", Host)
    ∷ (codes "/hosts/{host}/rules", Rules)
    ∷ (codes "/hosts/{host}/dumps", Dumps)
    ∷ (codes "/dumps/{dump}/entry", Entry)
    ∷ (codes "/dumps/{dump}/commit", Commit)
    ∷ (codes "/dumps/{dump}/park", Park)
    ∷ (codes "/dumps/{dump}", Dump)
    ∷ (codes "/hosts/{host}/resume", Resume)
    ∷ (codes "/hosts/{host}/partial", Partial)
    ∷ (codes "/hosts/{host}/backups", Backups)
    ∷ (codes "/hosts/{host}/backups/{number}", Backup)
    ∷ (codes "/hosts/{host}/backups/{number}/list", BackupList)
    ∷ (codes "/hosts/{host}/backups/{number}/entry", BackupEntry)
    ∷ (codes "/hosts/{host}/backups/{number}/file", BackupFile)
    ∷ (codes "/hosts/{host}/backups/{number}/restores", Restores)
    ∷ (codes "/hosts/{host}/backups/{number}/keep", Keep)
    ∷ (codes "/restores/{restore}/next", Next)
    ∷ (codes "/restores/{restore}", Restore)
    ∷ (codes "/hosts/{host}/expire", Expire)
    ∷ (codes "/hosts/{host}/contacts", Contacts)
    ∷ (codes "/hosts/{host}/due", Due)
    ∷ (codes "/night/clean", Clean)
    ∷ (codes "/night/sweep", Sweep)
    ∷ (codes "/stats", Stats)
    ∷ (codes "/reopen", Reopen)
    ∷ []

-- a method and what it asks for
abbrev pub Row : Type 0
Row = List ℕ × Action

-- what a route is for, by the methods that it takes
abbrev pub actions_of : Route → List Row
actions_of Hosts = (codes "GET", A.Office O.Hosts) ∷ []
actions_of Host = (codes "PUT", A.Host H.Add) ∷ []
actions_of Rules = (codes "PUT", A.Host H.SetRules) ∷ []
actions_of Dumps = (codes "POST", A.Host H.OpenDump) ∷ []
actions_of Entry = (codes "PUT", A.Session S.Put) ∷ (codes "DELETE", A.Session S.Remove) ∷ []
actions_of Commit = (codes "POST", A.Session S.Commit) ∷ []
actions_of Park = (codes "POST", A.Session S.Park) ∷ []
actions_of Dump = (codes "DELETE", A.Session S.Abort) ∷ []
actions_of Resume = (codes "POST", A.Host H.Resume) ∷ []
actions_of Partial = (codes "DELETE", A.Host H.DropPartial) ∷ (codes "GET", A.Host H.PartialInfo) ∷ []
actions_of Backups = (codes "GET", A.Host H.Backups) ∷ []
actions_of Backup = (codes "DELETE", A.Backup B.Delete) ∷ []
actions_of BackupList = (codes "GET", A.Backup B.List) ∷ []
actions_of BackupEntry = (codes "GET", A.Backup B.Lookup) ∷ []
actions_of BackupFile = (codes "GET", A.Backup B.OpenFile) ∷ []
actions_of Restores = (codes "POST", A.Backup B.OpenRead) ∷ []
actions_of Keep = (codes "POST", A.Backup B.Keep) ∷ []
actions_of Next = (codes "GET", A.Session S.ReadNext) ∷ []
actions_of Restore = (codes "DELETE", A.Session S.CloseRead) ∷ []
actions_of Expire = (codes "POST", A.Host H.Expire) ∷ []
actions_of Contacts = (codes "POST", A.Host H.Contact) ∷ []
actions_of Due = (codes "GET", A.Host H.Due) ∷ []
actions_of Clean = (codes "POST", A.Office O.Clean) ∷ []
actions_of Sweep = (codes "POST", A.Office O.Sweep) ∷ []
actions_of Stats = (codes "GET", A.Office O.Stats) ∷ []
actions_of Reopen = (codes "POST", A.Office O.Reopen) ∷ []

-- ---- a router's rows

-- the rows with one more route
abbrev pub with_read : Result Scan InsertError → Route → RowsOf (RouteOf Route) → RowsOf (RouteOf Route)
with_read (Ok s) value rows = placed (s.pattern, route_from s value) rows
with_read (Err e) value rows = rows

-- the rows of these routes, put in one after another
abbrev pub built_from : RowsOf (RouteOf Route) → List Named → RowsOf (RouteOf Route)
built_from rows [] = rows
built_from rows ((text, value) ∷ rest) = built_from (with_read (parse_route text) value rows) rest

-- a row of the program's table, as a text and a name
abbrev pub named_of : Bor (List ℕ) × Route → Named
named_of r = (r.0.now, r.1)

-- a row of the program's methods
abbrev pub row_of : Bor (List ℕ) × Action → Row
row_of row = (row.0.now, row.1)

-- the rows of the router
unfoldable pub table : RowsOf (RouteOf Route)
table = built_from [] routes
