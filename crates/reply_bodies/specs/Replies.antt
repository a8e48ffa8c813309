-- The body of the response to a reply.
--     short_fields      the members of a short answer
--     long_data      the JSON of the others: lists, nodes and lines
--     long_body      the body of the others, among them the bytes of a frame
--     refusal_fields      the members that say why an event was refused
-- The bytes of a file are a body as they are.
use Rattle.std.specs.Prelude.{ℕ, Bool, true, false, ◌+◌, ◌/◌, ◌%◌, List, [], ◌∷◌, ◌++◌, length, map, codes, Option, Some, None}
use Rattle.std.specs.Option.{option_map}
use Rattle.disk_trait.specs.Names.{real_name}
use Rattle.attr_records.specs.Attributes.{Attributes}
use Rattle.backup_rules.specs.declared.lines.Kind.{Kind}
use Rattle.backup_rules.specs.declared.lines.Kind.TheVariants.{Full, Incr}
use Rattle.backup_rules.specs.declared.lines.Line.{Line}
use Rattle.serde_json.specs.Data.{Data, string, boolean, null}
use Rattle.receipts.specs.declared.session.SessionName.{SessionName}
use Rattle.office_model.specs.declared.event.Event.{Event}
use Rattle.office_model.specs.declared.event.Event.TheVariants as E
use Rattle.office_model.specs.declared.answer.Answer.{Answer}
use Rattle.office_model.specs.declared.answer.Answer.TheVariants as A
use Rattle.office_model.specs.declared.answer.OfficeStats.{OfficeStats}
use Rattle.office_model.specs.declared.answer.NamedNode.{NamedNode}
use Rattle.tree_frames.specs.declared.nodes.Node.{Node}
use Rattle.tree_frames.specs.declared.nodes.Node.TheVariants as N
use Rattle.office_model.specs.declared.refusal.Refusal.{Refusal}
use Rattle.office_model.specs.declared.refusal.Refusal.TheVariants.{Broken, Halted, DiskFault, Damaged, Memory}
use Rattle.office_model.specs.RuleNames.{rule_name}
use Rattle.receipts.specs.Session.{session_text}
use Rattle.restore_stream.specs.Layouts.{frame_bytes}
use Rattle.reply_bodies.specs.Objects.{Field, Text, Count, Flag, Member, json_text, json_object, json_list, json_count, json_integer}

-- ---- short answers

-- the answer to an event that was done and gives nothing
abbrev pub done_fields : Event → List Field
done_fields (E.AddHost host rules) = (codes "host", Text host) ∷ []
done_fields _ = []

abbrev pub stats_fields : OfficeStats → List Field
stats_fields stats =
    (codes "backups", Count stats.backups) ∷ (codes "bytes", Count stats.bytes) ∷ (codes "dumps", Count stats.dumps)
    ∷ (codes "files", Count stats.files) ∷ (codes "hosts", Count stats.hosts) ∷ (codes "marked", Count stats.marked)
    ∷ (codes "restores", Count stats.restores) ∷ []

abbrev pub kind_text : Kind → List ℕ
kind_text Full = codes "full"
kind_text Incr = codes "incr"

abbrev pub due_text : Option Kind → List ℕ
due_text None = codes "none"
due_text (Some kind) = kind_text kind

-- the members of a short answer, none if it isn't short
abbrev pub short_fields : Event → Answer → Option (List Field)
short_fields event A.Done = Some (done_fields event)
short_fields event (A.Dump name) = Some ((codes "dump", Text (session_text name)) ∷ [])
short_fields event (A.Committed number) = Some ((codes "number", Count number) ∷ [])
short_fields event (A.Already number) = Some ((codes "number", Count number) ∷ [])
short_fields event (A.Partial entries kind start) =
    Some ((codes "entries", Count entries) ∷ (codes "kind", Text (kind_text kind)) ∷ (codes "start", Count start) ∷ [])
short_fields event (A.Stage number) = Some ((codes "stage", Count number) ∷ [])
short_fields event (A.Opened reader size) = Some ((codes "reader", Count reader) ∷ (codes "size", Count size) ∷ [])
short_fields event (A.Restore name) = Some ((codes "restore", Text (session_text name)) ∷ [])
short_fields event (A.Expired count) = Some ((codes "deleted", Count count) ∷ [])
short_fields event (A.Contacts good bad) = Some ((codes "bad", Count bad) ∷ (codes "good", Count good) ∷ [])
short_fields event (A.Due blackout kind) = Some ((codes "blackout", Flag blackout) ∷ (codes "due", Text (due_text kind)) ∷ [])
short_fields event (A.Cleaned marked unmarked removed) =
    Some ((codes "marked", Count marked) ∷ (codes "removed", Count removed) ∷ (codes "unmarked", Count unmarked) ∷ [])
short_fields event (A.Stats stats) = Some (stats_fields stats)
short_fields event (A.PoolItems items) = Some ((codes "files", Count (length items)) ∷ [])
short_fields event (A.Reopened epoch) = Some ((codes "epoch", Count epoch) ∷ [])
short_fields event answer = None

-- ---- longer answers

-- the last three bits as an octal digit
abbrev pub octal_digit : ℕ → ℕ
octal_digit n = 48 + n % 8

-- a mode in four octal digits
abbrev pub octal : ℕ → List ℕ
octal mode = octal_digit (mode / 512) ∷ octal_digit (mode / 64) ∷ octal_digit (mode / 8) ∷ octal_digit mode ∷ []

-- what a node says before its name: its kind, mode and time
abbrev pub kind_members : List ℕ → Attributes → List Member
kind_members kind attr =
    (codes "kind", string kind) ∷ (codes "mode", string (octal attr.mode)) ∷ (codes "mtime", json_integer attr.mtime) ∷ []

-- the name of a node that is listed
abbrev pub name_members : Option (List ℕ) → List Member
name_members None = []
name_members (Some name) = (codes "name", string name) ∷ []

abbrev pub node_members : Option (List ℕ) → Node → List Member
node_members name (N.File file) =
    (codes "gid", json_count file.attr.gid) ∷ (codes "group", json_count file.group)
    ∷ (kind_members (codes "file") file.attr ++ (name_members name ++
    (codes "nanos", json_count file.attr.nanos) ∷ (codes "size", json_count file.size) ∷ (codes "uid", json_count file.attr.uid) ∷ []))
node_members name (N.Dir dir) =
    (codes "gid", json_count dir.attr.gid) ∷ (kind_members (codes "dir") dir.attr ++ (name_members name ++
    (codes "nanos", json_count dir.attr.nanos) ∷ (codes "uid", json_count dir.attr.uid) ∷ []))
node_members name (N.Link link) =
    (codes "gid", json_count link.attr.gid) ∷ (kind_members (codes "link") link.attr ++ (name_members name ++
    (codes "nanos", json_count link.attr.nanos) ∷ (codes "target", string link.target) ∷ (codes "uid", json_count link.attr.uid) ∷ []))

abbrev pub node_data : Option (List ℕ) → Node → Data
node_data name node = json_object (node_members name node)

-- a node of a directory, with its name
abbrev pub entry_data : NamedNode → Data
entry_data entry = node_data (Some entry.name) entry.node

abbrev pub line_data : Line → Data
line_data line = json_object (
    (codes "end", json_count line.end) ∷ (codes "filled", boolean line.filled) ∷ (codes "keep", boolean line.keep)
    ∷ (codes "kind", string (kind_text line.kind)) ∷ (codes "number", json_count line.number) ∷ (codes "start", json_count line.start) ∷ [])

-- the name of a session, or null
abbrev pub dump_data : Option SessionName → Data
dump_data None = null
dump_data (Some name) = string (session_text name)

abbrev pub entries_data : List NamedNode → Data
entries_data entries = json_object ((codes "entries", json_list (map entry_data entries)) ∷ [])

abbrev pub hosts_data : List (List ℕ) → Data
hosts_data names = json_object ((codes "hosts", json_list (map string names)) ∷ [])

abbrev pub backups_data : List Line → ℕ → Option SessionName → Data
backups_data lines next dump = json_object (
    (codes "backups", json_list (map line_data lines)) ∷ (codes "dump", dump_data dump) ∷ (codes "next", json_count next) ∷ [])

-- the JSON of an answer that isn't short, none of a short one, of a file and of a frame
abbrev pub long_data : Answer → Option Data
long_data (A.Entries entries) = Some (entries_data entries)
long_data (A.Entry node) = Some (node_data None node)
long_data (A.Hosts names) = Some (hosts_data names)
long_data (A.Backups lines next dump) = Some (backups_data lines next dump)
long_data _ = None

-- the body of an answer that isn't short, none of a short one and of a file
abbrev pub long_body : Answer → Option (List ℕ)
long_body (A.Next frame) = Some (frame_bytes frame)
long_body answer = option_map (λ value. json_text value) (long_data answer)

-- the body is made in memory
abbrev pub takes_memory : Answer → Bool
takes_memory (A.Entries entries) = true
takes_memory (A.Entry node) = true
takes_memory (A.Hosts names) = true
takes_memory (A.Backups lines next dump) = true
takes_memory (A.Next frame) = true
takes_memory _ = false

-- ---- refusals

abbrev pub refused : List ℕ → List Field
refused name = (codes "refused", Text name) ∷ []

-- the members of the object that says why an event was refused; want of memory has a response of its own
abbrev pub refusal_fields : Refusal → List Field
refusal_fields (Broken rule) = refused (rule_name rule)
refusal_fields Halted = refused (codes "Halted")
refusal_fields DiskFault = refused (codes "DiskFault")
refusal_fields (Damaged file found) = (codes "file", Text (real_name file)) ∷ (codes "refused", Text (codes "Damaged")) ∷ []
refusal_fields Memory = []
