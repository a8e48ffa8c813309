-- Which event an ask is, and what its answer brings on.
--     host_name, dir_path, file_path, file_bytes      names and bytes by their numbers
--     demo_rules      the rules of each host
--     event_of      the event of an ask, by the dump that was opened last
--     dump_after, more      the dump that is open then, and the asks that come before what else is left
--     is_passed      whether the job goes on
use Rattle.std.specs.Prelude.{ℕ, Bool, true, false, ◌&&◌, List, [], ◌∷◌, ◌++◌, map, codes, decimal, pos, Some, None, Ok, Err, zero, suc}
use Rattle.attr_records.specs.Attributes.{Attributes}
use Rattle.attr_records.specs.declared.nodes.Item.{Item}
use Rattle.attr_records.specs.declared.nodes.Item.TheVariants as I
use Rattle.backup_rules.specs.declared.lines.Line.{Line}
use Rattle.backup_rules.specs.declared.settings.Setting.TheVariants.{FillCycle}
use Rattle.backup_rules.specs.Values.{RuleSet, RuleChanges}
use Rattle.backup_rules.specs.Changes.{default_rules, no_change, with_number, changed}
use Rattle.tree_frames.specs.declared.nodes.Frame.{Frame}
use Rattle.tree_frames.specs.declared.nodes.Frame.TheVariants.{Deleted, Entry, Piece, End}
use Rattle.receipts.specs.declared.session.SessionName.{SessionName}
use Rattle.office_model.specs.declared.event.Event.{Event}
use Rattle.office_model.specs.declared.event.Event.TheVariants as E
use Rattle.office_model.specs.declared.event.PutItem.TheVariants.{Whole}
use Rattle.office_model.specs.declared.answer.Answer.{Answer}
use Rattle.office_model.specs.declared.answer.Answer.TheVariants as A
use Rattle.office_model.specs.declared.refusal.Refusal.{Refusal}
use Rattle.office_model.specs.declared.refusal.Refusal.TheVariants.{Broken}
use Rattle.office_model.specs.declared.refusal.BrokenRule.{BrokenRule}
use Rattle.office_model.specs.declared.refusal.BrokenRule.TheVariants.{NoPath}
use Rattle.office_model.specs.Meaning.{Reply}
use Rattle.demo_work.specs.declared.asks.Ask.{Ask}
use Rattle.demo_work.specs.declared.asks.Ask.TheVariants as Q

-- ---- names and bytes

unfoldable pub host_name : ℕ → List ℕ
host_name host = codes "h" ++ decimal host

unfoldable pub dir_path : ℕ → List ℕ
dir_path dir = codes "d" ++ decimal dir

unfoldable pub file_path : ℕ → ℕ → List ℕ
file_path dir file = codes "d" ++ decimal dir ++ codes "/f" ++ decimal file

unfoldable pub word_of : ℕ → List ℕ
word_of value = codes "v" ++ decimal value

-- a word, so many times
unfoldable pub repeated : ℕ → List ℕ → List ℕ
repeated zero word = []
repeated (suc times) word = repeated times word ++ word

abbrev pub file_bytes : ℕ → ℕ → List ℕ
file_bytes value times = repeated times (word_of value)

abbrev pub file_attributes : Attributes
file_attributes = record { mode = 420; uid = 0; gid = 0; mtime = pos 0; nanos = 0 }

abbrev pub dir_attributes : Attributes
dir_attributes = record { mode = 493; uid = 0; gid = 0; mtime = pos 0; nanos = 0 }

abbrev pub file_item : ℕ → ℕ → Item
file_item value times = I.File (record { attr = file_attributes; group = 0; bytes = file_bytes value times })

abbrev pub dir_item : Item
dir_item = I.Dir (record { attr = dir_attributes })

-- the default rules, but every seventh backup stays filled, and of the filled ones 4, 2 and 3 are kept at growing distances
abbrev pub demo_change : RuleChanges
demo_change = record (with_number no_change FillCycle 7) { full_keep_cnt = Some (4 ∷ 2 ∷ 3 ∷ []) }

unfoldable pub demo_rules : RuleSet
demo_rules = changed default_rules demo_change

-- ---- events

abbrev pub event_of : SessionName → Ask → Event
event_of dump (Q.AddHost host) = E.AddHost (host_name host) demo_rules
event_of dump (Q.OpenDump host kind now) = E.OpenDump (host_name host) kind now None
event_of dump (Q.PutDir dir) = E.Put dump (dir_path dir) (Whole dir_item) None
event_of dump (Q.PutFile dir file value times) = E.Put dump (file_path dir file) (Whole (file_item value times)) None
event_of dump (Q.Remove dir file) = E.Remove dump (file_path dir file) None
event_of dump (Q.Commit now) = E.Commit dump now
event_of dump (Q.Expire host now) = E.Expire (host_name host) now
event_of dump (Q.Clean bucket) = E.Clean bucket
event_of dump Q.Sweep = E.Sweep
event_of dump Q.Stats = E.Stats
event_of dump (Q.Backups host) = E.Backups (host_name host)
event_of dump (Q.OpenRead host number) = E.OpenRead (host_name host) number None
event_of dump (Q.ReadNext restore) = E.ReadNext restore
event_of dump (Q.CloseRead restore) = E.CloseRead restore

-- ---- what an answer brings on

abbrev pub dump_in : SessionName → Answer → SessionName
dump_in dump (A.Dump name) = name
dump_in dump _ = dump

-- the dump that was opened last
abbrev pub dump_after : SessionName → Reply → SessionName
dump_after dump (Ok answer) = dump_in dump answer
dump_after dump (Err refusal) = dump

abbrev pub lines_in : Answer → List Line
lines_in (A.Backups lines next dump) = lines
lines_in _ = []

-- a restore that was opened is read
abbrev pub first_read : Answer → List Ask
first_read (A.Restore restore) = Q.ReadNext restore ∷ []
first_read _ = []

-- behind the end a restore is closed
abbrev pub read_behind : SessionName → Frame → Ask
read_behind restore (Deleted path) = Q.ReadNext restore
read_behind restore (Entry path node) = Q.ReadNext restore
read_behind restore (Piece bytes) = Q.ReadNext restore
read_behind restore (End count) = Q.CloseRead restore

abbrev pub next_read : SessionName → Answer → List Ask
next_read restore (A.Next frame) = read_behind restore frame ∷ []
next_read restore _ = []

-- each backup of a host is opened, by rising number; one that is open is read to its end and closed
abbrev pub more : Ask → Answer → List Ask
more (Q.Backups host) answer = map (λ line. Q.OpenRead host line.number) (lines_in answer)
more (Q.OpenRead host number) answer = first_read answer
more (Q.ReadNext restore) answer = next_read restore answer
more _ answer = []

abbrev pub more_by : Ask → Reply → List Ask
more_by ask (Ok answer) = more ask answer
more_by ask (Err refusal) = []

-- ---- whether the job goes on

abbrev pub is_no_path : BrokenRule → Bool
is_no_path NoPath = true
is_no_path _ = false

abbrev pub names_no_path : Refusal → Bool
names_no_path (Broken rule) = is_no_path rule
names_no_path _ = false

abbrev pub is_remove : Event → Bool
is_remove (E.Remove dump path token) = true
is_remove _ = false

-- an answer, or a Remove where there is nothing
abbrev pub is_passed : Event → Reply → Bool
is_passed event (Ok answer) = true
is_passed event (Err refusal) = is_remove event && names_no_path refusal
