-- The script of a dump of a folder: which event is called next.
--     dump_script      it is opened, its base is made ready, each row is put in the order of the paths, and it is committed
--     base_script      a full dump's base is ready; for an incremental one the last backup is listed, and what leaves is removed
--     puts_script      each row is put: a file of more than 67,108,864 bytes by a stage, which gets its pieces
use Rattle.std.specs.Prelude.{ℕ, Bool, true, false, List, [], ◌∷◌, ◌++◌, map, Option, Some, None, Ok, Err}
use Rattle.attr_records.specs.declared.nodes.Item.{Item}
use Rattle.attr_records.specs.declared.nodes.Item.TheVariants as I
use Rattle.attr_records.specs.declared.nodes.File.{File}
use Rattle.attr_records.specs.Items.{Tree, is_large}
use Rattle.backup_rules.specs.declared.lines.Line.{Line}
use Rattle.backup_rules.specs.declared.lines.Kind.{Kind}
use Rattle.backup_rules.specs.declared.lines.Kind.TheVariants.{Full, Incr}
use Rattle.receipts.specs.declared.session.SessionName.{SessionName}
use Rattle.office_model.specs.declared.event.Event.{Event}
use Rattle.office_model.specs.declared.event.Event.TheVariants as E
use Rattle.office_model.specs.declared.event.PutItem.TheVariants.{Whole}
use Rattle.office_model.specs.declared.answer.Answer.TheVariants as A
use Rattle.tree_frames.specs.Frames.{pieces}
use Rattle.call_scripts.specs.Scripts.{Script, each_of, each_then}
use Rattle.folder_laws.specs.declared.known.Known.{Known}
use Rattle.folder_laws.specs.Calls.{staged_put}
use Rattle.folder_laws.specs.Compares.{root}
use Rattle.folder_laws.specs.Lists.{gone_from, known_from, last_line}

-- a stage is opened, gets the bytes of a file piece by piece, and is put; then another script
abbrev pub stage_script : SessionName → List ℕ → File → Script → Script
stage_script dump path file next [] = Some (E.StageOpen dump)
stage_script dump path file next ((asked, Ok (A.Stage stage)) ∷ calls) =
    each_then (map (E.StagePiece stage) (pieces file.bytes)) (each_then (staged_put dump path file stage ∷ []) next) calls
stage_script dump path file next (call ∷ calls) = None

abbrev pub file_script : Bool → SessionName → List ℕ → File → Script → Script
file_script true dump path file next = stage_script dump path file next
file_script false dump path file next = each_then (E.Put dump path (Whole (I.File file)) None ∷ []) next

abbrev pub item_script : SessionName → List ℕ → Item → Script → Script
item_script dump path (I.File file) next = file_script (is_large (I.File file)) dump path file next
item_script dump path (I.Dir dir) next = each_then (E.Put dump path (Whole (I.Dir dir)) None ∷ []) next
item_script dump path (I.Link link) next = each_then (E.Put dump path (Whole (I.Link link)) None ∷ []) next

-- each row is put, and then another script
abbrev pub puts_script : SessionName → Tree → Script → Script
puts_script dump [] next = next
puts_script dump (row ∷ rows) next = item_script dump row.0 row.1 (puts_script dump rows next)

abbrev pub remove_events : SessionName → List (List ℕ) → List Event
remove_events dump paths = map (λ path. E.Remove dump path None) paths

-- each directory that is pending is listed, and those in it next; then each path that leaves is removed; then another script
abbrev pub list_script : Tree → List ℕ → ℕ → SessionName → Script → List Known → List (List ℕ) → Script
list_script seen host number dump next [] gone calls = each_then (remove_events dump gone) next calls
list_script seen host number dump next (known ∷ rest) gone [] = Some (E.List host number known.directory)
list_script seen host number dump next (known ∷ rest) gone ((asked, Ok (A.Entries entries)) ∷ calls) =
    list_script seen host number dump next (known_from seen known entries ++ rest) (gone ++ gone_from seen known entries) calls
list_script seen host number dump next (known ∷ rest) gone (call ∷ calls) = None

-- without a last backup nothing is listed
abbrev pub removal_script : Tree → List ℕ → SessionName → Script → Option Line → Script
removal_script seen host dump next None = next
removal_script seen host dump next (Some line) = list_script seen host line.number dump next (root ∷ []) []

-- an incremental dump asks for the last backup
abbrev pub incr_script : Tree → List ℕ → SessionName → Script → Script
incr_script seen host dump next [] = Some (E.Backups host)
incr_script seen host dump next ((asked, Ok (A.Backups lines number other)) ∷ calls) =
    removal_script seen host dump next (last_line lines) calls
incr_script seen host dump next (call ∷ calls) = None

-- the base, and then another script
abbrev pub base_script : Kind → Tree → List ℕ → SessionName → Script → Script
base_script Full seen host dump next = next
base_script Incr seen host dump next = incr_script seen host dump next

-- a dump of a tree; `later` has the moment of its end once it was read, before which it isn't committed. Behind an opening that was
-- answered with the number of a backup nothing is called.
abbrev pub dump_script : List ℕ → Kind → ℕ → List ℕ → Tree → Script
dump_script host kind now later tree [] = Some (E.OpenDump host kind now None)
dump_script host kind now later tree ((asked, Ok (A.Dump dump)) ∷ calls) =
    base_script kind tree host dump (puts_script dump tree (each_of (map (E.Commit dump) later))) calls
dump_script host kind now later tree (call ∷ calls) = None
