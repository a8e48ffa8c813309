-- Calls of which none is a reopening, and commands that have no other.
--     IsOther event, AreOthers calls      it is no reopening; none of them is
--     night_others, migration_others, demo_others, dump_others, aborted_others, restored_others, stopped_others      those of these commands
--     rose_since      a store is halted behind such calls only if the disk's count rose
use Rattle.std.proofs.Common.{◌≡◌, ℕ, ℤ, List, [], ◌∷◌, ◌++◌, None, Some, Ok, ap, sym, subst, inl, inr}
use Rattle.fault_counts.specs.Counts.{Rose}
use Rattle.receipts.specs.declared.session.SessionName.{SessionName}
use Rattle.tree_frames.specs.declared.nodes.Frame.TheVariants as T
use Rattle.office_model.specs.declared.event.Event.{Event}
use Rattle.office_model.specs.declared.event.Event.TheVariants as E
use Rattle.office_model.specs.declared.answer.Answer.TheVariants as A
use Rattle.office_model.specs.Step.{Call}
use Rattle.serve_workers.specs.Stores.{FindsForeign, HasStopCause}
use Rattle.call_scripts.specs.Scripts.{Script, FollowsAfter, Follows, Begins, behind, one_call}
use Rattle.night_work.specs.declared.ends.NightEnd.{NightEnd}
use Rattle.night_work.specs.declared.ends.NightEnd.TheVariants as Night
use Rattle.night_work.specs.Script.{night_buckets, night_script}
use Rattle.night_work.specs.Ends.{Ends as NightEnds}
use Rattle.migrate_work.specs.declared.ends.MigrationEnd.{MigrationEnd}
use Rattle.migrate_work.specs.Ends.{Ends as MigrationEnds}
use Rattle.migrate_work.specs.Keeping.{IsOfMigration, AreOfMigration}
use Rattle.migrate_work.specs.KeepingLaws.{of_migration}
use Rattle.demo_work.specs.declared.ends.DemoEnd.{DemoEnd}
use Rattle.demo_work.specs.CallLaws.{AreOfDemo, IsOfDemo, of_demo}
use Rattle.demo_work.specs.Ends.{Ends as DemoEnds}
use Rattle.folder_walk.specs.Events.{IsOfDump, AreOfDump}
use Rattle.folder_walk.specs.Dumps.{AreAborts}
use Rattle.folder_restore.specs.declared.refusals.RestoreRefusal.{RestoreRefusal}
use Rattle.folder_restore.specs.declared.refusals.RestoreRefusal.TheVariants as Restore
use Rattle.folder_restore.specs.RestoreScript.{read_script, restore_script}
use Rattle.folder_restore.specs.Restores.{StopsSo}
use Rattle.admin_cli.proofs.ForeignLaws.{IsOfNight, called}

abbrev pub IsOther : Event → Type 0
IsOther E.Reopen = ⊥
IsOther event = Unit {0}

abbrev pub AreOthers : List Call → Type 0
AreOthers [] = Unit {0}
AreOthers (call ∷ calls) = IsOther call.0 × AreOthers calls

no_foreign : (calls : List Call) → AreOthers calls → FindsForeign calls → ⊥
no_foreign [] others found = found
no_foreign (call ∷ calls) others (inl foreign) = subst IsOther (ap (λ (c : Call). c.0) foreign.is) others.0
no_foreign (call ∷ calls) others (inr found) = no_foreign calls others.1 found

pub rose_since : (before now : ℕ) (calls : List Call) → AreOthers calls → HasStopCause before now calls → Rose before now
rose_since before now calls others (inl rose) = rose
rose_since before now calls others (inr found) = absurd (no_foreign calls others found)

-- ---- scripts

abbrev AsksOthers : Script → Type 0
AsksOthers script = (made : List Call) (event : Event) → script made ≡ Some event → IsOther event

follows_others : (script : Script) → AsksOthers script → (made calls : List Call) → FollowsAfter script made calls → AreOthers calls
follows_others script asks made [] follows = tt
follows_others script asks made (call ∷ calls) follows =
    (asks made call.0 follows.0, follows_others script asks (made ++ call ∷ []) calls follows.1)

begins_others : (script : Script) → AsksOthers script → (calls : List Call) → Begins script calls → AreOthers calls
begins_others script asks [] begins = tt
begins_others script asks (call ∷ calls) begins =
    (asks [] call.0 begins.0, begins_others (behind call script) (λ made event is. asks (call ∷ made) event is) calls begins.1)

-- the hosts alone were asked for
hosts_others : (calls : List Call) (hosts : List (List ℕ)) → calls ≡ (E.Hosts, Ok (A.Hosts hosts)) ∷ [] → AreOthers calls
hosts_others calls hosts is = subst AreOthers (sym is) (tt, tt)

-- ---- a night

of_night : (event : Event) → IsOfNight event → IsOther event
of_night E.Hosts of = tt
of_night (E.Expire name now) of = tt
of_night (E.Clean bucket) of = tt
of_night E.Sweep of = tt
of_night event of = absurd of

asks_night : (moment : ℕ) (buckets : List ℕ) → AsksOthers (night_script moment buckets)
asks_night moment buckets made event is = of_night event (called moment buckets made event is)

pub night_others : (moment : ℕ) (day : ℤ) (period : ℕ) (end : NightEnd) (calls : List Call) → NightEnds moment day period end calls
    → AreOthers calls
night_others moment day period (Night.Done night) calls ends =
    follows_others (night_script moment (night_buckets day period)) (asks_night moment (night_buckets day period)) [] calls ends.0
night_others moment day period Night.NotNow calls ends = subst AreOthers (sym ends) tt
night_others moment day period (Night.Refused refusal) calls ends =
    follows_others (night_script moment (night_buckets day period)) (asks_night moment (night_buckets day period)) [] calls ends.0
night_others moment day period Night.Memory calls ends = hosts_others calls ends.0 ends.1

-- ---- a migration

migrates : (event : Event) → IsOfMigration event → IsOther event
migrates E.Hosts of = tt
migrates (E.Migrate name) of = tt
migrates event of = absurd of

all_migrate : (calls : List Call) → AreOfMigration calls → AreOthers calls
all_migrate [] of = tt
all_migrate (call ∷ calls) of = (migrates call.0 of.0, all_migrate calls of.1)

pub migration_others : (end : MigrationEnd) (calls : List Call) → MigrationEnds end calls → AreOthers calls
migration_others end calls ends = all_migrate calls (of_migration end calls ends)

-- ---- a demo

shows : (event : Event) → IsOfDemo event → IsOther event
shows E.Reopen of = absurd of
shows event of = tt

all_show : (calls : List Call) → AreOfDemo calls → AreOthers calls
all_show [] of = tt
all_show (call ∷ calls) of = (shows call.0 of.0, all_show calls of.1)

pub demo_others : (number : ℕ) (end : DemoEnd) (calls : List Call) → DemoEnds number end calls → AreOthers calls
demo_others number end calls ends = all_show calls (of_demo number end calls ends)

-- ---- a dump of a folder

dumps : (event : Event) → IsOfDump event → IsOther event
dumps E.Reopen of = absurd of
dumps event of = tt

pub dump_others : (calls : List Call) → AreOfDump calls → AreOthers calls
dump_others [] of = tt
dump_others (call ∷ calls) of = (dumps call.0 of.0, dump_others calls of.1)

none_others : (calls : List Call) → calls ≡ [] → AreOthers calls
none_others calls is = subst AreOthers (sym is) tt

aborts_others : (calls aborts : List Call) → AreAborts calls aborts → AreOthers aborts
aborts_others ((asked, Ok (A.Dump dump)) ∷ calls) aborts are = subst AreOthers (sym are.1) (tt, tt)
aborts_others calls aborts are = none_others aborts are

AreOthers-append : (xs ys : List Call) → AreOthers xs → AreOthers ys → AreOthers (xs ++ ys)
AreOthers-append [] ys first rest = rest
AreOthers-append (x ∷ xs) ys first rest = (first.0, AreOthers-append xs ys first.1 rest)

-- one that was refused, with its abort
pub aborted_others : (calls aborts : List Call) → AreOfDump calls → AreAborts calls aborts → AreOthers (calls ++ aborts)
aborted_others calls aborts of are = AreOthers-append calls aborts (dump_others calls of) (aborts_others calls aborts are)

-- ---- a restore

asks_one : (asked : Event) → IsOther asked → AsksOthers (one_call asked)
asks_one asked other [] event is = let e : asked ≡ event = cc (is) in subst IsOther e other
asks_one asked other (call ∷ made) event is = let no : ⊥ = cc (is) in absurd no

asks_read : (restore : SessionName) → AsksOthers (read_script restore)
asks_read restore [] event is = let e : E.ReadNext restore ≡ event = cc (is) in subst IsOther e tt
asks_read restore ((asked, Ok (A.Next (T.Deleted path))) ∷ made) event is = asks_read restore made event is
asks_read restore ((asked, Ok (A.Next (T.Entry path node))) ∷ made) event is = asks_read restore made event is
asks_read restore ((asked, Ok (A.Next (T.Piece bytes))) ∷ made) event is = asks_read restore made event is
asks_read restore ((asked, Ok (A.Next (T.End count))) ∷ made) event is = asks_one (E.CloseRead restore) tt made event is
asks_read restore (call ∷ made) event is = let no : ⊥ = cc (is) in absurd no

asks_restore : (host : List ℕ) (number : ℕ) → AsksOthers (restore_script host number)
asks_restore host number [] event is = let e : E.OpenRead host number None ≡ event = cc (is) in subst IsOther e tt
asks_restore host number ((asked, Ok (A.Restore restore)) ∷ made) event is = asks_read restore made event is
asks_restore host number (call ∷ made) event is = let no : ⊥ = cc (is) in absurd no

pub restored_others : (host : List ℕ) (number : ℕ) (calls : List Call) → Follows (restore_script host number) calls → AreOthers calls
restored_others host number calls follows = follows_others (restore_script host number) (asks_restore host number) [] calls follows

pub stopped_others : (host : List ℕ) (number : ℕ) (refusal : RestoreRefusal) (calls : List Call) → StopsSo host number refusal calls
    → AreOthers calls
stopped_others host number (Restore.Refused refusal) calls stops = restored_others host number calls stops.0
stopped_others host number Restore.NotEmpty calls stops = subst AreOthers (sym stops) tt
stopped_others host number Restore.Folder calls stops =
    begins_others (restore_script host number) (asks_restore host number) calls stops.begins
stopped_others host number Restore.Memory calls stops =
    begins_others (restore_script host number) (asks_restore host number) calls stops.begins
