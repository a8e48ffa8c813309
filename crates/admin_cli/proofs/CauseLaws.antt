-- Why a run says that the disk failed, over any disk, of a command that calls no reopening: the disk's count rose.
--     night_fails, migration_fails, demo_fails, dump_fails, restore_fails, pull_fails
use Rattle.std.specs.Prelude.{◌⊎◌, ◌++◌, Result}
use Rattle.std.proofs.Common.{◌≡◌, ℕ, ℤ, Bool, true, false, List, [], ◌∷◌, Option, Ok, Err, refl, ap, subst, sym, inl, inr}
use Rattle.fault_counts.specs.Counts.{Rose}
use Rattle.disk_trait.specs.declared.disk.Disk.{Ghosts as DiskGhosts}
use Rattle.attr_records.specs.Items.{Tree}
use Rattle.backup_rules.specs.declared.lines.Kind.{Kind}
use Rattle.office_model.specs.declared.event.Event.{Event}
use Rattle.office_model.specs.declared.refusal.Refusal.{Refusal}
use Rattle.office_model.specs.declared.refusal.Refusal.TheVariants as R
use Rattle.office_model.specs.Step.{Call}
use Rattle.serve_workers.specs.Stores.{HasFailed}
use Rattle.call_scripts.specs.Scripts.{EndRefused}
use Rattle.night_work.specs.declared.ends.NightEnd.{NightEnd}
use Rattle.night_work.specs.declared.ends.NightEnd.TheVariants as Night
use Rattle.night_work.specs.Ends.{Ends as NightEnds}
use Rattle.migrate_work.specs.declared.ends.MigrationEnd.{MigrationEnd}
use Rattle.migrate_work.specs.declared.ends.MigrationEnd.TheVariants as Migration
use Rattle.migrate_work.specs.Ends.{Ends as MigrationEnds}
use Rattle.demo_work.specs.declared.ends.DemoEnd.{DemoEnd}
use Rattle.demo_work.specs.declared.ends.DemoEnd.TheVariants as Demo
use Rattle.demo_work.specs.Ends.{Ends as DemoEnds}
use Rattle.pull_work.specs.declared.ends.PullEnd.{PullEnd}
use Rattle.pull_work.specs.declared.ends.PullEnd.TheVariants as Pull
use Rattle.folder_walk.specs.declared.refusals.DumpRefusal.{DumpRefusal}
use Rattle.folder_walk.specs.declared.refusals.DumpRefusal.TheVariants as Dump
use Rattle.folder_restore.specs.declared.refusals.RestoreRefusal.{RestoreRefusal}
use Rattle.folder_restore.specs.declared.refusals.RestoreRefusal.TheVariants as Restore
use Rattle.admin_cli.specs.declared.note.Note.{Note}
use Rattle.admin_cli.specs.declared.note.Note.TheVariants as N
use Rattle.admin_cli.specs.Nights.{note_of_all, note_of_night}
use Rattle.admin_cli.specs.Migrations.{note_of_migration}
use Rattle.admin_cli.specs.Demos.{note_of_demo}
use Rattle.admin_cli.specs.Pulls.{note_of_pull}
use Rattle.admin_cli.specs.Folders.{note_of_rule, note_of_call, note_of_dump, note_of_restore, Dumps, Restores}
use Rattle.admin_cli.specs.Run.{LeadsOnDisk}
use Rattle.admin_cli.proofs.OtherLaws.{AreOthers, rose_since, night_others, migration_others, demo_others, dump_others, aborted_others, restored_others, stopped_others}
use Rattle.admin_cli.proofs.PullCalls.{EndedBy}

-- ---- the last call failed

abbrev IsOfDisk : Refusal → Type 0
IsOfDisk refusal = (refusal ≡ R.DiskFault) ⊎ (refusal ≡ R.Halted)

failed_call : (refusal : Refusal) (event : Event) (calls : List Call) → IsOfDisk refusal → HasFailed ((event, Err refusal) ∷ calls)
failed_call refusal event calls (inl e) = inl (inl (ap (λ (r : Refusal). Err r) e))
failed_call refusal event calls (inr e) = inl (inr (ap (λ (r : Refusal). Err r) e))

failed_refused : (refusal : Refusal) (calls : List Call) → IsOfDisk refusal → EndRefused refusal calls → HasFailed calls
failed_refused refusal [] of ended = absurd ended
failed_refused refusal ((event, Ok answer) ∷ calls) of ended = inr (failed_refused refusal calls of ended)
failed_refused refusal ((event, Err named) ∷ calls) of ended = failed_call named event calls (subst IsOfDisk (sym ended.0) of)

failed_last : (refusal : Refusal) (before : List Call) (event : Event) → IsOfDisk refusal → HasFailed (before ++ (event, Err refusal) ∷ [])
failed_last refusal [] event of = failed_call refusal event [] of
failed_last refusal (call ∷ before) event of = inr (failed_last refusal before event of)

failed_among : (refusal : Refusal) (before : List Call) (event : Event) (behind : List Call) → IsOfDisk refusal
    → HasFailed (before ++ (event, Err refusal) ∷ behind)
failed_among refusal [] event behind of = failed_call refusal event behind of
failed_among refusal (call ∷ before) event behind of = inr (failed_among refusal before event behind of)

failed_ahead : (calls behind : List Call) → HasFailed calls → HasFailed (calls ++ behind)
failed_ahead [] behind has = absurd has
failed_ahead (call ∷ calls) behind (inl is) = inl is
failed_ahead (call ∷ calls) behind (inr has) = inr (failed_ahead calls behind has)

-- ---- what the note says

all_said : (failed halted : Bool) → note_of_all failed halted ≡ N.DiskFailed → halted ≡ true
all_said true halted e = let no : ⊥ = cc (e) in absurd no
all_said false true e = refl
all_said false false e = let no : ⊥ = cc (e) in absurd no

rule_said : (note : Note) (halted : Bool) → (note ≡ N.DiskFailed → ⊥) → note_of_rule note halted ≡ N.DiskFailed → halted ≡ true
rule_said note true other e = refl
rule_said note false other e = absurd (other e)

call_said : (refusal : Refusal) (halted : Bool) → note_of_call refusal halted ≡ N.DiskFailed → (halted ≡ true) ⊎ IsOfDisk refusal
call_said (R.Broken rule) halted e = inl (rule_said (N.Refused rule) halted (λ same. let no : ⊥ = cc (same) in no) e)
call_said R.Halted halted e = inr (inr refl)
call_said R.DiskFault halted e = inr (inl refl)
call_said (R.Damaged file found) halted e = let no : ⊥ = cc (e) in absurd no
call_said R.Memory halted e = let no : ⊥ = cc (e) in absurd no

-- ---- by how the command ended

module _ {D : Type 0} (d : DiskGhosts D) (digest_of : List ℕ → List ℕ) (disk disk' : D) (halted : Bool) where
  abbrev pub HasRisen : Type 0
  HasRisen = Rose (d.fault_count disk) (d.fault_count disk')

  module _ (calls : List Call) (leads : LeadsOnDisk d digest_of halted disk calls disk') (others : AreOthers calls) where
    rose_halted : halted ≡ true → HasRisen
    rose_halted is = rose_since (d.fault_count disk) (d.fault_count disk') calls others (leads.stopped is)

    rose_failed : HasFailed calls → HasRisen
    rose_failed has = rose_since (d.fault_count disk) (d.fault_count disk') calls others (leads.failed has)

    rose_called : (refusal : Refusal) → (IsOfDisk refusal → HasFailed calls) → note_of_call refusal halted ≡ N.DiskFailed → HasRisen
    rose_called refusal has e = elim (call_said refusal halted e) [
      | inl is ↦ rose_halted is
      | inr of ↦ rose_failed (has of)
    ]

    night_rose : (moment : ℕ) (day : ℤ) (period : ℕ) (end : NightEnd) (failed : Bool) → NightEnds moment day period end calls
        → note_of_night end failed halted ≡ N.DiskFailed → HasRisen
    night_rose moment day period (Night.Done night) failed ends e = rose_halted (all_said failed halted e)
    night_rose moment day period Night.NotNow failed ends e = rose_halted (all_said failed halted e)
    night_rose moment day period (Night.Refused (R.Broken rule)) failed ends e = rose_halted (all_said false halted e)
    night_rose moment day period (Night.Refused R.Halted) failed ends e = rose_failed (failed_refused R.Halted calls (inr refl) ends.1)
    night_rose moment day period (Night.Refused R.DiskFault) failed ends e =
        rose_failed (failed_refused R.DiskFault calls (inl refl) ends.1)
    night_rose moment day period (Night.Refused (R.Damaged file found)) failed ends e = let no : ⊥ = cc (e) in absurd no
    night_rose moment day period (Night.Refused R.Memory) failed ends e = let no : ⊥ = cc (e) in absurd no
    night_rose moment day period Night.Memory failed ends e = let no : ⊥ = cc (e) in absurd no

    migration_rose : (end : MigrationEnd) (failed : Bool) → MigrationEnds end calls → note_of_migration end failed halted ≡ N.DiskFailed
        → HasRisen
    migration_rose (Migration.Done count) failed ends e = rose_halted (all_said failed halted e)
    migration_rose (Migration.Refused refusal) failed ends e =
        rose_called refusal (λ of. failed_refused refusal calls of ends.1) e
    migration_rose Migration.Memory failed ends e = let no : ⊥ = cc (e) in absurd no

    demo_rose : (number : ℕ) (end : DemoEnd) (failed : Bool) → DemoEnds number end calls → note_of_demo end failed halted ≡ N.DiskFailed
        → HasRisen
    demo_rose number (Demo.Done summary) failed ends e = rose_halted (all_said failed halted e)
    demo_rose number Demo.Occupied failed ends e =
        rose_halted (rule_said N.StoreNotEmpty halted (λ same. let no : ⊥ = cc (same) in no) e)
    demo_rose number (Demo.Refused refusal) failed ends e = rose_called refusal
        (λ of. subst HasFailed (sym ends.stopped.parts) (failed_last refusal ends.stopped.before ends.stopped.event of)) e
    demo_rose number Demo.Memory failed ends e = let no : ⊥ = cc (e) in absurd no

    pull_rose : (host : List ℕ) (end : PullEnd) → EndedBy end calls → note_of_pull host end halted ≡ N.DiskFailed → HasRisen
    pull_rose host (Pull.Done count) ended e =
        rose_halted (rule_said (N.Pulled host count) halted (λ same. let no : ⊥ = cc (same) in no) e)
    pull_rose host (Pull.Refused refusal) ended e = rose_called refusal
        (λ of. subst HasFailed (sym ended.parts) (failed_among refusal ended.before ended.event ended.behind of)) e
    pull_rose host (Pull.PeerRefused status) ended e =
        rose_halted (rule_said (N.PeerRefused status) halted (λ same. let no : ⊥ = cc (same) in no) e)
    pull_rose host Pull.PeerForeign ended e = rose_halted (rule_said N.PeerForeign halted (λ same. let no : ⊥ = cc (same) in no) e)
    pull_rose host Pull.LinkFault ended e = let no : ⊥ = cc (e) in absurd no
    pull_rose host Pull.Memory ended e = let no : ⊥ = cc (e) in absurd no

  pub night_fails : (calls : List Call) → LeadsOnDisk d digest_of halted disk calls disk' → (moment : ℕ) (day : ℤ) (period : ℕ)
      (end : NightEnd) (failed : Bool) → NightEnds moment day period end calls → note_of_night end failed halted ≡ N.DiskFailed → HasRisen
  night_fails calls leads moment day period end failed ends e =
      night_rose calls leads (night_others moment day period end calls ends) moment day period end failed ends e

  pub migration_fails : (calls : List Call) → LeadsOnDisk d digest_of halted disk calls disk' → (end : MigrationEnd) (failed : Bool)
      → MigrationEnds end calls → note_of_migration end failed halted ≡ N.DiskFailed → HasRisen
  migration_fails calls leads end failed ends e = migration_rose calls leads (migration_others end calls ends) end failed ends e

  pub demo_fails : (calls : List Call) → LeadsOnDisk d digest_of halted disk calls disk' → (number : ℕ) (end : DemoEnd) (failed : Bool)
      → DemoEnds number end calls → note_of_demo end failed halted ≡ N.DiskFailed → HasRisen
  demo_fails calls leads number end failed ends e = demo_rose calls leads (demo_others number end calls ends) number end failed ends e

  pub pull_fails : (calls : List Call) → LeadsOnDisk d digest_of halted disk calls disk' → AreOthers calls → (host : List ℕ) (end : PullEnd)
      → EndedBy end calls → note_of_pull host end halted ≡ N.DiskFailed → HasRisen
  pull_fails calls leads others host end ended e = pull_rose calls leads others host end ended e

  pub dump_fails : (told : Option Tree) (moments moments' : Option (List ℕ)) (kind : Kind) (host : List ℕ) (result : Result ℕ DumpRefusal)
      (failed : Bool) → Dumps (LeadsOnDisk d digest_of halted) disk disk' told moments moments' kind host result
      → note_of_dump result failed halted ≡ N.DiskFailed → HasRisen
  dump_fails told moments moments' kind host (Ok number) failed is e =
      rose_halted is.calls is.moved (dump_others is.calls is.of_dump) (all_said failed halted e)
  dump_fails told moments moments' kind host (Err (Dump.Refused refusal)) failed is e =
      rose_called (is.calls ++ is.aborts) is.moved (aborted_others is.calls is.aborts is.of_dump is.aborted) refusal
      (λ of. failed_ahead is.calls is.aborts (failed_refused refusal is.calls of is.so)) e
  dump_fails told moments moments' kind host (Err (Dump.BadPath rule)) failed is e =
      rose_halted (is.calls ++ is.aborts) is.moved (aborted_others is.calls is.aborts is.of_dump is.aborted)
      (rule_said N.BadPath halted (λ same. let no : ⊥ = cc (same) in no) e)
  dump_fails told moments moments' kind host (Err Dump.BadTarget) failed is e =
      rose_halted (is.calls ++ is.aborts) is.moved (aborted_others is.calls is.aborts is.of_dump is.aborted)
      (rule_said N.BadTarget halted (λ same. let no : ⊥ = cc (same) in no) e)
  dump_fails told moments moments' kind host (Err Dump.FileTooLarge) failed is e =
      rose_halted (is.calls ++ is.aborts) is.moved (aborted_others is.calls is.aborts is.of_dump is.aborted)
      (rule_said N.FileTooLarge halted (λ same. let no : ⊥ = cc (same) in no) e)
  dump_fails told moments moments' kind host (Err Dump.Folder) failed is e = let no : ⊥ = cc (e) in absurd no
  dump_fails told moments moments' kind host (Err Dump.Memory) failed is e = let no : ⊥ = cc (e) in absurd no

  pub restore_fails : (told told' : Option Tree) (host : List ℕ) (number : ℕ) (result : Result ℕ RestoreRefusal) (failed : Bool)
      → Restores (LeadsOnDisk d digest_of halted) disk disk' told told' host number result
      → note_of_restore result failed halted ≡ N.DiskFailed → HasRisen
  restore_fails told told' host number (Ok entries) failed is e =
      rose_halted is.calls is.moved (restored_others host number is.calls is.follows) (all_said failed halted e)
  restore_fails told told' host number (Err (Restore.Refused refusal)) failed is e =
      rose_called is.calls is.moved (stopped_others host number (Restore.Refused refusal) is.calls is.stops) refusal
      (λ of. failed_refused refusal is.calls of is.stops.1) e
  restore_fails told told' host number (Err Restore.NotEmpty) failed is e =
      rose_halted is.calls is.moved (stopped_others host number Restore.NotEmpty is.calls is.stops)
      (rule_said N.FolderNotEmpty halted (λ same. let no : ⊥ = cc (same) in no) e)
  restore_fails told told' host number (Err Restore.Folder) failed is e = let no : ⊥ = cc (e) in absurd no
  restore_fails told told' host number (Err Restore.Memory) failed is e = let no : ⊥ = cc (e) in absurd no
