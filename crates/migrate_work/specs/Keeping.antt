-- What a migration does to an office.
--     KeepsOffice office state      the office is as it was, and so are both that a halted one may be
--     AreOfMigration calls      nothing but the hosts is asked for, and migrations
--     OfficeKept      in each legal history of a migration's calls, however it ended, the office is as it was
--     NoneLeft      behind those of one that was done no host is left that may have tables of the first layout
use Rattle.std.specs.Prelude.{◌≡◌, ℕ, false, List, [], ◌∷◌, Some, slice_get}
use Rattle.office_model.specs.declared.event.Event.{Event}
use Rattle.office_model.specs.declared.event.Event.TheVariants as E
use Rattle.office_model.specs.Office.{Office, Host, Names, IsSound}
use Rattle.office_model.specs.Step.{Call, State, Running, Halted}
use Rattle.office_model.specs.History.{Entry, IsHistory, last_state, calls_of}
use Rattle.office_model.specs.OldTables.{is_old}
use Rattle.migrate_work.specs.declared.ends.MigrationEnd.{MigrationEnd}
use Rattle.migrate_work.specs.declared.ends.MigrationEnd.TheVariants.{Done}
use Rattle.migrate_work.specs.Ends.{Ends}

abbrev pub KeepsOffice : Office → State → Type 0
KeepsOffice office (Running now names) = now ≡ office
KeepsOffice office (Halted before next names) = (before ≡ office.durable) × (next ≡ office.durable)

abbrev pub IsOfMigration : Event → Type 0
IsOfMigration E.Hosts = Unit {0}
IsOfMigration (E.Migrate name) = Unit {0}
IsOfMigration event = ⊥

abbrev pub AreOfMigration : List Call → Type 0
AreOfMigration [] = Unit {0}
AreOfMigration (call ∷ calls) = IsOfMigration call.0 × AreOfMigration calls

abbrev pub OfficeKept : Type 0
OfficeKept = (end : MigrationEnd) (office : Office) (names : Names) (faults : ℕ) (entries : List Entry)
    → IsHistory (Running office names) faults entries → Ends end (calls_of entries)
    → KeepsOffice office (last_state (Running office names) entries)

abbrev pub NoneLeft : Type 0
NoneLeft = (office : Office) (names : Names) (faults : ℕ) (entries : List Entry) (count : ℕ) → IsSound office
    → IsHistory (Running office names) faults entries → Ends (Done count) (calls_of entries)
    → (place : ℕ) (host : Host) → slice_get office.hosts place ≡ Some host
    → is_old (last_state (Running office names) entries) place ≡ false
