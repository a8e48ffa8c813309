-- What an answer Damaged says of the disk behind it, whatever the disk: a table, a partial or a stage.
--     NamesTables event      it reads no content, and is no reopening
--     IsDamagedBy event told file      what such an event may name
--     damaged_file      so the disk handed back tells;  any_damaged      one of a table, a partial and a stage
use Rattle.std.specs.Prelude.{⊤, ◌⊎◌}
use Rattle.std.proofs.Common.{◌≡◌, ℕ, List, Option, None, Some, Err, sym, subst, inl, inr}
use Rattle.disk_trait.specs.declared.ids.FileId.{FileId}
use Rattle.disk_trait.specs.declared.ids.FileId.TheVariants.{Table}
use Rattle.disk_trait.specs.declared.disk.Disk.{Ghosts as DiskGhosts}
use Rattle.disk_trait.specs.Files.{Files}
use Rattle.pool_name.specs.declared.namer.Namer.{Ghosts as NamerGhosts}
use Rattle.journal_view.specs.View.{told}
use Rattle.backup_rules.specs.declared.lines.Line.{Line}
use Rattle.backup_views.specs.Faults.{IsDamaged, IsNoTable}
use Rattle.office_model.specs.declared.event.Event.{Event}
use Rattle.office_model.specs.declared.event.Event.TheVariants as E
use Rattle.office_model.specs.declared.event.PutItem.TheVariants.{Whole, Staged}
use Rattle.office_model.specs.declared.refusal.Refusal.TheVariants as R
use Rattle.store_parts.specs.declared.parts.StoreParts.{StoreParts}
use Rattle.store_parts.specs.Parked.{IsNoPartial}
use Rattle.store_commits.specs.Tables.{IsTableOf}
use Rattle.store_reads.specs.Told.{HasDamagedTable}
use Rattle.office_store.specs.declared.store.Store.{Store}
use Rattle.office_store.specs.Damage.{TellsDamage}
use Rattle.office_store.specs.DamagedFiles.{IsDamagedTable, IsDamagedPartial, IsStageFile, IsDamagedFile}
use Rattle.office_store.specs.Serves.{Serves}

abbrev pub NamesTables : Event → Type 0
NamesTables (E.ReadFile host number path) = ⊥
NamesTables (E.ReadPart number) = ⊥
NamesTables (E.ReadNext restore) = ⊥
NamesTables (E.PoolPiece id from) = ⊥
NamesTables E.Reopen = ⊥
NamesTables event = ⊤

abbrev pub IsDamagedBy : Event → Option Files → FileId → Type 0
IsDamagedBy (E.Put session path (Whole item) token) seen file = ⊥
IsDamagedBy (E.Put session path (Staged put) token) seen file = IsStageFile file
IsDamagedBy (E.Commit session now) seen file = IsDamagedTable seen file ⊎ IsDamagedPartial seen file
IsDamagedBy (E.Adopt session number start end kind) seen file = IsDamagedTable seen file ⊎ IsDamagedPartial seen file
IsDamagedBy (E.Park session) seen file = IsDamagedPartial seen file
IsDamagedBy (E.Resume host) seen file = IsDamagedPartial seen file
IsDamagedBy (E.DropPartial host) seen file = IsDamagedPartial seen file
IsDamagedBy event seen file = IsDamagedTable seen file

either_damaged : (seen : Option Files) (file : FileId) → IsDamagedTable seen file ⊎ IsDamagedPartial seen file → IsDamagedFile seen file
either_damaged seen file (inl table) = inl table
either_damaged seen file (inr partial) = inr (inl partial)

pub any_damaged : (event : Event) (seen : Option Files) (file : FileId) → IsDamagedBy event seen file → IsDamagedFile seen file
any_damaged (E.Put session path (Whole item) token) seen file is = absurd is
any_damaged (E.Put session path (Staged put) token) seen file is = inr (inr is)
any_damaged (E.Commit session now) seen file is = either_damaged seen file is
any_damaged (E.Adopt session number start end kind) seen file is = either_damaged seen file is
any_damaged (E.Park session) seen file is = inr (inl is)
any_damaged (E.Resume host) seen file is = inr (inl is)
any_damaged (E.DropPartial host) seen file is = inr (inl is)
any_damaged event seen file is = inl is

no_reopening : (event : Event) → NamesTables event → event ≡ E.Reopen → ⊥
no_reopening event names is = subst NamesTables is names

-- ---- one file

no_table : (seen : Option Files) (host number : ℕ) (file : FileId) (found : Option (List ℕ)) → file ≡ Table host number
    → IsNoTable seen file found → IsDamagedTable seen file
no_table seen host number file found is none =
    record { host = host; number = number; file_is = is; found = found; no_table = none }

table_of : (seen : Option Files) (host : ℕ) (lines : List Line) (file : FileId) (found : Option (List ℕ))
    → IsDamaged seen host lines file found → IsDamagedTable seen file
table_of seen host lines file found damaged = no_table seen host damaged.line.number file found damaged.file_is damaged.no_table

partial_of : (seen : Option Files) (host : ℕ) (file : FileId) (found : Option (List ℕ)) → IsNoPartial seen host file found
    → IsDamagedPartial seen file
partial_of seen host file found none = record { host = host; found = found; no_partial = none }

-- the table of a line that is dropped
line_of : (seen : Option Files) (host : ℕ) (line : Option Line) (file : FileId) (found : Option (List ℕ)) → IsTableOf host line file
    → IsNoTable seen file found → IsDamagedTable seen file
line_of seen host None file found is none = absurd is
line_of seen host (Some line) file found is none = no_table seen host line.number file found is none

-- ---- one answer, by the files before the call

module _ {D N S : Type 0} {d : DiskGhosts D} {n : NamerGhosts N S} where
  read_of : (old : StoreParts D N S d n) (name : List ℕ) (number : ℕ) (file : FileId) (found : Option (List ℕ))
      → HasDamagedTable old name number file found → IsDamagedTable (told old.journal) file
  read_of old name number file found has =
      table_of (told old.journal) has.placed.place _ file found has.damaged

  by_event : (old new : StoreParts D N S d n) (event : Event) (file : FileId) (found : Option (List ℕ)) → NamesTables event
      → TellsDamage old event (Err (R.Damaged file found)) new → IsDamagedBy event (told old.journal) file
  by_event old new (E.List host number directory) file found names says = elim says.1 [
    | inl has ↦ read_of old host number file found has
    | inr rows ↦ absurd rows.2
  ]
  by_event old new (E.Lookup host number path) file found names says = elim says.1 [
    | inl has ↦ read_of old host number file found has
    | inr rows ↦ absurd rows.2
  ]
  by_event old new (E.OpenFile host number path) file found names says = elim says.1 [
    | inl has ↦ read_of old host number file found has
    | inr rows ↦ absurd rows.2
  ]
  by_event old new (E.OpenRead host number None) file found names says = elim says.1 [
    | inl (inl has) ↦ read_of old host number file found has
    | inl (inr none) ↦ absurd none
    | inr rows ↦ absurd rows.2.2
  ]
  by_event old new (E.OpenRead host number (Some base)) file found names says = elim says.1 [
    | inl (inl has) ↦ read_of old host number file found has
    | inl (inr has) ↦ read_of old host base file found has
    | inr rows ↦ absurd rows.2.2
  ]
  by_event old new (E.Put session path (Whole item) token) file found names says = absurd says.1
  by_event old new (E.Put session path (Staged put) token) file found names says =
      let lost = says.1 in record { number = put.stage; file_is = lost.is }
  by_event old new (E.OpenDump host kind now token) file found names says =
      let has = says.1 in table_of (told old.journal) has.host.place _ file found has.damaged.damaged
  by_event old new (E.Resume host) file found names says =
      let has = says.1 in partial_of (told old.journal) has.host.place file found has.damaged
  by_event old new (E.Commit session now) file found names says = elim says.1.tables [
    | inl calls ↦ inl (line_of (told old.journal) calls.0.session.host _ file found calls.0.calls.is calls.1)
    | inr parks ↦ inr (partial_of (told old.journal) parks.0 file found parks.2)
  ]
  by_event old new (E.Adopt session number start end kind) file found names says = elim says.1.tables [
    | inl calls ↦ inl (line_of (told old.journal) calls.0.session.host _ file found calls.0.calls.is calls.1)
    | inr parks ↦ inr (partial_of (told old.journal) parks.0 file found parks.2)
  ]
  by_event old new (E.Park session) file found names says =
      let named = says.1.partial in partial_of (told old.journal) named.host file found named.none
  by_event old new (E.DropPartial host) file found names says =
      let named = says.1.partial in partial_of (told old.journal) named.host file found named.none
  by_event old new (E.Delete host number) file found names says =
      let here = says.0 in
      let said = says.1 here.place here.named in table_of (told old.journal) here.place _ file found (said.1 here.index here.here)
  by_event old new (E.Expire host now) file found names says =
      let here = says.0 in
      let said = says.1.0 here.place here.index here.named here.here in
      table_of (told old.journal) here.place _ file found (said.1 here.index here.here)
  by_event old new (E.Migrate host) file found names says =
      let said = says.1 in table_of (told old.journal) said.place _ file found said.damaged
  by_event old new (E.Clean bucket) file found names says = absurd says.1.0
  by_event old new E.Sweep file found names says = absurd says.1.0
  by_event old new (E.PoolList part) file found names says = absurd says.1.0
  by_event old new (E.ReadFile host number path) file found names says = absurd names
  by_event old new (E.ReadPart number) file found names says = absurd names
  by_event old new (E.ReadNext restore) file found names says = absurd names
  by_event old new (E.PoolPiece id from) file found names says = absurd names
  by_event old new E.Reopen file found names says = absurd names
  by_event old new event file found names says = absurd says.1

  -- the disk tells behind it what it told before
  pub damaged_file : (old new : Store D N S d n) (event : Event) (file : FileId) (found : Option (List ℕ)) → NamesTables event
      → Serves old event (Err (R.Damaged file found)) new → IsDamagedBy event (told new.parts.journal) file
  damaged_file old new (E.Put session path (Staged put) token) file found names serves =
      by_event old.parts new.parts (E.Put session path (Staged put) token) file found names serves.damaged
  damaged_file old new event file found names serves =
      subst (λ (seen : Option Files). IsDamagedBy event seen file)
      (sym (serves.untouched.undone (no_reopening event names) tt (λ undamaged. undamaged)))
      (by_event old.parts new.parts event file found names serves.damaged)
