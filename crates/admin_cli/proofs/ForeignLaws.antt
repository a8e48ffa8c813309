-- Which file a night or a migration names: over any disk, a table that isn't there, or is in no table's grammar.
--     IsOfNight, called      which events a night calls
--     night_foreign, migration_foreign
use Rattle.std.specs.Prelude.{map}
use Rattle.std.specs.List.{All}
use Rattle.std.proofs.Common.{◌≡◌, ℕ, ℤ, Bool, true, false, List, [], ◌∷◌, ◌++◌, Option, Some, Ok, Err, sym, ◌∙◌, subst}
use Rattle.std.proofs.lemmas.List.Elements.{All-nil, All-cons, All-head, All-tail, All-append, All-map}
use Rattle.disk_trait.specs.declared.ids.FileId.{FileId}
use Rattle.disk_trait.specs.declared.disk.Disk.{Ghosts as DiskGhosts}
use Rattle.pool_name.specs.declared.namer.Namer.{Ghosts as NamerGhosts}
use Rattle.journal_view.specs.View.{told}
use Rattle.office_model.specs.declared.event.Event.{Event}
use Rattle.office_model.specs.declared.event.Event.TheVariants as E
use Rattle.office_model.specs.declared.answer.Answer.TheVariants as A
use Rattle.office_model.specs.declared.refusal.Refusal.{Refusal}
use Rattle.office_model.specs.declared.refusal.Refusal.TheVariants as R
use Rattle.office_model.specs.Step.{Call}
use Rattle.serve_workers.specs.Stores.{Store, TellsDamage, IsDamagedTable, Serves, AreServed, Moves}
use Rattle.call_scripts.specs.Scripts.{EndRefused, FollowsAfter, each_of}
use Rattle.night_work.specs.declared.ends.NightEnd.{NightEnd}
use Rattle.night_work.specs.declared.ends.NightEnd.TheVariants as F
use Rattle.night_work.specs.Script.{events_after, night_buckets, night_script}
use Rattle.night_work.specs.Ends.{Ends}
use Rattle.migrate_work.specs.declared.ends.MigrationEnd.{MigrationEnd}
use Rattle.migrate_work.specs.declared.ends.MigrationEnd.TheVariants as G
use Rattle.migrate_work.specs.Ends.{Ends as MigrationEnds}
use Rattle.migrate_work.specs.Keeping.{IsOfMigration, AreOfMigration}
use Rattle.migrate_work.specs.KeepingLaws.{of_migration}
use Rattle.admin_cli.specs.declared.note.Note.{Note}
use Rattle.admin_cli.specs.declared.note.Note.TheVariants.{Foreign, Refused}
use Rattle.admin_cli.specs.Folders.{note_of_rule, note_of_call}
use Rattle.admin_cli.specs.Migrations.{note_of_migration}
use Rattle.admin_cli.specs.Nights.{note_of_all, note_of_night}

-- each call is of such an event
abbrev pub AreOf : (Event → Type 0) → List Call → Type 0
AreOf of [] = Unit {0}
AreOf of (call ∷ calls) = of call.0 × AreOf of calls

-- ---- which events a night calls, whatever is answered

abbrev pub IsOfNight : Event → Type 0
IsOfNight E.Hosts = Unit {0}
IsOfNight (E.Expire name now) = Unit {0}
IsOfNight (E.Clean bucket) = Unit {0}
IsOfNight E.Sweep = Unit {0}
IsOfNight event = ⊥

each_of_night : (events : List Event) (done : List Call) (event : Event) → All IsOfNight events → each_of events done ≡ Some event
    → IsOfNight event
each_of_night [] done event all is = let no : ⊥ = cc (is) in absurd no
each_of_night (next ∷ events) [] event all is =
    let e : next ≡ event = cc (is) in subst IsOfNight e (All-head IsOfNight next events all)
each_of_night (next ∷ events) ((asked, Ok answer) ∷ done) event all is =
    each_of_night events done event (All-tail IsOfNight next events all) is
each_of_night (next ∷ events) ((asked, Err refusal) ∷ done) event all is = let no : ⊥ = cc (is) in absurd no

any_name : (names : List (List ℕ)) → All (λ (name : List ℕ). Unit {0}) names
any_name [] = All-nil (λ (name : List ℕ). Unit {0})
any_name (name ∷ names) = All-cons (λ (name : List ℕ). Unit {0}) name names tt (any_name names)

any_bucket : (buckets : List ℕ) → All (λ (bucket : ℕ). Unit {0}) buckets
any_bucket [] = All-nil (λ (bucket : ℕ). Unit {0})
any_bucket (bucket ∷ buckets) = All-cons (λ (bucket : ℕ). Unit {0}) bucket buckets tt (any_bucket buckets)

events_of_night : (moment : ℕ) (buckets : List ℕ) (hosts : List (List ℕ)) → All IsOfNight (events_after moment buckets hosts)
events_of_night moment buckets hosts =
    All-append IsOfNight (map (λ host. E.Expire host moment) hosts) (map E.Clean buckets ++ E.Sweep ∷ [])
    (All-map IsOfNight (λ host. E.Expire host moment) hosts (any_name hosts))
    (All-append IsOfNight (map E.Clean buckets) (E.Sweep ∷ []) (All-map IsOfNight E.Clean buckets (any_bucket buckets))
    (All-cons IsOfNight E.Sweep [] tt (All-nil IsOfNight)))

pub called : (moment : ℕ) (buckets : List ℕ) (made : List Call) (event : Event) → night_script moment buckets made ≡ Some event
    → IsOfNight event
called moment buckets [] event is = let e : E.Hosts ≡ event = cc (is) in subst IsOfNight e tt
called moment buckets ((asked, Ok (A.Hosts hosts)) ∷ made) event is =
    each_of_night (events_after moment buckets hosts) made event (events_of_night moment buckets hosts) is
called moment buckets (call ∷ made) event is = let no : ⊥ = cc (is) in absurd no

all_called : (moment : ℕ) (buckets : List ℕ) (made calls : List Call) → FollowsAfter (night_script moment buckets) made calls
    → AreOf IsOfNight calls
all_called moment buckets made [] follows = tt
all_called moment buckets made (call ∷ calls) follows =
    (called moment buckets made call.0 follows.0, all_called moment buckets (made ++ call ∷ []) calls follows.1)

-- ---- what the note names

pub not_of_all : (failed halted : Bool) (file : FileId) → note_of_all failed halted ≡ Foreign file → ⊥
not_of_all true halted file e = cc (e)
not_of_all false true file e = cc (e)
not_of_all false false file e = cc (e)

-- it names what the last refusal named
named_by : (end : NightEnd) (failed halted : Bool) (file : FileId) → note_of_night end failed halted ≡ Foreign file
    → (found : Option (List ℕ)) × (end ≡ F.Refused (R.Damaged file found))
named_by (F.Done night) failed halted file e = absurd (not_of_all failed halted file e)
named_by F.NotNow failed halted file e = absurd (not_of_all failed halted file e)
named_by (F.Refused (R.Broken rule)) failed halted file e = absurd (not_of_all false halted file e)
named_by (F.Refused R.Halted) failed halted file e = let no : ⊥ = cc (e) in absurd no
named_by (F.Refused R.DiskFault) failed halted file e = let no : ⊥ = cc (e) in absurd no
named_by (F.Refused (R.Damaged other found)) failed halted file e =
    let is : other ≡ file = cc (e) in (found, λ i. F.Refused (R.Damaged (is i) found))
named_by (F.Refused R.Memory) failed halted file e = let no : ⊥ = cc (e) in absurd no
named_by F.Memory failed halted file e = let no : ⊥ = cc (e) in absurd no

-- a migration's note names what its last refusal named
pub not_of_rule : (note : Note) (halted : Bool) (file : FileId) → (note ≡ Foreign file → ⊥) → note_of_rule note halted ≡ Foreign file → ⊥
not_of_rule note true file other e = let no : ⊥ = cc (e) in absurd no
not_of_rule note false file other e = other e

pub by_call : (refusal : Refusal) (halted : Bool) (file : FileId) → note_of_call refusal halted ≡ Foreign file
    → (found : Option (List ℕ)) × (refusal ≡ R.Damaged file found)
by_call (R.Broken rule) halted file e =
    absurd (not_of_rule (Refused rule) halted file (λ same. let no : ⊥ = cc (same) in no) e)
by_call R.Halted halted file e = let no : ⊥ = cc (e) in absurd no
by_call R.DiskFault halted file e = let no : ⊥ = cc (e) in absurd no
by_call (R.Damaged other found) halted file e = let is : other ≡ file = cc (e) in (found, λ i. R.Damaged (is i) found)
by_call R.Memory halted file e = let no : ⊥ = cc (e) in absurd no

by_migration : (end : MigrationEnd) (failed halted : Bool) (file : FileId) → note_of_migration end failed halted ≡ Foreign file
    → (found : Option (List ℕ)) × (end ≡ G.Refused (R.Damaged file found))
by_migration (G.Done count) failed halted file e = absurd (not_of_all failed halted file e)
by_migration (G.Refused refusal) failed halted file e =
    let named = by_call refusal halted file e in (named.0, λ i. G.Refused (named.1 i))
by_migration G.Memory failed halted file e = let no : ⊥ = cc (e) in absurd no

each_of_migration : (calls : List Call) → AreOfMigration calls → AreOf IsOfMigration calls
each_of_migration [] each = tt
each_of_migration (call ∷ calls) each = (each.0, each_of_migration calls each.1)

module _ {D N S : Type 0} {d : DiskGhosts D} {n : NamerGhosts N S} where
  -- the call that was refused
  pub record IsRefusedLast (of : Event → Type 0) (refusal : Refusal) (new : Store D N S d n) : Type 0 where
    pub mid : Store D N S d n
    pub event : Event
    pub is_of : of event
    pub serves : Serves mid event (Err refusal) new

  pub refused_last : (of : Event → Type 0) (refusal : Refusal) (old new : Store D N S d n) (calls : List Call) → AreServed old calls new
      → AreOf of calls → EndRefused refusal calls → IsRefusedLast of refusal new
  refused_last of refusal old new [] served each ended = absurd ended
  refused_last of refusal old new ((event, Ok answer) ∷ calls) served each ended =
      refused_last of refusal served.0 new calls served.2 each.1 ended
  refused_last of refusal old new ((event, Err named) ∷ calls) served each ended =
      let rest : AreServed served.0 [] new = subst (λ (more : List Call). AreServed served.0 more new) ended.1 served.2 in
      record {
        mid = old;
        event = event;
        is_of = each.0;
        serves = subst (λ (told : Refusal). Serves old event (Err told) new) ended.0
            (subst (λ (s : Store D N S d n). Serves old event (Err named) s) (sym rest) served.1);
      }

  -- only an expiry finds a damaged file
  table_of : (mid new : Store D N S d n) (event : Event) (file : FileId) (found : Option (List ℕ)) → IsOfNight event
      → TellsDamage mid.parts event (Err (R.Damaged file found)) new.parts → IsDamagedTable (told new.parts.journal) file
  table_of mid new E.Hosts file found of_night says = absurd says.1
  table_of mid new (E.Expire name now) file found of_night says =
      let here = says.0 in
      let said = says.1.0 here.place here.index here.named here.here in
      let damaged = said.1 here.index here.here in
      record {
        host = here.place;
        number = damaged.line.number;
        file_is = damaged.file_is;
        found = found;
        no_table = record {
          there = λ all is. damaged.no_table.there all (sym said.0.quiet.told_same ∙ is);
          none = damaged.no_table.none;
        };
      }
  table_of mid new (E.Clean bucket) file found of_night says = absurd says.1.0
  table_of mid new E.Sweep file found of_night says = absurd says.1.0
  table_of mid new event file found of_night says = absurd of_night

  by_refusal : (old new : Store D N S d n) (calls : List Call) (moment : ℕ) (day : ℤ) (period : ℕ) (file : FileId)
      (found : Option (List ℕ)) → Moves old calls new → Ends moment day period (F.Refused (R.Damaged file found)) calls
      → IsDamagedTable (told new.parts.journal) file
  by_refusal old new calls moment day period file found moved ends =
      let last = refused_last IsOfNight (R.Damaged file found) old new calls moved.each
      (all_called moment (night_buckets day period) [] calls ends.0) ends.1 in
      table_of last.mid new last.event file found last.is_of last.serves.damaged

  -- a night names a table that the disk holds none in when it ends
  pub night_foreign : (old new : Store D N S d n) (calls : List Call) (moment : ℕ) (day : ℤ) (period : ℕ) (end : NightEnd)
      (failed halted : Bool) (file : FileId) → Moves old calls new → Ends moment day period end calls
      → note_of_night end failed halted ≡ Foreign file → IsDamagedTable (told new.parts.journal) file
  night_foreign old new calls moment day period end failed halted file moved ends is =
      let named = named_by end failed halted file is in
      by_refusal old new calls moment day period file named.0 moved
      (subst (λ (e : NightEnd). Ends moment day period e calls) named.1 ends)

  -- only a migration of a host finds a damaged file, and wrote nothing then
  migrated_table : (mid new : Store D N S d n) (event : Event) (file : FileId) (found : Option (List ℕ)) → IsOfMigration event
      → TellsDamage mid.parts event (Err (R.Damaged file found)) new.parts → IsDamagedTable (told new.parts.journal) file
  migrated_table mid new E.Hosts file found is_of says = absurd says.1
  migrated_table mid new (E.Migrate name) file found is_of says =
      let said = says.1 in
      let damaged = said.damaged in
      record {
        host = said.place;
        number = damaged.line.number;
        file_is = damaged.file_is;
        found = found;
        no_table = record {
          there = λ all is. damaged.no_table.there all (sym said.read.quiet.told_same ∙ is);
          none = damaged.no_table.none;
        };
      }
  migrated_table mid new event file found is_of says = absurd is_of

  by_refused_migration : (old new : Store D N S d n) (calls : List Call) (file : FileId) (found : Option (List ℕ)) → Moves old calls new
      → MigrationEnds (G.Refused (R.Damaged file found)) calls → IsDamagedTable (told new.parts.journal) file
  by_refused_migration old new calls file found moved ends =
      let last = refused_last IsOfMigration (R.Damaged file found) old new calls moved.each
      (each_of_migration calls (of_migration (G.Refused (R.Damaged file found)) calls ends)) ends.1 in
      migrated_table last.mid new last.event file found last.is_of last.serves.damaged

  -- a migration names a table that the disk holds none in when it ends
  pub migration_foreign : (old new : Store D N S d n) (calls : List Call) (end : MigrationEnd) (failed halted : Bool) (file : FileId)
      → Moves old calls new → MigrationEnds end calls → note_of_migration end failed halted ≡ Foreign file
      → IsDamagedTable (told new.parts.journal) file
  migration_foreign old new calls end failed halted file moved ends is =
      let named = by_migration end failed halted file is in
      by_refused_migration old new calls file named.0 moved (subst (λ (e : MigrationEnd). MigrationEnds e calls) named.1 ends)
