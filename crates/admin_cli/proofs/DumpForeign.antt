-- Which file a dump of a folder names, whatever the disk and whatever the folder tells: a table, a partial or a stage.
--     dump_names
use Rattle.std.proofs.Common.{◌≡◌, ℕ, Bool, List, [], ◌∷◌, ◌++◌, Option, Result, Ok, Err, sym, ap, subst}
use Rattle.disk_trait.specs.declared.ids.FileId.{FileId}
use Rattle.disk_trait.specs.Files.{Files}
use Rattle.disk_trait.specs.declared.disk.Disk.{Ghosts as DiskGhosts}
use Rattle.pool_name.specs.declared.namer.Namer.{Ghosts as NamerGhosts}
use Rattle.journal_view.specs.View.{told}
use Rattle.attr_records.specs.Items.{Tree}
use Rattle.backup_rules.specs.declared.lines.Kind.{Kind}
use Rattle.office_model.specs.declared.event.Event.{Event}
use Rattle.office_model.specs.declared.event.Event.TheVariants as E
use Rattle.office_model.specs.declared.answer.Answer.TheVariants as A
use Rattle.office_model.specs.declared.refusal.Refusal.TheVariants as R
use Rattle.office_model.specs.Step.{Call}
use Rattle.serve_workers.specs.Stores.{Store, DirectPort, AreServed, Moves, IsDamagedFile, NamesTables, any_damaged, damaged_file}
use Rattle.call_scripts.specs.Scripts.{EndRefused}
use Rattle.folder_walk.specs.declared.refusals.DumpRefusal.{DumpRefusal}
use Rattle.folder_walk.specs.declared.refusals.DumpRefusal.TheVariants as P
use Rattle.folder_walk.specs.Events.{IsOfDump, AreOfDump}
use Rattle.folder_walk.specs.Dumps.{AreAborts, Stopped}
use Rattle.admin_cli.specs.declared.note.Note.TheVariants as Said
use Rattle.admin_cli.specs.Folders.{note_of_dump, Dumps}
use Rattle.admin_cli.proofs.FileLaws.{split, abort_told}
use Rattle.admin_cli.proofs.ForeignLaws.{AreOf, not_of_all, not_of_rule, by_call, refused_last}

-- ---- each event of a dump names such files

names_tables : (event : Event) → IsOfDump event → NamesTables event
names_tables (E.ReadFile host number path) of = absurd of
names_tables (E.ReadPart number) of = absurd of
names_tables (E.ReadNext restore) of = absurd of
names_tables (E.PoolPiece id from) of = absurd of
names_tables E.Reopen of = absurd of
names_tables event of = tt

all_tables : (calls : List Call) → AreOfDump calls → AreOf NamesTables calls
all_tables [] of = tt
all_tables (call ∷ calls) of = (names_tables call.0 of.0, all_tables calls of.1)

-- ---- what the note names

named_by : (result : Result ℕ DumpRefusal) (failed halted : Bool) (file : FileId) → note_of_dump result failed halted ≡ Said.Foreign file
    → (found : Option (List ℕ)) × (result ≡ Err (P.Refused (R.Damaged file found)))
named_by (Ok number) failed halted file e = absurd (not_of_all failed halted file e)
named_by (Err (P.Refused refusal)) failed halted file e =
    let named = by_call refusal halted file e in (named.0, λ i. Err (P.Refused (named.1 i)))
named_by (Err (P.BadPath rule)) failed halted file e =
    absurd (not_of_rule Said.BadPath halted file (λ same. let no : ⊥ = cc (same) in no) e)
named_by (Err P.BadTarget) failed halted file e =
    absurd (not_of_rule Said.BadTarget halted file (λ same. let no : ⊥ = cc (same) in no) e)
named_by (Err P.FileTooLarge) failed halted file e =
    absurd (not_of_rule Said.FileTooLarge halted file (λ same. let no : ⊥ = cc (same) in no) e)
named_by (Err P.Folder) failed halted file e = let no : ⊥ = cc (e) in absurd no
named_by (Err P.Memory) failed halted file e = let no : ⊥ = cc (e) in absurd no

module _ {D N S : Type 0} {d : DiskGhosts D} {n : NamerGhosts N S} where
  none_told : (old new : Store D N S d n) (aborts : List Call) → aborts ≡ [] → AreServed old aborts new
      → told new.parts.journal ≡ told old.parts.journal
  none_told old new aborts is served =
      ap (λ (s : Store D N S d n). told s.parts.journal) (subst (λ (calls : List Call). AreServed old calls new) is served)

  -- the abort behind a dump that was opened
  aborts_told : (calls aborts : List Call) (old new : Store D N S d n) → AreAborts calls aborts → AreServed old aborts new
      → told new.parts.journal ≡ told old.parts.journal
  aborts_told ((asked, Ok (A.Dump dump)) ∷ calls) aborts old new are served =
      abort_told old new dump are.0 (subst (λ (made : List Call). AreServed old made new) are.1 served)
  aborts_told calls aborts old new are served = none_told old new aborts are served

  stopped_names : (old new : Store D N S d n) (calls aborts : List Call) (file : FileId) (found : Option (List ℕ))
      → AreServed old (calls ++ aborts) new → AreOf NamesTables calls → EndRefused (R.Damaged file found) calls → AreAborts calls aborts
      → IsDamagedFile (told new.parts.journal) file
  stopped_names old new calls aborts file found served tables ended aborted =
      let parts = split old new calls aborts served in
      let last = refused_last NamesTables (R.Damaged file found) old parts.mid calls parts.first tables ended in
      subst (λ (seen : Option Files). IsDamagedFile seen file) (sym (aborts_told calls aborts parts.mid new aborted parts.rest))
      (any_damaged last.event (told parts.mid.parts.journal) file
      (damaged_file last.mid parts.mid last.event file found last.is_of last.serves))

  abbrev PortMoves : DirectPort D N S d n → List Call → DirectPort D N S d n → Type 0
  PortMoves p calls q = Moves p.store calls q.store

  by_stop : (port port' : DirectPort D N S d n) (given : Option Tree) (moments moments' : Option (List ℕ)) (kind : Kind) (host : List ℕ)
      (file : FileId) (found : Option (List ℕ))
      → Stopped PortMoves port port' given moments moments' kind host (P.Refused (R.Damaged file found))
      → IsDamagedFile (told port'.store.parts.journal) file
  by_stop port port' given moments moments' kind host file found stopped =
      stopped_names port.store port'.store stopped.calls stopped.aborts file found stopped.moved.each
      (all_tables stopped.calls stopped.of_dump) stopped.so stopped.aborted

  -- a dump names a file that the disk has damaged when it ends
  pub dump_names : (port port' : DirectPort D N S d n) (given : Option Tree) (moments moments' : Option (List ℕ)) (kind : Kind)
      (host : List ℕ) (result : Result ℕ DumpRefusal) (failed halted : Bool) (file : FileId)
      → Dumps PortMoves port port' given moments moments' kind host result
      → note_of_dump result failed halted ≡ Said.Foreign file → IsDamagedFile (told port'.store.parts.journal) file
  dump_names port port' given moments moments' kind host result failed halted file made note_is =
      let named = named_by result failed halted file note_is in
      by_stop port port' given moments moments' kind host file named.0
      (subst (Dumps PortMoves port port' given moments moments' kind host) named.1 made)
