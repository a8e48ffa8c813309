-- Which file a demo names, whatever the disk: a partial, a table, or a content that a restore gave or was to give.
--     demo_names
use Rattle.std.specs.Prelude.{◌⊎◌}
use Rattle.std.proofs.Common.{◌≡◌, ℕ, Bool, List, [], ◌∷◌, ◌++◌, Option, None, Some, Ok, Err, sym, subst, inl, inr}
use Rattle.disk_trait.specs.declared.ids.FileId.{FileId}
use Rattle.disk_trait.specs.Files.{Files}
use Rattle.disk_trait.specs.declared.disk.Disk.{Ghosts as DiskGhosts}
use Rattle.pool_name.specs.declared.namer.Namer.{Ghosts as NamerGhosts}
use Rattle.journal_view.specs.View.{told}
use Rattle.receipts.specs.declared.session.SessionName.{SessionName}
use Rattle.office_model.specs.declared.event.Event.{Event}
use Rattle.office_model.specs.declared.event.Event.TheVariants as E
use Rattle.office_model.specs.declared.event.PutItem.TheVariants.{Whole, Staged}
use Rattle.office_model.specs.declared.answer.Answer.TheVariants as A
use Rattle.office_model.specs.declared.refusal.Refusal.TheVariants as R
use Rattle.office_model.specs.Step.{Call}
use Rattle.serve_workers.specs.Stores.{Store, Serves, AreServed, Moves, IsDamagedTable, IsDamagedPartial, IsDamagedRead, IsReadAt, damaged_file, read_opened, read_on, read_damaged}
use Rattle.demo_work.specs.declared.ends.DemoEnd.{DemoEnd}
use Rattle.demo_work.specs.declared.ends.DemoEnd.TheVariants as F
use Rattle.demo_work.specs.CallLaws.{AreOfDemo, IsOfDemo, of_demo}
use Rattle.demo_work.specs.Ends.{Ends}
use Rattle.demo_work.specs.ReadLaws.{demo_reads}
use Rattle.demo_work.specs.Reads.{ready_behind, MayCall, AreRead}
use Rattle.admin_cli.specs.declared.note.Note.TheVariants as Said
use Rattle.admin_cli.specs.Demos.{note_of_demo}
use Rattle.admin_cli.proofs.ForeignLaws.{not_of_all, not_of_rule, by_call}

-- ---- the call that was refused

abbrev last_call : Event → FileId → Option (List ℕ) → Call
last_call event file found = (event, Err (R.Damaged file found))

abbrev IsNamed : (List ℕ → List ℕ) → Option Files → FileId → Type 0
IsNamed digest_of seen file = IsDamagedPartial seen file ⊎ IsDamagedRead digest_of seen file

either_named : (digest_of : List ℕ → List ℕ) (seen : Option Files) (file : FileId) → IsDamagedTable seen file ⊎ IsDamagedPartial seen file
    → IsNamed digest_of seen file
either_named digest_of seen file (inl table) = inr (inl table)
either_named digest_of seen file (inr partial) = inl partial

same_restore : (a b : SessionName) → Some a ≡ Some b → a ≡ b
same_restore a b e = cc (e)

-- ---- what the note names

named_by : (end : DemoEnd) (failed halted : Bool) (file : FileId) → note_of_demo end failed halted ≡ Said.Foreign file
    → (found : Option (List ℕ)) × (end ≡ F.Refused (R.Damaged file found))
named_by (F.Done summary) failed halted file e = absurd (not_of_all failed halted file e)
named_by F.Occupied failed halted file e =
    absurd (not_of_rule Said.StoreNotEmpty halted file (λ same. let no : ⊥ = cc (same) in no) e)
named_by (F.Refused refusal) failed halted file e =
    let named = by_call refusal halted file e in (named.0, λ i. F.Refused (named.1 i))
named_by F.Memory failed halted file e = let no : ⊥ = cc (e) in absurd no

module _ {D N S : Type 0} {d : DiskGhosts D} {n : NamerGhosts N S} where
  abbrev NamedIn : Store D N S d n → FileId → Type 0
  NamedIn store file = IsNamed n.digest_of (told store.parts.journal) file

  -- the restore whose frames may be asked for is read
  abbrev AreReady : Store D N S d n → Option SessionName → Type 0
  AreReady store ready = (restore : SessionName) → ready ≡ Some restore → IsReadAt store.parts restore

  refused : (old new : Store D N S d n) (ready : Option SessionName) (event : Event) (file : FileId) (found : Option (List ℕ))
      → IsOfDemo event → MayCall ready event → AreReady old ready → Serves old event (Err (R.Damaged file found)) new → NamedIn new file
  refused old new ready (E.ReadNext restore) file found of may are serves =
      inr (inr (read_damaged old new restore file found serves (are restore may)))
  refused old new ready (E.Put dump path (Whole item) token) file found of may are serves =
      absurd (damaged_file old new (E.Put dump path (Whole item) token) file found tt serves)
  refused old new ready (E.Put dump path (Staged put) token) file found of may are serves = absurd may
  refused old new ready (E.Commit dump now) file found of may are serves =
      either_named n.digest_of (told new.parts.journal) file (damaged_file old new (E.Commit dump now) file found tt serves)
  refused old new ready E.Hosts file found of may are serves = inr (inl (damaged_file old new E.Hosts file found tt serves))
  refused old new ready (E.AddHost host rules) file found of may are serves =
      inr (inl (damaged_file old new (E.AddHost host rules) file found tt serves))
  refused old new ready (E.OpenDump host kind now token) file found of may are serves =
      inr (inl (damaged_file old new (E.OpenDump host kind now token) file found tt serves))
  refused old new ready (E.Remove dump path token) file found of may are serves =
      inr (inl (damaged_file old new (E.Remove dump path token) file found tt serves))
  refused old new ready (E.Expire host now) file found of may are serves =
      inr (inl (damaged_file old new (E.Expire host now) file found tt serves))
  refused old new ready (E.Clean bucket) file found of may are serves =
      inr (inl (damaged_file old new (E.Clean bucket) file found tt serves))
  refused old new ready E.Sweep file found of may are serves = inr (inl (damaged_file old new E.Sweep file found tt serves))
  refused old new ready E.Stats file found of may are serves = inr (inl (damaged_file old new E.Stats file found tt serves))
  refused old new ready (E.Backups host) file found of may are serves =
      inr (inl (damaged_file old new (E.Backups host) file found tt serves))
  refused old new ready (E.OpenRead host number base) file found of may are serves =
      inr (inl (damaged_file old new (E.OpenRead host number base) file found tt serves))
  refused old new ready (E.CloseRead restore) file found of may are serves =
      inr (inl (damaged_file old new (E.CloseRead restore) file found tt serves))
  refused old new ready event file found of may are serves = absurd of

  -- ---- the calls before it

  behind : (old new : Store D N S d n) (ready : Option SessionName) (call : Call) → MayCall ready call.0 → AreReady old ready
      → Serves old call.0 call.1 new → AreReady new (ready_behind call)
  behind old new ready (E.OpenRead host number base, Ok (A.Restore opened)) may are serves restore is =
      subst (λ (name : SessionName). IsReadAt new.parts name) (same_restore opened restore is)
      (read_opened old new host number opened
      (subst (λ (from : Option ℕ). Serves old (E.OpenRead host number from) (Ok (A.Restore opened)) new) may serves))
  behind old new ready (E.ReadNext read, Ok (A.Next frame)) may are serves restore is =
      subst (λ (name : SessionName). IsReadAt new.parts name) (same_restore read restore is)
      (read_on old new read (A.Next frame) serves (are read may))
  behind old new ready call may are serves restore is = let no : ⊥ = cc (is) in absurd no

  calls_named : (old new : Store D N S d n) (ready : Option SessionName) (before : List Call) (event : Event) (file : FileId)
      (found : Option (List ℕ)) → AreServed old (before ++ last_call event file found ∷ []) new
      → AreOfDemo (before ++ last_call event file found ∷ []) → AreRead ready (before ++ last_call event file found ∷ [])
      → AreReady old ready → NamedIn new file
  calls_named old new ready [] event file found served of reads are =
      subst (λ (s : Store D N S d n). NamedIn s file) (sym served.2)
      (refused old served.0 ready event file found of.0 reads.0 are served.1)
  calls_named old new ready (call ∷ before) event file found served of reads are =
      calls_named served.0 new (ready_behind call) before event file found served.2 of.1 reads.1
      (behind old served.0 ready call reads.0 are served.1)

  by_end : (old new : Store D N S d n) (number : ℕ) (calls : List Call) (file : FileId) (found : Option (List ℕ))
      → AreServed old calls new → Ends number (F.Refused (R.Damaged file found)) calls → NamedIn new file
  by_end old new number calls file found served ends =
      let stopped = ends.stopped in
      calls_named old new None stopped.before stopped.event file found
      (subst (λ (made : List Call). AreServed old made new) stopped.parts served)
      (subst AreOfDemo stopped.parts (of_demo number (F.Refused (R.Damaged file found)) calls ends))
      (subst (AreRead None) stopped.parts (demo_reads number calls ends.follows))
      (λ restore is. let no : ⊥ = cc (is) in absurd no)

  -- a demo names a file that the disk has damaged when it ends
  pub demo_names : (old new : Store D N S d n) (calls : List Call) (number : ℕ) (end : DemoEnd) (failed halted : Bool) (file : FileId)
      → Moves old calls new → Ends number end calls → note_of_demo end failed halted ≡ Said.Foreign file → NamedIn new file
  demo_names old new calls number end failed halted file moved ends note_is =
      let named = named_by end failed halted file note_is in
      by_end old new number calls file named.0 moved.each
      (subst (λ (e : DemoEnd). Ends number e calls) named.1 ends)
