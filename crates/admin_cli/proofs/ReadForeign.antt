-- Which file a restore into a folder names, whatever the disk: a table, or a content that it gave or was to give.
--     follows_behind, none_follows      of scripts
--     restore_names
use Rattle.std.proofs.Common.{◌≡◌, ℕ, Bool, List, [], ◌∷◌, ◌++◌, Option, None, Some, Result, Ok, Err, sym, subst, inl, inr}
use Rattle.disk_trait.specs.declared.ids.FileId.{FileId}
use Rattle.disk_trait.specs.declared.disk.Disk.{Ghosts as DiskGhosts}
use Rattle.pool_name.specs.declared.namer.Namer.{Ghosts as NamerGhosts}
use Rattle.journal_view.specs.View.{told}
use Rattle.attr_records.specs.Items.{Tree}
use Rattle.receipts.specs.declared.session.SessionName.{SessionName}
use Rattle.tree_frames.specs.declared.nodes.Frame.{Frame}
use Rattle.tree_frames.specs.declared.nodes.Frame.TheVariants as T
use Rattle.office_model.specs.declared.event.Event.{Event}
use Rattle.office_model.specs.declared.event.Event.TheVariants as E
use Rattle.office_model.specs.declared.answer.Answer.{Answer}
use Rattle.office_model.specs.declared.answer.Answer.TheVariants as A
use Rattle.office_model.specs.declared.refusal.Refusal.{Refusal}
use Rattle.office_model.specs.declared.refusal.Refusal.TheVariants as R
use Rattle.office_model.specs.Step.{Call}
use Rattle.serve_workers.specs.Stores.{Store, DirectPort, Serves, AreServed, Moves, IsDamagedRead, IsReadAt, damaged_file, read_opened, read_on, read_damaged}
use Rattle.call_scripts.specs.Scripts.{Script, FollowsAfter, Follows, behind, one_call, EndRefused}
use Rattle.folder_restore.specs.declared.refusals.RestoreRefusal.{RestoreRefusal}
use Rattle.folder_restore.specs.declared.refusals.RestoreRefusal.TheVariants as W
use Rattle.folder_restore.specs.RestoreScript.{read_script, restore_script}
use Rattle.folder_restore.specs.Restores.{Stopped}
use Rattle.admin_cli.specs.declared.note.Note.TheVariants as Said
use Rattle.admin_cli.specs.Folders.{note_of_restore, Restores}
use Rattle.admin_cli.proofs.ForeignLaws.{not_of_all, not_of_rule, by_call}

-- ---- scripts

pub follows_behind : (next : Script) (call : Call) (made calls : List Call) → FollowsAfter next (call ∷ made) calls
    → FollowsAfter (behind call next) made calls
follows_behind next call made [] follows = follows
follows_behind next call made (more ∷ calls) follows =
    (follows.0, follows_behind next call (made ++ more ∷ []) calls follows.1)

-- nothing is called by a script that is at its end
pub none_follows : (refusal : Refusal) (calls : List Call) → Follows (λ made. None) calls → EndRefused refusal calls → ⊥
none_follows refusal [] follows ended = ended
none_follows refusal (call ∷ calls) follows ended = cc (follows.0)

-- ---- what the note names

named_by : (result : Result ℕ RestoreRefusal) (failed halted : Bool) (file : FileId)
    → note_of_restore result failed halted ≡ Said.Foreign file
    → (found : Option (List ℕ)) × (result ≡ Err (W.Refused (R.Damaged file found)))
named_by (Ok entries) failed halted file e = absurd (not_of_all failed halted file e)
named_by (Err (W.Refused refusal)) failed halted file e =
    let named = by_call refusal halted file e in (named.0, λ i. Err (W.Refused (named.1 i)))
named_by (Err W.NotEmpty) failed halted file e =
    absurd (not_of_rule Said.FolderNotEmpty halted file (λ same. let no : ⊥ = cc (same) in no) e)
named_by (Err W.Folder) failed halted file e = let no : ⊥ = cc (e) in absurd no
named_by (Err W.Memory) failed halted file e = let no : ⊥ = cc (e) in absurd no

-- ---- a restore that is read

module _ {D N S : Type 0} {d : DiskGhosts D} {n : NamerGhosts N S} where
  abbrev IsNamed : Store D N S d n → FileId → Type 0
  IsNamed store file = IsDamagedRead n.digest_of (told store.parts.journal) file

  -- the last call was refused so
  one_refused : (old new : Store D N S d n) (event asked : Event) (named refusal : Refusal) (calls : List Call) → event ≡ asked
      → (named ≡ refusal) × (calls ≡ []) → AreServed old ((asked, Err named) ∷ calls) new → Serves old event (Err refusal) new
  one_refused old new event asked named refusal calls is ended served =
      let rest : AreServed served.0 [] new = subst (λ (more : List Call). AreServed served.0 more new) ended.1 served.2 in
      subst (λ (e : Event). Serves old e (Err refusal) new) (sym is)
      (subst (λ (r : Refusal). Serves old asked (Err r) new) ended.0
      (subst (λ (s : Store D N S d n). Serves old asked (Err named) s) (sym rest) served.1))

  answered : (old new : Store D N S d n) (event asked : Event) (answer : Answer) → event ≡ asked → Serves old asked (Ok answer) new
      → Serves old event (Ok answer) new
  answered old new event asked answer is serves = subst (λ (e : Event). Serves old e (Ok answer) new) (sym is) serves

  -- a table
  closes : (old new : Store D N S d n) (restore : SessionName) (calls : List Call) (file : FileId) (found : Option (List ℕ))
      → AreServed old calls new → Follows (one_call (E.CloseRead restore)) calls → EndRefused (R.Damaged file found) calls → IsNamed new file
  closes old new restore [] file found served follows ended = absurd ended
  closes old new restore ((asked, Ok answer) ∷ calls) file found served follows ended =
      absurd (none_follows (R.Damaged file found) calls
      (follows_behind (one_call (E.CloseRead restore)) (asked, Ok answer) [] calls follows.1) ended)
  closes old new restore ((asked, Err named) ∷ calls) file found served follows ended =
      let is : E.CloseRead restore ≡ asked = cc (follows.0) in
      inl (damaged_file old new (E.CloseRead restore) file found tt
      (one_refused old new (E.CloseRead restore) asked named (R.Damaged file found) calls is ended served))

  -- behind a frame
  goes_on : (old new : Store D N S d n) (restore : SessionName) (asked : Event) (frame : Frame) → IsReadAt old.parts restore
      → Serves old asked (Ok (A.Next frame)) new → Some (E.ReadNext restore) ≡ Some asked → IsReadAt new.parts restore
  goes_on old new restore asked frame read serves asks =
      let is : E.ReadNext restore ≡ asked = cc (asks) in
      read_on old new restore (A.Next frame) (answered old new (E.ReadNext restore) asked (A.Next frame) is serves) read

  reads : (old new : Store D N S d n) (restore : SessionName) (calls : List Call) (file : FileId) (found : Option (List ℕ))
      → IsReadAt old.parts restore → AreServed old calls new → Follows (read_script restore) calls
      → EndRefused (R.Damaged file found) calls → IsNamed new file
  reads old new restore [] file found read served follows ended = absurd ended
  reads old new restore ((asked, Err named) ∷ calls) file found read served follows ended =
      let is : E.ReadNext restore ≡ asked = cc (follows.0) in
      inr (read_damaged old new restore file found
      (one_refused old new (E.ReadNext restore) asked named (R.Damaged file found) calls is ended served) read)
  reads old new restore ((asked, Ok (A.Next (T.Deleted path))) ∷ calls) file found read served follows ended =
      reads served.0 new restore calls file found (goes_on old served.0 restore asked (T.Deleted path) read served.1 follows.0) served.2
      (follows_behind (read_script restore) (asked, Ok (A.Next (T.Deleted path))) [] calls follows.1) ended
  reads old new restore ((asked, Ok (A.Next (T.Entry path node))) ∷ calls) file found read served follows ended =
      reads served.0 new restore calls file found (goes_on old served.0 restore asked (T.Entry path node) read served.1 follows.0) served.2
      (follows_behind (read_script restore) (asked, Ok (A.Next (T.Entry path node))) [] calls follows.1) ended
  reads old new restore ((asked, Ok (A.Next (T.Piece bytes))) ∷ calls) file found read served follows ended =
      reads served.0 new restore calls file found (goes_on old served.0 restore asked (T.Piece bytes) read served.1 follows.0) served.2
      (follows_behind (read_script restore) (asked, Ok (A.Next (T.Piece bytes))) [] calls follows.1) ended
  reads old new restore ((asked, Ok (A.Next (T.End count))) ∷ calls) file found read served follows ended =
      closes served.0 new restore calls file found served.2
      (follows_behind (read_script restore) (asked, Ok (A.Next (T.End count))) [] calls follows.1) ended
  reads old new restore ((asked, Ok answer) ∷ calls) file found read served follows ended =
      absurd (none_follows (R.Damaged file found) calls
      (follows_behind (read_script restore) (asked, Ok answer) [] calls follows.1) ended)

  restores : (old new : Store D N S d n) (host : List ℕ) (number : ℕ) (calls : List Call) (file : FileId) (found : Option (List ℕ))
      → AreServed old calls new → Follows (restore_script host number) calls → EndRefused (R.Damaged file found) calls → IsNamed new file
  restores old new host number [] file found served follows ended = absurd ended
  restores old new host number ((asked, Err named) ∷ calls) file found served follows ended =
      let is : E.OpenRead host number None ≡ asked = cc (follows.0) in
      inl (damaged_file old new (E.OpenRead host number None) file found tt
      (one_refused old new (E.OpenRead host number None) asked named (R.Damaged file found) calls is ended served))
  restores old new host number ((asked, Ok (A.Restore restore)) ∷ calls) file found served follows ended =
      let is : E.OpenRead host number None ≡ asked = cc (follows.0) in
      reads served.0 new restore calls file found
      (read_opened old served.0 host number restore
      (answered old served.0 (E.OpenRead host number None) asked (A.Restore restore) is served.1))
      served.2 (follows_behind (restore_script host number) (asked, Ok (A.Restore restore)) [] calls follows.1) ended
  restores old new host number ((asked, Ok answer) ∷ calls) file found served follows ended =
      absurd (none_follows (R.Damaged file found) calls
      (follows_behind (restore_script host number) (asked, Ok answer) [] calls follows.1) ended)

  abbrev PortMoves : DirectPort D N S d n → List Call → DirectPort D N S d n → Type 0
  PortMoves p calls q = Moves p.store calls q.store

  by_stop : (port port' : DirectPort D N S d n) (host : List ℕ) (number : ℕ) (file : FileId) (found : Option (List ℕ))
      → Stopped PortMoves port port' host number (W.Refused (R.Damaged file found)) → IsNamed port'.store file
  by_stop port port' host number file found stopped =
      restores port.store port'.store host number stopped.calls file found stopped.moved.each stopped.stops.0 stopped.stops.1

  -- a restore names a file that the disk has damaged when it ends
  pub restore_names : (port port' : DirectPort D N S d n) (given given' : Option Tree) (host : List ℕ) (number : ℕ)
      (result : Result ℕ RestoreRefusal) (failed halted : Bool) (file : FileId)
      → Restores PortMoves port port' given given' host number result → note_of_restore result failed halted ≡ Said.Foreign file
      → IsNamed port'.store file
  restore_names port port' given given' host number result failed halted file made note_is =
      let named = named_by result failed halted file note_is in
      by_stop port port' host number file named.0
      (subst (Restores PortMoves port port' given given' host number) named.1 made)
