-- A run of a folder command, from what the layers below it say.
--     dumps_by, restores_by      what was dumped or restored, by what each end says
--     does_dump, does_restore
--     dump_complete, restore_complete      how such runs end
use Rattle.std.specs.Prelude.{⊤, ◌||◌, if◌then◌else◌, ◌⊎◌, is_some, Result, IfOk, IfErr, IsErrOf, length}
use Rattle.std.specs.Option.{ForSome}
use Rattle.std.proofs.Common.{◌≡◌, ℕ, ◌-◌, ◌^◌, ◌<◌, ◌≤◌, Bool, true, false, List, [], ◌++◌, Option, Some, Ok, Err, refl, sym, ap, ◌∙◌, subst, inl, inr, arith, append-nil}
use Rattle.fault_counts.specs.Counts.{Rose, Counted}
use Rattle.disk_trait.specs.declared.disk.Disk.{Ghosts as DiskGhosts}
use Rattle.pool_name.specs.declared.namer.Namer.{Ghosts as NamerGhosts}
use Rattle.attr_records.specs.Items.{Tree, is_dir}
use Rattle.attr_records.specs.Trees.{IsTree}
use Rattle.backup_rules.specs.declared.lines.Kind.{Kind}
use Rattle.pool_changes.specs.Kept.{slots_of}
use Rattle.pool_store.specs.Opening.{AreThePoolFiles}
use Rattle.office_model.specs.Office.{Office, Durable, Names, reopened}
use Rattle.office_model.specs.declared.refusal.Refusal.{Refusal}
use Rattle.office_model.specs.Step.{Call, State, Running}
use Rattle.office_model.specs.History.{Leads, calls_of}
use Rattle.store_opening.specs.Opens.{IsOf, Opened}
use Rattle.store_opening.specs.Reopens.{first_of, second_of}
use Rattle.store_opening.specs.Settles.{ComesToOne}
use Rattle.store_opening.specs.KeptTables.{HasTablesFound}
use Rattle.journal_view.specs.View.{told, FindsNow}
use Rattle.serve_workers.specs.Stores.{Store, DirectPort, Moves, IsDamagedFile, IsDamagedRead, is_stopped}
use Rattle.stream_traits.specs.Seen.{LinkSeen}
use Rattle.call_scripts.specs.Scripts.{EndRefused}
use Rattle.folder_trait.specs.declared.folder.Folder.{Ghosts as FolderGhosts}
use Rattle.folder_trait.specs.Folders.{IsEmptiness}
use Rattle.folder_laws.specs.DumpLaws.{Committed}
use Rattle.folder_laws.specs.ShownLaws.{dump_shows}
use Rattle.folder_walk.specs.declared.refusals.DumpRefusal.{DumpRefusal}
use Rattle.folder_walk.specs.declared.refusals.DumpRefusal.TheVariants as P
use Rattle.folder_walk.specs.Causes.{IsDumpCause}
use Rattle.folder_walk.specs.Dumps.{Dumped, Stopped as DumpStopped}
use Rattle.folder_walk.specs.ShownLaws.{is_dump}
use Rattle.folder_restore.specs.declared.refusals.RestoreRefusal.{RestoreRefusal}
use Rattle.folder_restore.specs.declared.refusals.RestoreRefusal.TheVariants as F
use Rattle.folder_restore.specs.Restores.{Restored, Stopped as RestoreStopped, IsUncalled}
use Rattle.folder_restore.specs.ShownLaws.{restored_tree}
use Rattle.settings_file.specs.declared.read.Settings.{Settings}
use Rattle.settings_file.specs.Document.{IsSettings}
use Rattle.command_line.specs.Line.{Line, DumpFolder, RestoreFolder}
use Rattle.admin_cli.specs.declared.note.Note.{Note}
use Rattle.admin_cli.specs.declared.note.Note.TheVariants as N
use Rattle.admin_cli.specs.Command.{AsksFor}
use Rattle.admin_cli.specs.FolderTexts.{text_of_dump, text_of_restore}
use Rattle.admin_cli.specs.Nights.{Says}
use Rattle.admin_cli.specs.Run.{StandsForEither, IsServed, LeadsOnDisk, IsComplete}
use Rattle.admin_cli.specs.Folders.{note_of_dump, note_of_restore, IsCauseAtWork, HasDumpCause, HasRestoreCause, Dumps, Restores, HoldsBackup, GivesBackup, DumpsFolder, RestoresFolder}
use Rattle.admin_cli.proofs.DumpForeign.{dump_names}
use Rattle.admin_cli.proofs.ReadForeign.{restore_names}
use Rattle.admin_cli.proofs.EndLaws.{rule_ends, call_ends, all_ends, said_rose}
use Rattle.admin_cli.proofs.FolderStops.{refused_at_work, wider}
use Rattle.admin_cli.proofs.RefusalLaws.{file_of}
use Rattle.admin_cli.proofs.CauseLaws.{dump_fails, restore_fails}
use Rattle.admin_cli.proofs.RunLaws.{leads, EndsWell}

-- ---- by how it ended

pub dumps_by : {P : Type 0} (moves : P → List Call → P → Type 0) (old new : P) (told : Option Tree) (moments moments' : Option (List ℕ)) (kind : Kind)
    (host : List ℕ) (result : Result ℕ DumpRefusal) → IfOk result (Dumped moves old new told moments moments' kind host)
    → IfErr result (DumpStopped moves old new told moments moments' kind host) → Dumps moves old new told moments moments' kind host result
dumps_by moves old new told moments moments' kind host (Ok number) ok err = ok
dumps_by moves old new told moments moments' kind host (Err fault) ok err = err

pub restores_by : {P : Type 0} (moves : P → List Call → P → Type 0) (old new : P) (told told' : Option Tree) (host : List ℕ) (number : ℕ)
    (result : Result ℕ RestoreRefusal) → IfOk result (Restored moves old new told told' host number)
    → IfErr result (RestoreStopped moves old new host number) → Restores moves old new told told' host number result
restores_by moves old new told told' host number (Ok entries) ok err = ok
restores_by moves old new told told' host number (Err fault) ok err = err

-- ---- over other moves

module _ {P Q : Type 0} (moves : P → List Call → P → Type 0) (others : Q → List Call → Q → Type 0) (old new : P) (old' new' : Q)
    (move : (calls : List Call) → moves old calls new → others old' calls new') where
  dumps_over : (told : Option Tree) (moments moments' : Option (List ℕ)) (kind : Kind) (host : List ℕ) (result : Result ℕ DumpRefusal)
      → Dumps moves old new told moments moments' kind host result → Dumps others old' new' told moments moments' kind host result
  dumps_over told moments moments' kind host (Ok number) is = record {
    now = is.now;
    later = is.later;
    calls = is.calls;
    clock = is.clock;
    moved = move is.calls is.moved;
    answered = is.answered;
    of_dump = is.of_dump;
    whole = is.whole;
  }
  dumps_over told moments moments' kind host (Err fault) is = record {
    now = is.now;
    later = is.later;
    calls = is.calls;
    aborts = is.aborts;
    clock = is.clock;
    moved = move (is.calls ++ is.aborts) is.moved;
    so = is.so;
    of_dump = is.of_dump;
    aborted = is.aborted;
    begins = is.begins;
  }

  restores_over : (told told' : Option Tree) (host : List ℕ) (number : ℕ) (result : Result ℕ RestoreRefusal)
      → Restores moves old new told told' host number result → Restores others old' new' told told' host number result
  restores_over told told' host number (Ok entries) is = record {
    calls = is.calls;
    moved = move is.calls is.moved;
    follows = is.follows;
    answered = is.answered;
    restore = is.restore;
    list = is.list;
    plain = is.plain;
    calls_are = is.calls_are;
    whole = is.whole;
  }
  restores_over told told' host number (Err fault) is = record { calls = is.calls; moved = move is.calls is.moved; stops = is.stops }

-- ---- what is shown

module _ {D : Type 0} (d : DiskGhosts D) (digest_of : List ℕ → List ℕ) (disk disk' : D) (halted : Bool) where
  holds : (host : List ℕ) (number : ℕ) (tree : Tree) (last : State) → Committed host number tree last
      → StandsForEither d digest_of disk' (first_of last) (second_of last) → HoldsBackup d digest_of disk' host number tree
  holds host number tree last made stands = record {
    office = made.office;
    stands = subst (λ (state : State). StandsForEither d digest_of disk' (first_of state) (second_of state)) made.is stands;
    shows = made.shows;
  }

  dump_holds : (told : Option Tree) (moments moments' : Option (List ℕ)) (kind : Kind) (host : List ℕ) (number : ℕ) (tree : Tree) (a b : Durable)
      → IsTree is_dir tree → told ≡ Some tree → StandsForEither d digest_of disk a b
      → Dumped (LeadsOnDisk d digest_of halted) disk disk' told moments moments' kind host number → HoldsBackup d digest_of disk' host number tree
  dump_holds told moments moments' kind host number tree a b is_tree is stands dumped =
      let served : IsServed d digest_of disk disk' dumped.calls halted a b = dumped.moved.served a b stands in
      let made = is_dump kind tree host dumped.now dumped.later number dumped.calls (reopened served.office) served.names served.opening
      served.last (d.fault_count disk') served.history (dumped.whole tree is is_tree) in
      holds host number tree served.last
      (dump_shows host made.moment made.dump number tree made.puts made.are_puts served.last (d.fault_count disk') is_tree kind dumped.now made.base
      (reopened served.office) served.names served.opening served.sound.office made.is_base
      (subst (λ calls. Leads (Running (reopened served.office) served.names) served.opening calls served.last (d.fault_count disk')) made.calls_are
      served.history))
      served.left

  dumps_hold : (told : Option Tree) (moments moments' : Option (List ℕ)) (kind : Kind) (host : List ℕ) (result : Result ℕ DumpRefusal)
      (number : ℕ) (tree : Tree) (a b : Durable) → result ≡ Ok number → IsTree is_dir tree → told ≡ Some tree
      → StandsForEither d digest_of disk a b → Dumps (LeadsOnDisk d digest_of halted) disk disk' told moments moments' kind host result
      → HoldsBackup d digest_of disk' host number tree
  dumps_hold told moments moments' kind host result number tree a b ok is_tree is stands dumped =
      dump_holds told moments moments' kind host number tree a b is_tree is stands
      (subst (Dumps (LeadsOnDisk d digest_of halted) disk disk' told moments moments' kind host) ok dumped)

  gives : (told told' : Option Tree) (host : List ℕ) (number entries : ℕ) (a b : Durable) → is_some told ≡ true
      → StandsForEither d digest_of disk a b → Restored (LeadsOnDisk d digest_of halted) disk disk' told told' host number entries
      → GivesBackup d digest_of disk a b host number entries told'
  gives told told' host number entries a b telling stands made =
      let served : IsServed d digest_of disk disk' made.calls halted a b = made.moved.served a b stands in
      let shown = restored_tree (λ (p : D) calls (q : D). calls ≡ made.calls) disk disk' told told' host number entries
      (reopened served.office) served.names served.opening served.last (d.fault_count disk')
      (λ calls is. subst (λ c. Leads (Running (reopened served.office) served.names) served.opening c served.last (d.fault_count disk')) (sym is)
      served.history)
      served.sound.office telling
      (record {
        calls = made.calls;
        moved = refl;
        follows = made.follows;
        answered = made.answered;
        restore = made.restore;
        list = made.list;
        plain = made.plain;
        calls_are = made.calls_are;
        whole = made.whole;
      }) in
      record {
        office = served.office;
        is_one = served.is_one;
        backup = shown.0;
        found = shown.1;
        told = shown.2;
        entries_are = shown.3;
      }

  restores_give : (told told' : Option Tree) (host : List ℕ) (number : ℕ) (result : Result ℕ RestoreRefusal) (entries : ℕ) (a b : Durable)
      → result ≡ Ok entries → is_some told ≡ true → StandsForEither d digest_of disk a b
      → Restores (LeadsOnDisk d digest_of halted) disk disk' told told' host number result
      → GivesBackup d digest_of disk a b host number entries told'
  restores_give told told' host number result entries a b ok telling stands made =
      gives told told' host number entries a b telling stands
      (subst (Restores (LeadsOnDisk d digest_of halted) disk disk' told told' host number) ok made)

  -- ---- why they stop

  refused_by : (calls more : List Call) (refusal : Refusal) (a b : Durable) → EndRefused refusal calls
      → IsServed d digest_of disk disk' (calls ++ more) halted a b → IsCauseAtWork refusal (d.fault_count disk) (d.fault_count disk')
  refused_by calls more refusal a b ended served =
      subst (λ (k : ℕ). IsCauseAtWork refusal (d.fault_count disk) k) (sym served.history.faults_is)
      (wider refusal (d.fault_count disk) served.opening _ _ served.since (omega arith)
      (refused_at_work (reopened served.office) served.names served.opening served.history.entries calls more refusal served.history.legal
      (sym served.history.calls_are) ended))

  dump_cause : (told : Option Tree) (moments moments' : Option (List ℕ)) (kind : Kind) (host : List ℕ) (result : Result ℕ DumpRefusal)
      (a b : Durable) → StandsForEither d digest_of disk a b
      → Dumps (LeadsOnDisk d digest_of halted) disk disk' told moments moments' kind host result
      → HasDumpCause result (d.fault_count disk) (d.fault_count disk') × (halted ≡ true → Rose (d.fault_count disk) (d.fault_count disk'))
  dump_cause told moments moments' kind host (Ok number) a b stands is = (tt, (is.moved.served a b stands).rose)
  dump_cause told moments moments' kind host (Err (P.Refused refusal)) a b stands is =
      (refused_by is.calls is.aborts refusal a b is.so (is.moved.served a b stands), (is.moved.served a b stands).rose)
  dump_cause told moments moments' kind host (Err (P.BadPath rule)) a b stands is = (tt, (is.moved.served a b stands).rose)
  dump_cause told moments moments' kind host (Err P.BadTarget) a b stands is = (tt, (is.moved.served a b stands).rose)
  dump_cause told moments moments' kind host (Err P.FileTooLarge) a b stands is = (tt, (is.moved.served a b stands).rose)
  dump_cause told moments moments' kind host (Err P.Folder) a b stands is = (tt, (is.moved.served a b stands).rose)
  dump_cause told moments moments' kind host (Err P.Memory) a b stands is = (tt, (is.moved.served a b stands).rose)

  restore_cause : (told told' : Option Tree) (host : List ℕ) (number : ℕ) (result : Result ℕ RestoreRefusal) (a b : Durable)
      → StandsForEither d digest_of disk a b → Restores (LeadsOnDisk d digest_of halted) disk disk' told told' host number result
      → HasRestoreCause result (d.fault_count disk) (d.fault_count disk') × (halted ≡ true → Rose (d.fault_count disk) (d.fault_count disk'))
  restore_cause told told' host number (Ok entries) a b stands is = (tt, (is.moved.served a b stands).rose)
  restore_cause told told' host number (Err (F.Refused refusal)) a b stands is = (
    refused_by is.calls [] refusal a b is.stops.1
        (subst (λ calls. IsServed d digest_of disk disk' calls halted a b) (sym (append-nil is.calls)) (is.moved.served a b stands)),
    (is.moved.served a b stands).rose,
  )
  restore_cause told told' host number (Err F.NotEmpty) a b stands is = (tt, (is.moved.served a b stands).rose)
  restore_cause told told' host number (Err F.Folder) a b stands is = (tt, (is.moved.served a b stands).rose)
  restore_cause told told' host number (Err F.Memory) a b stands is = (tt, (is.moved.served a b stands).rose)

-- ---- a run that opened its store

module _ {D N S : Type 0} {d : DiskGhosts D} {n : NamerGhosts N S} (disk : D) (store store' : Store D N S d n)
    (settles : (a b : Durable) → IsOf n.digest_of (d.files disk) (d.uncertain disk) a b
    → (o : Opened a b store.parts) × ComesToOne d n.digest_of disk store.parts.journal.disk a b o.office
    × FindsNow store.parts.journal (HasTablesFound (d.files disk) (d.uncertain disk)))
    (calm : d.fault_count store.parts.journal.disk ≡ d.fault_count disk)
    (listed : AreThePoolFiles (d.files disk) (slots_of store.parts.pool.names))
    (ready : is_stopped store.parts ≡ false) where
  abbrev PortMoves : DirectPort D N S d n → List Call → DirectPort D N S d n → Type 0
  PortMoves p calls q = Moves p.store calls q.store

  -- the calls of a port over the store lead from disk to disk
  over : (port port' : DirectPort D N S d n) → port.store ≡ store → store' ≡ port'.store → (calls : List Call) → PortMoves port calls port'
      → LeadsOnDisk d n.digest_of (store'.parts.halted || store'.parts.journal.halted) disk calls store'.parts.journal.disk
  over port port' port_is store_is calls moved =
      leads disk store store' settles calm listed ready calls
      (subst (λ q. Moves store calls q) (sym store_is) (subst (λ p. Moves p calls port'.store) port_is moved))

  dump_later : (port port' : DirectPort D N S d n) (told : Option Tree) (moments moments' : Option (List ℕ)) (kind : Kind) (host : List ℕ)
      (result : Result ℕ DumpRefusal) → port.store ≡ store → store' ≡ port'.store
      → Dumps PortMoves port port' told moments moments' kind host result → d.fault_count disk ≤ d.fault_count store'.parts.journal.disk
  dump_later port port' told moments moments' kind host (Ok number) port_is store_is is =
      let moved : Moves store is.calls store' =
      subst (λ q. Moves store is.calls q) (sym store_is) (subst (λ p. Moves p is.calls port'.store) port_is is.moved) in
      omega (arith, calm, moved.later)
  dump_later port port' told moments moments' kind host (Err fault) port_is store_is is =
      let moved : Moves store (is.calls ++ is.aborts) store' =
      subst (λ q. Moves store (is.calls ++ is.aborts) q) (sym store_is)
      (subst (λ p. Moves p (is.calls ++ is.aborts) port'.store) port_is is.moved) in
      omega (arith, calm, moved.later)

  restore_later : (port port' : DirectPort D N S d n) (told told' : Option Tree) (host : List ℕ) (number : ℕ)
      (result : Result ℕ RestoreRefusal) → port.store ≡ store → store' ≡ port'.store
      → Restores PortMoves port port' told told' host number result → d.fault_count disk ≤ d.fault_count store'.parts.journal.disk
  restore_later port port' told told' host number (Ok entries) port_is store_is is =
      let moved : Moves store is.calls store' =
      subst (λ q. Moves store is.calls q) (sym store_is) (subst (λ p. Moves p is.calls port'.store) port_is is.moved) in
      omega (arith, calm, moved.later)
  restore_later port port' told told' host number (Err fault) port_is store_is is =
      let moved : Moves store is.calls store' =
      subst (λ q. Moves store is.calls q) (sym store_is) (subst (λ p. Moves p is.calls port'.store) port_is is.moved) in
      omega (arith, calm, moved.later)

  module _ {G : Type 0} (f : FolderGhosts G) (line : Option Line) (settings host path : List ℕ) (read : Settings) (folder folder' : G)
      (port port' : DirectPort D N S d n) (link link' : LinkSeen) (moments moments' : Option (List ℕ)) (disk' : D) (failed halted : Bool)
      (note : Note) (is_tree : (one : G) (all : Tree) → f.tree one ≡ Some all → IsTree is_dir all) (is_read : IsSettings settings read) (port_is : port.store ≡ store) (store_is : store' ≡ port'.store)
      (disk_is : disk' ≡ store'.parts.journal.disk) (halted_is : halted ≡ (store'.parts.halted || store'.parts.journal.halted)) where
    pub does_dump : (kind : Kind) (result : Result ℕ DumpRefusal) → AsksFor (DumpFolder host kind path) line
        → Dumps PortMoves port port' (f.tree folder) moments moments' kind host result → IfErr result (IsDumpCause (f.tree folder))
        → f.tree folder' ≡ f.tree folder → Counted (f.fault_count folder) (f.fault_count folder') (IsErrOf result P.Folder)
        → Says (text_of_dump host result) link link' failed → note ≡ note_of_dump result failed halted
        → DumpsFolder d n.digest_of f disk disk' line settings link link' moments moments' folder folder' note
    does_dump kind result asked made why same counted says note_is =
        let halted' : Bool = store'.parts.halted || store'.parts.journal.halted in
        let dumps : Dumps (LeadsOnDisk d n.digest_of halted') disk store'.parts.journal.disk (f.tree folder) moments moments' kind host result =
        dumps_over PortMoves (LeadsOnDisk d n.digest_of halted') port port' disk store'.parts.journal.disk (over port port' port_is store_is)
        (f.tree folder) moments moments' kind host result made in
        rw (note_is, disk_is, halted_is) (record {
          host = host;
          kind = kind;
          path = path;
          asked = asked;
          read = file_of settings read is_read;
          result = result;
          failed = failed;
          halted = halted';
          dumps = dumps;
          shows = λ number tree a b ok is stands.
              dumps_hold d n.digest_of disk store'.parts.journal.disk halted' (f.tree folder) moments moments' kind host result number tree a b ok
              (is_tree folder tree is) is stands dumps;
          why = why;
          same = same;
          counted = counted;
          says = says;
          cause = λ a b stands.
              dump_cause d n.digest_of disk store'.parts.journal.disk halted' (f.tree folder) moments moments' kind host result a b stands dumps;
          later = dump_later port port' (f.tree folder) moments moments' kind host result port_is store_is made;
          foreign = λ file named.
              subst (λ (s : Store D N S d n). IsDamagedFile (told s.parts.journal) file) (sym store_is)
              (dump_names port port' (f.tree folder) moments moments' kind host result failed halted' file made named);
          stops = λ is.
              dump_fails d n.digest_of disk store'.parts.journal.disk halted' (f.tree folder) moments moments' kind host result failed dumps is;
          note_is = refl;
        })

    pub does_restore : (number : ℕ) (result : Result ℕ RestoreRefusal) → AsksFor (RestoreFolder host number path) line
        → Restores PortMoves port port' (f.tree folder) (f.tree folder') host number result
        → (IsErrOf result F.NotEmpty → ForSome (f.tree folder) (λ all. IsEmptiness all false) × (f.tree folder' ≡ f.tree folder))
        → ForSome (f.tree folder) (λ all. IsEmptiness all false → (port' ≡ port) × IsUncalled result)
        → Counted (f.fault_count folder) (f.fault_count folder') (IsErrOf result F.Folder)
        → Says (text_of_restore host number result) link link' failed → note ≡ note_of_restore result failed halted
        → RestoresFolder d n.digest_of f disk disk' line settings link link' moments moments folder folder' note
    does_restore number result asked made not_empty looked_at counted says note_is =
        let halted' : Bool = store'.parts.halted || store'.parts.journal.halted in
        let restores : Restores (LeadsOnDisk d n.digest_of halted') disk store'.parts.journal.disk (f.tree folder) (f.tree folder') host number result =
        restores_over PortMoves (LeadsOnDisk d n.digest_of halted') port port' disk store'.parts.journal.disk (over port port' port_is store_is)
        (f.tree folder) (f.tree folder') host number result made in
        rw (note_is, disk_is, halted_is) (record {
          host = host;
          number = number;
          path = path;
          asked = asked;
          read = file_of settings read is_read;
          result = result;
          failed = failed;
          halted = halted';
          restores = restores;
          shows = λ entries a b ok telling stands.
              restores_give d n.digest_of disk store'.parts.journal.disk halted' (f.tree folder) (f.tree folder') host number result entries a b ok
              telling stands restores;
          not_empty = not_empty;
          looked_at = λ all is bare. (looked_at all is bare).1;
          counted = counted;
          says = says;
          cause = λ a b stands.
              restore_cause d n.digest_of disk store'.parts.journal.disk halted' (f.tree folder) (f.tree folder') host number result a b stands
              restores;
          later = restore_later port port' (f.tree folder) (f.tree folder') host number result port_is store_is made;
          foreign = λ file named.
              subst (λ (s : Store D N S d n). IsDamagedRead n.digest_of (told s.parts.journal) file) (sym store_is)
              (restore_names port port' (f.tree folder) (f.tree folder') host number result failed halted' file made named);
          stops = λ is.
              restore_fails d n.digest_of disk store'.parts.journal.disk halted' (f.tree folder) (f.tree folder') host number result failed
              restores is;
          unasked = refl;
          note_is = refl;
        })

-- ---- how it ends

module _ {D G : Type 0} (d : DiskGhosts D) (f : FolderGhosts G) (digest_of : List ℕ → List ℕ) (disk disk' : D) (linked linked' : ℕ)
    (folder folder' : G) (note : Note) (a b : Durable) (m : d.fault_count disk < 2 ^ 64 - 1) (same : d.fault_count disk' ≡ d.fault_count disk)
    (l : linked < 2 ^ 64 - 1) (same_link : linked' ≡ linked) (g : f.fault_count folder < 2 ^ 64 - 1)
    (same_folder : f.fault_count folder' ≡ f.fault_count folder) where
  abbrev Ends : Note → Type 0
  Ends said = EndsWell d digest_of disk disk' linked linked' note said a b

  dump_ends : (host : List ℕ) (result : Result ℕ DumpRefusal) (link link' : LinkSeen) (failed halted : Bool)
      → link.faults ≡ linked → link'.faults ≡ linked' → Says (text_of_dump host result) link link' failed
      → HasDumpCause result (d.fault_count disk) (d.fault_count disk') → (halted ≡ true → Rose (d.fault_count disk) (d.fault_count disk'))
      → Counted (f.fault_count folder) (f.fault_count folder') (IsErrOf result P.Folder) → Ends (note_of_dump result failed halted)
  dump_ends host (Ok number) link link' failed halted is is' says cause stopped counted =
      all_ends d digest_of disk disk' linked linked' note a b m same l same_link failed halted
      (said_rose d digest_of disk disk' linked linked' note a b m same l same_link (text_of_dump host (Ok number)) link link' failed is is' says) stopped
  dump_ends host (Err (P.Refused refusal)) link link' failed halted is is' says cause stopped counted =
      call_ends d digest_of disk disk' linked linked' note a b m same l same_link refusal halted cause stopped
  dump_ends host (Err (P.BadPath rule)) link link' failed halted is is' says cause stopped counted =
      rule_ends d digest_of disk disk' linked linked' note a b m same l same_link N.BadPath halted (inr (inl refl)) stopped
  dump_ends host (Err P.BadTarget) link link' failed halted is is' says cause stopped counted =
      rule_ends d digest_of disk disk' linked linked' note a b m same l same_link N.BadTarget halted (inr (inl refl)) stopped
  dump_ends host (Err P.FileTooLarge) link link' failed halted is is' says cause stopped counted =
      rule_ends d digest_of disk disk' linked linked' note a b m same l same_link N.FileTooLarge halted (inr (inl refl)) stopped
  dump_ends host (Err P.Folder) link link' failed halted is is' says cause stopped counted =
      let rose : Rose (f.fault_count folder) (f.fault_count folder') = counted.rose refl in absurd (omega (arith, rose, g, same_folder))
  dump_ends host (Err P.Memory) link link' failed halted is is' says cause stopped counted = inr (inr (inl refl))

  restore_ends : (host : List ℕ) (number : ℕ) (result : Result ℕ RestoreRefusal) (link link' : LinkSeen) (failed halted : Bool)
      → link.faults ≡ linked → link'.faults ≡ linked' → Says (text_of_restore host number result) link link' failed
      → HasRestoreCause result (d.fault_count disk) (d.fault_count disk') → (halted ≡ true → Rose (d.fault_count disk) (d.fault_count disk'))
      → Counted (f.fault_count folder) (f.fault_count folder') (IsErrOf result F.Folder) → Ends (note_of_restore result failed halted)
  restore_ends host number (Ok entries) link link' failed halted is is' says cause stopped counted =
      all_ends d digest_of disk disk' linked linked' note a b m same l same_link failed halted
      (said_rose d digest_of disk disk' linked linked' note a b m same l same_link (text_of_restore host number (Ok entries)) link link' failed is is' says) stopped
  restore_ends host number (Err (F.Refused refusal)) link link' failed halted is is' says cause stopped counted =
      call_ends d digest_of disk disk' linked linked' note a b m same l same_link refusal halted cause stopped
  restore_ends host number (Err F.NotEmpty) link link' failed halted is is' says cause stopped counted =
      rule_ends d digest_of disk disk' linked linked' note a b m same l same_link N.FolderNotEmpty halted (inr (inl refl)) stopped
  restore_ends host number (Err F.Folder) link link' failed halted is is' says cause stopped counted =
      let rose : Rose (f.fault_count folder) (f.fault_count folder') = counted.rose refl in absurd (omega (arith, rose, g, same_folder))
  restore_ends host number (Err F.Memory) link link' failed halted is is' says cause stopped counted = inr (inr (inl refl))

module _ {D G : Type 0} (d : DiskGhosts D) (f : FolderGhosts G) (digest_of : List ℕ → List ℕ) (disk disk' : D) (linked linked' : ℕ)
    (doors doors' : List ℕ) (folder folder' : G) (note : Note) (line : Option Line) (settings : List ℕ) (link link' : LinkSeen)
    (moments moments' : Option (List ℕ)) (is : link.faults ≡ linked) (is' : link'.faults ≡ linked') where
  abbrev Completes : Type 0
  Completes =
      IsComplete d digest_of disk disk' line settings linked linked' doors doors' (f.fault_count folder) (f.fault_count folder') note

  pub dump_complete : DumpsFolder d digest_of f disk disk' line settings link link' moments moments' folder folder' note → Completes
  dump_complete s = λ a b stands said file m same l same_link calm g same_folder.
      subst (λ (told : Note). EndsWell d digest_of disk disk' linked linked' note told a b) (sym s.note_is)
      (dump_ends d f digest_of disk disk' linked linked' folder folder' note a b m same l same_link g same_folder s.host s.result link link'
      s.failed s.halted is is' s.says (s.cause a b stands).0 (s.cause a b stands).1 s.counted)

  pub restore_complete : RestoresFolder d digest_of f disk disk' line settings link link' moments moments' folder folder' note → Completes
  restore_complete s = λ a b stands said file m same l same_link calm g same_folder.
      subst (λ (told : Note). EndsWell d digest_of disk disk' linked linked' note told a b) (sym s.note_is)
      (restore_ends d f digest_of disk disk' linked linked' folder folder' note a b m same l same_link g same_folder s.host s.number s.result
      link link' s.failed s.halted is is' s.says (s.cause a b stands).0 (s.cause a b stands).1 s.counted)
