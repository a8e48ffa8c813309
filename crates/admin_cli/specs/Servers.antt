-- What the program promises for its command `serve`.
--     counts_of, has_risen      the doors' counts of faults, and whether one of them rose
--     note_of_served      the note of a run whose workers served
--     ServesDoors, ServesNobody      all workers served the store; there was no memory, and none did
use Rattle.std.specs.Prelude.{◌≡◌, ℕ, ◌≤◌, Bool, false, ◌||◌, nat_lt, if◌then◌else◌, List, [], ◌∷◌, Option, length, map, ◌⊎◌}
use Rattle.disk_trait.specs.declared.disk.Disk.{Ghosts as DiskGhosts}
use Rattle.stream_traits.specs.declared.link.Faults.{Ghosts}
use Rattle.office_model.specs.declared.event.Event.{Event}
use Rattle.office_model.specs.Meaning.{Reply}
use Rattle.turn_lock.specs.declared.object.Entry.{Entry}
use Rattle.turn_lock.specs.History.{calls_by}
use Rattle.serve_workers.specs.Stores.{calls_in}
use Rattle.door_server.specs.declared.worker.Worker.{Worker}
use Rattle.serve_workers.specs.Workers.{is_worker, ServeEach}
use Rattle.settings_file.specs.declared.read.Settings.{Settings}
use Rattle.settings_file.specs.Document.{IsSettings}
use Rattle.admin_cli.specs.declared.note.Note.{Note}
use Rattle.admin_cli.specs.declared.note.Note.TheVariants.{Nothing, DoorFailed, DiskFailed, NoMemory}
use Rattle.command_line.specs.Line.{Line, Serve}
use Rattle.admin_cli.specs.Command.{AsksFor}
use Rattle.admin_cli.specs.Asked.{defaults_of}
use Rattle.admin_cli.specs.Run.{LeadsOnDisk}

-- one of the counts is larger than it was
abbrev pub has_risen : List ℕ → List ℕ → Bool
has_risen [] now = false
has_risen (count ∷ before) [] = false
has_risen (count ∷ before) (count' ∷ now) = nat_lt count count' || has_risen before now

-- what is said if nothing failed but a door or the disk: the doors' faults first, then a halted store
abbrev pub note_of_served : (failed halted : Bool) → Note
note_of_served failed halted = if failed then DoorFailed else (if halted then DiskFailed else Nothing)

-- the counts of faults of the workers' doors
abbrev pub counts_of : {T C G : Type 0} → (T → ℕ) → List (Worker T C G) → List ℕ
counts_of faults workers = map (λ worker. faults worker.door) workers

module _ {D : Type 0} (d : DiskGhosts D) (digest_of : List ℕ → List ℕ) {T C G L : Type 0} (l : Ghosts L)
    (coming given_back : T → Option (List L)) (faults : T → ℕ) (moments_of : C → Option (List ℕ)) where
  -- The words ask for `serve`, the store was opened, and all workers served it by the settings that were read: one history of all
  -- calls leads from the disk that came in to that handed back. In it the entries of each worker's number are, link by link in order,
  -- the calls of talks at its door, which it left when that was closed or failed; and it has no others.
  pub record ServesDoors (disk disk' : D) (line : Option Line) (settings : List ℕ) (before after : List (Worker T C G)) (note : Note) : Type 0 where
    pub listen : List ℕ
    pub connections : Option ℕ
    pub asked : AsksFor (Serve listen connections) line
    pub read : Settings
    pub is_read : IsSettings settings read
    pub halted : Bool
    pub log : List (Entry Event Reply)
    pub moved : LeadsOnDisk d digest_of halted disk (calls_in log) disk'
    pub each : ServeEach (defaults_of read) l coming given_back faults moments_of log 0 before after
    pub only : (by : List ℕ) → is_worker (length before) by ≡ false → calls_by by log ≡ []
    pub later : d.fault_count disk ≤ d.fault_count disk'
    pub note_is : note ≡ note_of_served (has_risen (counts_of faults before) (counts_of faults after)) halted

  -- the words ask for `serve`, the settings were read and the store was opened, but there was no memory for the workers: none took a link
  pub record ServesNobody (disk disk' : D) (line : Option Line) (settings : List ℕ) (before after : List (Worker T C G)) (note : Note) : Type 0 where
    pub listen : List ℕ
    pub connections : Option ℕ
    pub asked : AsksFor (Serve listen connections) line
    pub read : Settings
    pub is_read : IsSettings settings read
    pub halted : Bool
    pub moved : LeadsOnDisk d digest_of halted disk [] disk'
    pub untouched : after ≡ before
    pub later : d.fault_count disk ≤ d.fault_count disk'
    pub note_is : note ≡ NoMemory

  abbrev pub ServesStore : (disk disk' : D) → Option Line → (settings : List ℕ) → (before after : List (Worker T C G)) → Note → Type 0
  ServesStore disk disk' line settings before after note =
      ServesDoors disk disk' line settings before after note ⊎ ServesNobody disk disk' line settings before after note
