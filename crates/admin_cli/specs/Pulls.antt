-- What the program promises for its command `pull`.
--     note_of_pull      the note of a run that opened its store
--     HasPullCause      why a call at home of a store at work is refused
--     IsBehindWire      a link, and what was seen of a wire over it
--     DoesPull      the store was opened, and the pull's steps were made
use Rattle.std.specs.Prelude.{◌≡◌, ⊤, ℕ, ◌≤◌, Bool, true, List, [], ◌∷◌, length, Option, option_map}
use Rattle.fault_counts.specs.Counts.{Rose, Counted}
use Rattle.disk_trait.specs.declared.ids.FileId.{FileId}
use Rattle.disk_trait.specs.declared.disk.Disk.{Ghosts as DiskGhosts}
use Rattle.stream_traits.specs.Seen.{LinkSeen}
use Rattle.stream_traits.specs.Told.{before}
use Rattle.journal_view.specs.Found.{seen}
use Rattle.office_model.specs.Office.{Office, Durable, Names}
use Rattle.call_scripts.specs.Moments.{Gave}
use Rattle.settings_file.specs.declared.read.Settings.{Settings}
use Rattle.settings_file.specs.Document.{IsSettings}
use Rattle.pull_work.specs.declared.plan.Plan.{Plan}
use Rattle.pull_work.specs.declared.ends.PullEnd.{PullEnd}
use Rattle.pull_work.specs.declared.ends.PullEnd.TheVariants as E
use Rattle.pull_work.specs.Script.{Asking, Over}
use Rattle.pull_work.specs.Runs.{Goes}
use Rattle.serve_workers.specs.Stores.{IsDamagedFile}
use Rattle.command_line.specs.Line.{Line, Pull}
use Rattle.admin_cli.specs.declared.note.Note.{Note}
use Rattle.admin_cli.specs.declared.note.Note.TheVariants as N
use Rattle.admin_cli.specs.Command.{AsksFor}
use Rattle.admin_cli.specs.Folders.{note_of_rule, note_of_call, IsCauseAtWork}
use Rattle.admin_cli.specs.Replicated.{HearsPeer, IsRefusedBy, MakesReplica}
use Rattle.admin_cli.specs.Run.{StandsForEither, LeadsOnDisk}

abbrev pub note_of_pull : (host : List ℕ) → PullEnd → (halted : Bool) → Note
note_of_pull host (E.Done count) halted = note_of_rule (N.Pulled host count) halted
note_of_pull host (E.Refused refusal) halted = note_of_call refusal halted
note_of_pull host (E.PeerRefused status) halted = note_of_rule (N.PeerRefused status) halted
note_of_pull host E.PeerForeign halted = note_of_rule N.PeerForeign halted
note_of_pull host E.LinkFault halted = N.LinkFailed
note_of_pull host E.Memory halted = N.NoMemory

abbrev pub HasPullCause : PullEnd → (faults faults' : ℕ) → Type 0
HasPullCause (E.Refused refusal) faults faults' = IsCauseAtWork refusal faults faults'
HasPullCause end faults faults' = ⊤

-- what is seen of a link behind a wire over it, of which some bytes were read ahead
pub record IsBehindWire (wire link : LinkSeen) : Type 0 where
  pub ahead : List ℕ
  pub few : length ahead ≤ 49152
  pub left : wire.left ≡ before ahead link.left
  pub written : link.written ≡ wire.written
  pub sent : link.sent ≡ wire.sent
  pub faults : link.faults ≡ wire.faults

-- the backups of a host are pulled by the rules of these settings, from this moment on
abbrev pub plan_of : (host : List ℕ) → Settings → (start : ℕ) → Plan
plan_of host read start = record { host = host; rules = read.rules; start = start }

module _ {D : Type 0} (d : DiskGhosts D) (digest_of : List ℕ → List ℕ) where
  -- The words ask for `pull`, the store was opened, the clock was read once, and the pull's steps, which are the script of a pull from its
  -- beginning to its end, lead from the disk that came in to that handed back, and over the link as they say: on it stand the requests
  -- alone, and what was taken of its input are their responses. The link's count rose exactly if it failed. If these were another
  -- server's, the disk stands for a replica of the host's backups there, however far the pull came, and so does what a crash leaves. Over
  -- any disk a file is named only if it is one that the disk handed back has damaged.
  pub record DoesPull (disk disk' : D) (line : Option Line) (settings : List ℕ) (link link' : LinkSeen)
      (moments moments' : Option (List ℕ)) (note : Note) : Type 0 where
    pub host : List ℕ
    pub from : List ℕ
    pub asked : AsksFor (Pull host from) line
    pub read : Settings
    pub is_read : IsSettings settings read
    pub start : ℕ
    pub clock : Gave moments (start ∷ []) moments'
    pub end : PullEnd
    pub halted : Bool
    pub wire : LinkSeen
    pub goes : Goes (LeadsOnDisk d digest_of halted) (plan_of host read start) disk disk' link wire Asking (Over end)
    pub behind : IsBehindWire wire link'
    pub counted : Counted link.faults link'.faults (end ≡ E.LinkFault)
    pub cause : (a b : Durable) → StandsForEither d digest_of disk a b
        → HasPullCause end (d.fault_count disk) (d.fault_count disk')
        × (halted ≡ true → Rose (d.fault_count disk) (d.fault_count disk'))
    pub later : d.fault_count disk ≤ d.fault_count disk'
    pub foreign : (file : FileId) → note ≡ N.Foreign file → IsDamagedFile (option_map seen (d.files disk')) file
    pub stops : note ≡ N.DiskFailed → Rose (d.fault_count disk) (d.fault_count disk')
    pub replica : (a b : Durable) (first : Office) (names : Names) → StandsForEither d digest_of disk a b
        → (hears : HearsPeer link link' first names) → MakesReplica d digest_of disk disk' a b first.hosts host goes.turns hears.input end
    pub refused : (first : Office) (names : Names) (status : ℕ) → (hears : HearsPeer link link' first names) → end ≡ E.PeerRefused status
        → IsRefusedBy hears host goes.turns status
    pub note_is : note ≡ note_of_pull host end halted
