-- How a pull stands between two turns: what of the calls at home and of the other server's history is behind it, and what it knows of both.
--     Course      a pull, and what is known of it from the first
--     Stands      what holds in a phase, with these steps still to come
use Rattle.std.specs.Prelude.{◌≡◌, ℕ, true, List, [], ◌∷◌, ◌++◌, length, Option, Some, Ok, slice_get}
use Rattle.backup_rules.specs.declared.lines.Line.{Line}
use Rattle.receipts.specs.declared.session.SessionName.{SessionName}
use Rattle.tree_frames.specs.declared.nodes.Frame.{Frame}
use Rattle.office_model.specs.declared.event.Event.TheVariants as E
use Rattle.office_model.specs.declared.answer.Answer.TheVariants as A
use Rattle.office_model.specs.Places.{AtEach}
use Rattle.office_model.specs.UsedNames.{Among, AreSound}
use Rattle.office_model.specs.Office.{Office, Host, Backup, Names, IsSound}
use Rattle.office_model.specs.Parts.{lines_of}
use Rattle.office_model.specs.Step.{Call, State, Running}
use Rattle.office_model.specs.History.{Entry, IsHistory, calls_of, Leads}
use Rattle.folder_laws.specs.Calls.{open_call}
use Rattle.frame_puts.specs.declared.laying.Laying.{Laying}
use Rattle.frame_puts.specs.declared.laying.Laying.TheVariants.{Nothing}
use Rattle.frame_puts.specs.Runs.{Lays, LaidSince}
use Rattle.restore_histories.specs.Given.{given_in, HaveNoEnd}
use Rattle.restore_histories.specs.Listed.{Shown, shown_of}
use Rattle.adopted_dumps.specs.Adopted.{shows_of, host_named, base_of, AdoptNone}
use Rattle.listing_back.specs.declared.listing.Listing.{Listing}
use Rattle.pull_work.specs.declared.plan.Plan.{Plan}
use Rattle.pull_work.specs.declared.ends.PullEnd.{PullEnd}
use Rattle.pull_work.specs.declared.ends.PullEnd.TheVariants.{Done}
use Rattle.pull_work.specs.Steps.{Step, calls_in}
use Rattle.pull_work.specs.Script.{Job, Intake, Phase, Asking, Adding, AskingAgain, Comparing, Bringing, Opening, Reading, Taking, Closing, Adopting, Aborting, Over, kind_for}
use Rattle.replicas.specs.Replicas.{heard_in, Marked, all_in, own_in, AreAlone, shown_in, IsReplica, wanted, OthersStay, BringsIn, BringsAll}
use Rattle.replicas.specs.FrameLaws.{AreParts}
use Rattle.replicas.specs.HomeLaws.{Alike, IsListed, IsBase}

-- a pull that leads home to a state, and the other server's history
pub record Course : Type 0 where
  pub plan : Plan
  pub home : Office
  pub first : Office
  pub there : Names
  pub last : State
  pub last_faults : ℕ
  pub there_faults : ℕ
  pub entries : List Entry
  pub marked : Marked
  pub sound_there : AreSound first there
  pub legal : IsHistory (Running first there) there_faults entries
  pub calls : all_in marked ≡ calls_of entries
  pub replica : IsReplica home.hosts first.hosts plan.host

abbrev pub wants : Course → List Shown
wants p = wanted p.home.hosts p.first.hosts p.plan.host

abbrev pub listing_call : List ℕ → Listing → Call
listing_call host there = (E.Backups host, Ok (A.Backups there.lines there.next there.dump))

abbrev pub opening_call : List ℕ → Job → SessionName → Call
opening_call host job restore = (E.OpenRead host job.line.number job.base, Ok (A.Restore restore))

-- ---- home

-- a sound office at work, from which these calls and those still to come lead on
pub record AtWork (p : Course) (block : List Call) (steps : List Step) : Type 0 where
  pub office : Office
  pub names : Names
  pub faults : ℕ
  pub sound : IsSound office
  pub leads : Leads (Running office names) faults (block ++ calls_in steps) p.last p.last_faults

-- nothing was heard yet, and what home shows of the host is what it showed
pub record Before (p : Course) (steps : List Step) : Type 0 where
  pub work : AtWork p [] steps
  pub alike : Alike p.home.hosts work.office.hosts p.plan.host
  pub own : own_in p.marked ≡ heard_in p.plan.host steps
  pub alone : AreAlone p.marked
  pub begins : (call : Call) (more : List Call) → heard_in p.plan.host steps ≡ call ∷ more → slice_get p.marked 0 ≡ Some (true, call)

pub record Compares (p : Course) (lines : List Line) (next : ℕ) (steps : List Step) : Type 0 where
  pub before : Before p steps
  pub listed : IsListed before.work.office.hosts p.plan.host lines next

-- ---- the other server

-- the host's backups were listed there
pub record Hears (p : Course) (there : Host) (steps : List Step) : Type 0 where
  pub listing : Listing
  pub is_there : host_named p.first.hosts p.plan.host ≡ Some there
  pub lines_are : lines_of there.backups ≡ listing.lines
  pub between : Marked
  pub rest : Marked
  pub are : p.marked ≡ ((true, listing_call p.plan.host listing) ∷ between) ++ rest
  pub own : own_in rest ≡ heard_in p.plan.host steps
  pub alone : AreAlone rest

-- and a restore was opened for a job, which gave these frames
pub record Opened (p : Course) (there : Host) (job : Job) (restore : SessionName) (frames : List Frame) (steps : List Step) : Type 0 where
  pub listing : Listing
  pub is_there : host_named p.first.hosts p.plan.host ≡ Some there
  pub lines_are : lines_of there.backups ≡ listing.lines
  pub between : Marked
  pub since : Marked
  pub rest : Marked
  pub are : p.marked
      ≡ ((true, listing_call p.plan.host listing) ∷ (between ++ (true, opening_call p.plan.host job restore) ∷ since)) ++ rest
  pub own : own_in rest ≡ heard_in p.plan.host steps
  pub alone : AreAlone rest
  pub given : given_in restore (all_in since) ≡ frames

-- ---- what was brought

-- home shows some of what is wanted behind what it showed; the rest is left
pub record Brought (p : Course) (there : Host) (newest : Option ℕ) (lines : List Line) (done : ℕ) (steps : List Step) : Type 0 where
  pub work : AtWork p [] steps
  pub own : Host
  pub is_own : host_named work.office.hosts p.plan.host ≡ Some own
  pub brought : List Shown
  pub left : List Backup
  pub shown : shown_in work.office.hosts p.plan.host ≡ shown_in p.home.hosts p.plan.host ++ brought
  pub others : OthersStay p.home.hosts work.office.hosts p.plan.host
  pub wants_are : wants p ≡ brought ++ shows_of left
  pub lines_are : lines ≡ lines_of left
  pub among : AtEach (Among there.backups) left
  pub count : done ≡ length brought
  pub base : IsBase newest own.backups there.backups

-- this one of the rest is being brought, and these calls were made for it at home
pub record InJob (p : Course) (there : Host) (job : Job) (block : List Call) (steps : List Step) : Type 0 where
  pub work : AtWork p block steps
  pub own : Host
  pub is_own : host_named work.office.hosts p.plan.host ≡ Some own
  pub brought : List Shown
  pub backup : Backup
  pub left : List Backup
  pub shown : shown_in work.office.hosts p.plan.host ≡ shown_in p.home.hosts p.plan.host ++ brought
  pub others : OthersStay p.home.hosts work.office.hosts p.plan.host
  pub wants_are : wants p ≡ brought ++ shown_of backup ∷ shows_of left
  pub line_is : job.line ≡ backup.line
  pub left_are : job.left ≡ lines_of left
  pub here : Among there.backups backup
  pub among : AtEach (Among there.backups) left
  pub count : job.done ≡ length brought
  pub base : IsBase job.base own.backups there.backups

-- the calls of a dump so far: its opening, and those of these frames
pub record Lain (p : Course) (job : Job) (dump : SessionName) (laying : Laying) (frames : List Frame) (block : List Call) : Type 0 where
  pub laid : List Call
  pub lays : Lays dump Nothing frames laid laying
  pub block_is : block ≡ open_call p.plan.host (kind_for job.base) p.plan.start dump ∷ laid
  pub parts : AreParts laid

-- ---- phases

pub record InBringing (p : Course) (newest : Option ℕ) (lines : List Line) (done : ℕ) (steps : List Step) : Type 0 where
  pub there : Host
  pub hears : Hears p there steps
  pub brought : Brought p there newest lines done steps

pub record InOpening (p : Course) (job : Job) (restore : SessionName) (steps : List Step) : Type 0 where
  pub there : Host
  pub opened : Opened p there job restore [] steps
  pub job_is : InJob p there job [] steps

-- behind these frames, of which `given` were laid
pub record InReading (p : Course) (intake : Intake) (laid given : List Frame) (steps : List Step) : Type 0 where
  pub there : Host
  pub opened : Opened p there intake.job intake.restore given steps
  pub block : List Call
  pub job_is : InJob p there intake.job block steps
  pub lain : Lain p intake.job intake.dump intake.laying laid block
  pub no_end : HaveNoEnd laid

-- the dump has the backup's tree
pub record IsWhole (p : Course) (job : Job) (dump : SessionName) (steps : List Step) : Type 0 where
  pub there : Host
  pub hears : Hears p there steps
  pub block : List Call
  pub job_is : InJob p there job block steps
  pub laid : List Call
  pub is_laid : LaidSince dump (base_of (kind_for job.base) job_is.own.backups) job_is.backup.tree laid
  pub block_is : block ≡ open_call p.plan.host (kind_for job.base) p.plan.start dump ∷ laid
  pub parts : AreParts laid

-- nothing is brought any more
pub record Ends (p : Course) (steps : List Step) : Type 0 where
  pub state : State
  pub faults : ℕ
  pub block : List Call
  pub brings : BringsIn p.home.hosts (wants p) p.plan.host state
  pub none : AdoptNone block
  pub leads : Leads state faults (block ++ calls_in steps) p.last p.last_faults

-- all was brought, if it ended well
abbrev pub EndsWell : Course → PullEnd → State → Type 0
EndsWell p (Done count) state = (count ≡ length (wants p)) × BringsAll p.home.hosts (wants p) p.plan.host state
EndsWell p end state = Unit {0}

pub record IsOver (p : Course) (end : PullEnd) (steps : List Step) : Type 0 where
  pub ends : Ends p steps
  pub well : EndsWell p end ends.state

abbrev pub Stands : Course → Phase → List Step → Type 0
Stands p Asking steps = Before p steps
Stands p Adding steps = Before p steps
Stands p AskingAgain steps = Before p steps
Stands p (Comparing own next) steps = Compares p own next steps
Stands p (Bringing newest lines done) steps = InBringing p newest lines done steps
Stands p (Opening job restore) steps = InOpening p job restore steps
Stands p (Reading intake) steps = (frames : List Frame) × InReading p intake frames frames steps
Stands p (Taking intake frame) steps = (frames : List Frame) × InReading p intake frames (frames ++ frame ∷ []) steps
Stands p (Closing job restore dump) steps = IsWhole p job dump steps
Stands p (Adopting job dump) steps = IsWhole p job dump steps
Stands p (Aborting dump end) steps = IsOver p end steps
Stands p (Over end) steps = IsOver p end steps
