-- Which file a pull names, whatever the disk: a table, a partial or a stage.
--     IsAt      what came of the calls up to a phase, if one was refused
--     pull_names
use Rattle.std.specs.Prelude.{◌⊎◌, nat_lt, min}
use Rattle.std.proofs.Common.{◌≡◌, ℕ, ◌-◌, ◌==◌, Bool, true, false, if◌then◌else◌, List, [], ◌∷◌, ◌++◌, map, length, Option, Some, None, Ok, Err, refl, sym, ap, ◌∙◌, subst, inl, inr, append_assoc, append-nil}
use Rattle.disk_trait.specs.declared.ids.FileId.{FileId}
use Rattle.disk_trait.specs.declared.disk.Disk.{Ghosts as DiskGhosts}
use Rattle.pool_name.specs.declared.namer.Namer.{Ghosts as NamerGhosts}
use Rattle.journal_view.specs.View.{told}
use Rattle.tree_frames.specs.declared.nodes.FileNode.{FileNode}
use Rattle.tree_frames.specs.declared.nodes.Node.{Node}
use Rattle.tree_frames.specs.declared.nodes.Node.TheVariants as T
use Rattle.tree_frames.specs.declared.nodes.Frame.{Frame}
use Rattle.tree_frames.specs.declared.nodes.Frame.TheVariants.{Deleted, Entry, Piece, End}
use Rattle.receipts.specs.declared.session.SessionName.{SessionName}
use Rattle.office_model.specs.declared.event.Event.{Event}
use Rattle.office_model.specs.declared.event.Event.TheVariants as V
use Rattle.office_model.specs.declared.answer.Answer.{Answer}
use Rattle.office_model.specs.declared.answer.Answer.TheVariants as A
use Rattle.office_model.specs.declared.refusal.Refusal.{Refusal}
use Rattle.office_model.specs.declared.refusal.Refusal.TheVariants as R
use Rattle.office_model.specs.Meaning.{Reply}
use Rattle.office_model.specs.Step.{Call}
use Rattle.serve_workers.specs.Stores.{Store, AreServed, Moves, IsDamagedFile, NamesTables}
use Rattle.peer_exchange.specs.declared.fault.PeerFault.{PeerFault}
use Rattle.peer_exchange.specs.declared.fault.PeerFault.TheVariants as F
use Rattle.frame_puts.specs.declared.files.SmallFile.{SmallFile}
use Rattle.frame_puts.specs.declared.files.LargeFile.{LargeFile}
use Rattle.frame_puts.specs.declared.laying.Laying.{Laying}
use Rattle.frame_puts.specs.declared.laying.Laying.TheVariants.{Nothing, Small, Large, Ended}
use Rattle.frame_puts.specs.Steps.{Step as FrameStep, file_item, removal_step, whole_step, opening_step, waiting_step, file_step, node_step, end_step, only_step, more_step, last_step, piece_step, frame_step}
use Rattle.pull_work.specs.declared.plan.Plan.{Plan}
use Rattle.pull_work.specs.declared.ends.PullEnd.{PullEnd}
use Rattle.pull_work.specs.declared.ends.PullEnd.TheVariants as E
use Rattle.pull_work.specs.Steps.{Step, Home, Lists, Opens, Reads, Closes, calls_in}
use Rattle.pull_work.specs.Script.{Intake, Phase, Asking, Adding, AskingAgain, Comparing, Bringing, Opening, Reading, Taking, Closing, Adopting, Aborting, Over, Calls, frame_limit, opening, adoption, due_in, due, end_by, is_no_host, after, taken, stopped}
use Rattle.pull_work.specs.Runs.{Turn, one, laid, refused, foreign, endless, complete, lacking, Taken, AreTurns, steps_of}
use Rattle.admin_cli.specs.declared.note.Note.TheVariants as Said
use Rattle.admin_cli.specs.Pulls.{note_of_pull}
use Rattle.admin_cli.proofs.FileLaws.{IsLast, IsAborted, last_damaged, aborted_damaged}
use Rattle.admin_cli.proofs.ForeignLaws.{AreOf, not_of_rule, by_call}
use Rattle.admin_cli.proofs.PullCalls.{home_calls, calls_in-append, reads_there}

-- ---- what came of the calls

abbrev IfRefused : PullEnd → (Refusal → Type 0) → Type 0
IfRefused (E.Refused refusal) Holds = Holds refusal
IfRefused end Holds = Unit {0}

abbrev IsAt : Phase → List Call → Type 0
IsAt (Aborting dump end) calls = IfRefused end (λ refusal. IsLast refusal calls)
IsAt (Over end) calls = IfRefused end (λ refusal. IsLast refusal calls ⊎ IsAborted refusal calls)
IsAt phase calls = Unit {0}

-- ---- the calls of a frame

abbrev AreNaming : FrameStep → Type 0
AreNaming made = AreOf NamesTables made.calls

naming_some : (made made' : FrameStep) → AreNaming made → Some made ≡ Some made' → AreNaming made'
naming_some made made' names e = let is : made ≡ made' = cc (e) in subst AreNaming is names

naming_if : (b : Bool) (made made' : FrameStep) → AreNaming made → (if b then Some made else None) ≡ Some made' → AreNaming made'
naming_if true made made' names e = naming_some made made' names e
naming_if false made made' names e = let no : ⊥ = cc (e) in absurd no

either_naming : (b : Bool) (made other : FrameStep) → AreNaming made → AreNaming other → AreNaming (if b then made else other)
either_naming true made other first second = first
either_naming false made other first second = second

module _ (dump : SessionName) where
  file_naming : (path : List ℕ) (node : FileNode) (stage : ℕ) → AreNaming (file_step dump path node stage)
  file_naming path node stage =
      either_naming (nat_lt 65536 node.size) (opening_step dump path node stage)
      (if nat_lt 0 node.size then waiting_step path node else whole_step dump path (file_item node [])) (tt, tt)
      (either_naming (nat_lt 0 node.size) (waiting_step path node) (whole_step dump path (file_item node [])) tt (tt, tt))

  node_naming : (path : List ℕ) (node : Node) (stage : ℕ) → AreNaming (node_step dump path node stage)
  node_naming path (T.File node) stage = file_naming path node stage
  node_naming path (T.Dir dir) stage = (tt, tt)
  node_naming path (T.Link link) stage = (tt, tt)

  only_naming : (file : SmallFile) (bytes : List ℕ) (made : FrameStep) → only_step dump file bytes ≡ Some made → AreNaming made
  only_naming file bytes made e =
      naming_if (length bytes == file.node.size) (whole_step dump file.path (file_item file.node bytes)) made (tt, tt) e

  piece_naming : (file : LargeFile) (bytes : List ℕ) (made : FrameStep) → piece_step dump file bytes ≡ Some made → AreNaming made
  piece_naming file bytes made e =
      naming_if (length bytes == min 65536 file.left)
      (if nat_lt (length bytes) file.left then more_step file (file.left - length bytes) bytes else last_step dump file bytes) made
      (either_naming (nat_lt (length bytes) file.left) (more_step file (file.left - length bytes) bytes) (last_step dump file bytes)
      (tt, tt) (tt, (tt, tt))) e

  frame_naming : (laying : Laying) (stage : ℕ) (frame : Frame) (made : FrameStep) → frame_step dump laying stage frame ≡ Some made
      → AreNaming made
  frame_naming Nothing stage (Deleted path) made e = naming_some (removal_step dump path) made (tt, tt) e
  frame_naming Nothing stage (Entry path node) made e = naming_some (node_step dump path node stage) made (node_naming path node stage) e
  frame_naming Nothing stage (Piece bytes) made e = let no : ⊥ = cc (e) in absurd no
  frame_naming Nothing stage (End count) made e = naming_some end_step made tt e
  frame_naming (Small file) stage (Piece bytes) made e = only_naming file bytes made e
  frame_naming (Small file) stage (Deleted path) made e = let no : ⊥ = cc (e) in absurd no
  frame_naming (Small file) stage (Entry path node) made e = let no : ⊥ = cc (e) in absurd no
  frame_naming (Small file) stage (End count) made e = let no : ⊥ = cc (e) in absurd no
  frame_naming (Large file) stage (Piece bytes) made e = piece_naming file bytes made e
  frame_naming (Large file) stage (Deleted path) made e = let no : ⊥ = cc (e) in absurd no
  frame_naming (Large file) stage (Entry path node) made e = let no : ⊥ = cc (e) in absurd no
  frame_naming (Large file) stage (End count) made e = let no : ⊥ = cc (e) in absurd no
  frame_naming Ended stage frame made e = let no : ⊥ = cc (e) in absurd no

names_at : (done rest : List Call) (call : Call) → AreOf NamesTables (done ++ call ∷ rest) → NamesTables call.0
names_at [] rest call names = names.0
names_at (x ∷ done) rest call names = names_at done rest call names.1

-- ---- one call at home

here : (refusal : Refusal) (made : List Call) (event : Event) → NamesTables event → IsLast refusal (made ++ (event, Err refusal) ∷ [])
here refusal made event names = record { before = made; event = event; names = names; parts = refl }

is_called : (asked event : Event) → Some (Calls asked) ≡ Some (Calls event) → asked ≡ event
is_called asked event e = cc (e)

names_called : (asked event : Event) → NamesTables asked → Some (Calls asked) ≡ Some (Calls event) → NamesTables event
names_called asked event names e = subst NamesTables (is_called asked event e) names

over_here : (refusal : Refusal) (made : List Call) (event : Event) → NamesTables event
    → IsAt (Over (E.Refused refusal)) (made ++ (event, Err refusal) ∷ [])
over_here refusal made event names = inl (here refusal made event names)

-- the host may not be at home
first_asked : (made : List Call) (asked : Event) (refusal : Refusal) (b : Bool) → NamesTables asked
    → IsAt (if b then Adding else Over (E.Refused refusal)) (made ++ (asked, Err refusal) ∷ [])
first_asked made asked refusal true names = tt
first_asked made asked refusal false names = over_here refusal made asked names

-- an abort behind the call that was refused
aborted : (end : PullEnd) (made : List Call) (dump : SessionName) (asked : Event) (reply : Reply) → V.Abort dump ≡ asked
    → IfRefused end (λ refusal. IsLast refusal made)
    → IfRefused end (λ refusal. IsLast refusal (made ++ (asked, reply) ∷ []) ⊎ IsAborted refusal (made ++ (asked, reply) ∷ []))
aborted (E.Refused refusal) made dump asked reply is last = inr (record {
  made = made;
  last = last;
  dump = dump;
  reply = reply;
  parts = ap (λ (event : Event). made ++ (event, reply) ∷ []) (sym is);
})
aborted (E.Done count) made dump asked reply is last = tt
aborted (E.PeerRefused status) made dump asked reply is last = tt
aborted E.PeerForeign made dump asked reply is last = tt
aborted E.LinkFault made dump asked reply is last = tt
aborted E.Memory made dump asked reply is last = tt

home_at : (plan : Plan) (old : Phase) (asked : Event) (reply : Reply) (made : List Call) → due plan old ≡ Some (Calls asked)
    → IsAt old made → IsAt (after old (Home (asked, reply))) (made ++ (asked, reply) ∷ [])
home_at plan Asking asked (Ok (A.Backups lines next dump)) made e at = tt
home_at plan Asking asked (Ok answer) made e at = tt
home_at plan Asking asked (Err refusal) made e at =
    first_asked made asked refusal (is_no_host refusal) (names_called (V.Backups plan.host) asked tt e)
home_at plan Adding asked (Ok answer) made e at = tt
home_at plan Adding asked (Err refusal) made e at = over_here refusal made asked (names_called (V.AddHost plan.host plan.rules) asked tt e)
home_at plan AskingAgain asked (Ok (A.Backups lines next dump)) made e at = tt
home_at plan AskingAgain asked (Ok answer) made e at = tt
home_at plan AskingAgain asked (Err refusal) made e at = over_here refusal made asked (names_called (V.Backups plan.host) asked tt e)
home_at plan (Comparing own next) asked reply made e at = let no : ⊥ = cc (e) in absurd no
home_at plan (Bringing newest [] done) asked reply made e at = let no : ⊥ = cc (e) in absurd no
home_at plan (Bringing newest (line ∷ lines) done) asked reply made e at = let no : ⊥ = cc (e) in absurd no
home_at plan (Opening job restore) asked (Ok answer) made e at = opened answer
  where
    opened : (answer : Answer) → IsAt (after (Opening job restore) (Home (asked, Ok answer))) (made ++ (asked, Ok answer) ∷ [])
    opened (A.Dump dump) = tt
    opened (A.Already number) = tt
    opened answer = tt
home_at plan (Opening job restore) asked (Err refusal) made e at =
    over_here refusal made asked (names_called (opening plan job.base) asked tt e)
home_at plan (Reading intake) asked reply made e at = absurd (reads_there (intake.read == frame_limit) intake.restore asked e)
home_at plan (Taking intake frame) asked reply made e at = let no : ⊥ = cc (e) in absurd no
home_at plan (Closing job restore dump) asked reply made e at = let no : ⊥ = cc (e) in absurd no
home_at plan (Adopting job dump) asked (Ok answer) made e at = tt
home_at plan (Adopting job dump) asked (Err refusal) made e at =
    here refusal made asked (names_called (adoption dump job.line) asked tt e)
home_at plan (Aborting dump end) asked reply made e at = aborted end made dump asked reply (is_called (V.Abort dump) asked e) at
home_at plan (Over end) asked reply made e at = let no : ⊥ = cc (e) in absurd no

-- ---- one step over the wire

abbrev IsAway : Step → Type 0
IsAway (Home call) = ⊥
IsAway step = Unit {0}

peer_over : (fault : PeerFault) (made : List Call) → IsAt (Over (end_by fault)) made
peer_over (F.Refused status) made = tt
peer_over F.Foreign made = tt
peer_over F.Link made = tt
peer_over F.Memory made = tt

peer_aborting : (fault : PeerFault) (dump : SessionName) (made : List Call) → IsAt (Aborting dump (end_by fault)) made
peer_aborting (F.Refused status) dump made = tt
peer_aborting F.Foreign dump made = tt
peer_aborting F.Link dump made = tt
peer_aborting F.Memory dump made = tt

away_at : (old : Phase) (step : Step) (made : List Call) → IsAway step → IsAt old made → IsAt (after old step) made
away_at old (Home call) made away at = absurd away
away_at Asking step made away at = at
away_at Adding step made away at = at
away_at AskingAgain step made away at = at
away_at (Comparing own next) (Lists (Ok there)) made away at = tt
away_at (Comparing own next) (Lists (Err fault)) made away at = peer_over fault made
away_at (Comparing own next) step made away at = at
away_at (Bringing newest [] done) step made away at = at
away_at (Bringing newest (line ∷ lines) done) (Opens number base (Ok restore)) made away at = tt
away_at (Bringing newest (line ∷ lines) done) (Opens number base (Err fault)) made away at = peer_over fault made
away_at (Bringing newest (line ∷ lines) done) step made away at = at
away_at (Opening job restore) step made away at = at
away_at (Reading intake) (Reads restore (Ok frame)) made away at = tt
away_at (Reading intake) (Reads restore (Err fault)) made away at = peer_aborting fault intake.dump made
away_at (Reading intake) step made away at = at
away_at (Taking intake frame) step made away at = at
away_at (Closing job restore dump) (Closes closed (Ok done)) made away at = tt
away_at (Closing job restore dump) (Closes closed (Err fault)) made away at = peer_aborting fault dump made
away_at (Closing job restore dump) step made away at = at
away_at (Adopting job dump) step made away at = at
away_at (Aborting dump end) step made away at = at
away_at (Over end) step made away at = at

none_more : (phase : Phase) (made : List Call) → IsAt phase made → IsAt phase (made ++ [])
none_more phase made at = subst (IsAt phase) (sym (append-nil made)) at

one_at : (plan : Plan) (old : Phase) (step : Step) (made : List Call) → due plan old ≡ Some (due_in step) → IsAt old made
    → IsAt (after old step) (made ++ calls_in (step ∷ []))
one_at plan old (Home (asked, reply)) made e at = home_at plan old asked reply made e at
one_at plan old (Lists result) made e at = none_more (after old (Lists result)) made (away_at old (Lists result) made tt at)
one_at plan old (Opens number base result) made e at =
    none_more (after old (Opens number base result)) made (away_at old (Opens number base result) made tt at)
one_at plan old (Reads restore result) made e at = none_more (after old (Reads restore result)) made (away_at old (Reads restore result) made tt at)
one_at plan old (Closes restore result) made e at =
    none_more (after old (Closes restore result)) made (away_at old (Closes restore result) made tt at)

-- ---- one turn

lacks_at : (old : Phase) (made : List Call) → IsAt old made → IsAt (stopped old E.Memory) made
lacks_at (Aborting dump end) made at = at
lacks_at phase made at = tt

laid_at : (intake : Intake) (laying : Laying) (calls : List Call) → IsAt (taken intake laying) calls
laid_at intake Ended calls = tt
laid_at intake Nothing calls = tt
laid_at intake (Small file) calls = tt
laid_at intake (Large file) calls = tt

-- behind these steps
steps_at : (new : Phase) (made : List Call) (steps steps' : List Step) → steps ≡ steps' → IsAt new (made ++ calls_in steps')
    → IsAt new (made ++ calls_in steps)
steps_at new made steps steps' is at = subst (λ (s : List Step). IsAt new (made ++ calls_in s)) (sym is) at

homes_at : (new : Phase) (made : List Call) (steps : List Step) (calls : List Call) → steps ≡ map Home calls → IsAt new (made ++ calls)
    → IsAt new (made ++ calls_in steps)
homes_at new made steps calls is at =
    steps_at new made steps (map Home calls) is (subst (λ (c : List Call). IsAt new (made ++ c)) (sym (home_calls calls)) at)

turn_at : (plan : Plan) (old : Phase) (steps : List Step) (new : Phase) (made : List Call) → Turn plan old steps new → IsAt old made
    → IsAt new (made ++ calls_in steps)
turn_at plan old steps new made (one step is due_is new_is) at =
    subst (λ (p : Phase). IsAt p (made ++ calls_in steps)) (sym new_is)
    (steps_at (after old step) made steps (step ∷ []) is (one_at plan old step made due_is at))
turn_at plan old steps new made (laid intake frame stage step old_is step_is is new_is) at =
    subst (λ (p : Phase). IsAt p (made ++ calls_in steps)) (sym new_is) (laid_at intake step.laying (made ++ calls_in steps))
turn_at plan old steps new made (refused intake frame stage step done call rest refusal old_is step_is calls_are is new_is) at =
    subst (λ (p : Phase). IsAt p (made ++ calls_in steps)) (sym new_is)
    (homes_at (Aborting intake.dump (E.Refused refusal)) made steps (done ++ (call.0, Err refusal) ∷ []) is
    (subst (IsLast refusal) (append_assoc made done ((call.0, Err refusal) ∷ []))
    (here refusal (made ++ done) call.0
    (names_at done rest call
    (subst (AreOf NamesTables) calls_are (frame_naming intake.dump intake.laying stage frame step step_is))))))
turn_at plan old steps new made (foreign intake frame old_is none is new_is) at =
    subst (λ (p : Phase). IsAt p (made ++ calls_in steps)) (sym new_is) tt
turn_at plan old steps new made (endless intake old_is limit is new_is) at =
    subst (λ (p : Phase). IsAt p (made ++ calls_in steps)) (sym new_is) tt
turn_at plan old steps new made (complete newest done old_is is new_is) at =
    subst (λ (p : Phase). IsAt p (made ++ calls_in steps)) (sym new_is) tt
turn_at plan old steps new made (lacking is new_is) at =
    subst (λ (p : Phase). IsAt p (made ++ calls_in steps)) (sym new_is)
    (steps_at (stopped old E.Memory) made steps [] is (none_more (stopped old E.Memory) made (lacks_at old made at)))

-- ---- all turns

turns_at : (plan : Plan) (old new : Phase) (turns : List Taken) (made : List Call) → AreTurns plan old turns new → IsAt old made
    → IsAt new (made ++ calls_in (steps_of turns))
turns_at plan old new [] made are at = none_more new made (subst (λ (p : Phase). IsAt p made) (sym are) at)
turns_at plan old new (turn ∷ turns) made are at =
    subst (IsAt new) (append_assoc made (calls_in turn.steps) (calls_in (steps_of turns))
    ∙ ap (λ (calls : List Call). made ++ calls) (sym (calls_in-append turn.steps (steps_of turns))))
    (turns_at plan turn.to new turns (made ++ calls_in turn.steps) are.1 (turn_at plan old turn.steps turn.to made are.0 at))

-- ---- what the note names

named_by : (host : List ℕ) (end : PullEnd) (halted : Bool) (file : FileId) → note_of_pull host end halted ≡ Said.Foreign file
    → (found : Option (List ℕ)) × (end ≡ E.Refused (R.Damaged file found))
named_by host (E.Done count) halted file e =
    absurd (not_of_rule (Said.Pulled host count) halted file (λ same. let no : ⊥ = cc (same) in no) e)
named_by host (E.Refused refusal) halted file e =
    let named = by_call refusal halted file e in (named.0, λ i. E.Refused (named.1 i))
named_by host (E.PeerRefused status) halted file e =
    absurd (not_of_rule (Said.PeerRefused status) halted file (λ same. let no : ⊥ = cc (same) in no) e)
named_by host E.PeerForeign halted file e =
    absurd (not_of_rule Said.PeerForeign halted file (λ same. let no : ⊥ = cc (same) in no) e)
named_by host E.LinkFault halted file e = let no : ⊥ = cc (e) in absurd no
named_by host E.Memory halted file e = let no : ⊥ = cc (e) in absurd no

module _ {D N S : Type 0} {d : DiskGhosts D} {n : NamerGhosts N S} where
  by_end : (old new : Store D N S d n) (calls : List Call) (file : FileId) (found : Option (List ℕ)) → AreServed old calls new
      → IsLast (R.Damaged file found) calls ⊎ IsAborted (R.Damaged file found) calls → IsDamagedFile (told new.parts.journal) file
  by_end old new calls file found served (inl last) = last_damaged old new calls file found served last
  by_end old new calls file found served (inr last) = aborted_damaged old new calls file found served last

  -- a pull names a file that the disk has damaged when it ends
  pub pull_names : (old new : Store D N S d n) (plan : Plan) (host : List ℕ) (end : PullEnd) (turns : List Taken) (halted : Bool)
      (file : FileId) → AreTurns plan Asking turns (Over end) → Moves old (calls_in (steps_of turns)) new
      → note_of_pull host end halted ≡ Said.Foreign file → IsDamagedFile (told new.parts.journal) file
  pull_names old new plan host end turns halted file are moved note_is =
      let named = named_by host end halted file note_is in
      by_end old new (calls_in (steps_of turns)) file named.0 moved.each
      (subst (λ (e : PullEnd). IsAt (Over e) (calls_in (steps_of turns))) named.1 (turns_at plan Asking (Over end) turns [] are tt))
