-- What a pull calls at home: no reopening, and each call before the one that was refused was answered, or the host wasn't there.
--     ArePassed      each call was answered, or refused since the host isn't there
--     EndedBy      the calls of a pull that ended so
--     pull_ended, pull_others      the calls of a pull
use Rattle.std.specs.Prelude.{nat_lt, min}
use Rattle.std.proofs.Common.{◌≡◌, ℕ, ◌-◌, ◌==◌, Bool, true, false, if◌then◌else◌, List, [], ◌∷◌, ◌++◌, map, length, Option, Some, None, Ok, Err, refl, sym, ap, ◌∙◌, subst, append_assoc}
use Rattle.std.proofs.lemmas.List.{append-nil}
use Rattle.tree_frames.specs.declared.nodes.FileNode.{FileNode}
use Rattle.tree_frames.specs.declared.nodes.Node.{Node}
use Rattle.tree_frames.specs.declared.nodes.Node.TheVariants as T
use Rattle.tree_frames.specs.declared.nodes.Frame.{Frame}
use Rattle.tree_frames.specs.declared.nodes.Frame.TheVariants.{Deleted, Entry, Piece, End}
use Rattle.receipts.specs.declared.session.SessionName.{SessionName}
use Rattle.office_model.specs.declared.event.Event.{Event}
use Rattle.office_model.specs.declared.event.Event.TheVariants as V
use Rattle.office_model.specs.declared.answer.Answer.{Answer}
use Rattle.office_model.specs.declared.answer.Answer.TheVariants as A
use Rattle.office_model.specs.declared.refusal.Refusal.{Refusal}
use Rattle.office_model.specs.Meaning.{Reply}
use Rattle.office_model.specs.Step.{Call}
use Rattle.peer_exchange.specs.declared.fault.PeerFault.{PeerFault}
use Rattle.peer_exchange.specs.declared.fault.PeerFault.TheVariants as F
use Rattle.frame_puts.specs.declared.files.SmallFile.{SmallFile}
use Rattle.frame_puts.specs.declared.files.LargeFile.{LargeFile}
use Rattle.frame_puts.specs.declared.laying.Laying.{Laying}
use Rattle.frame_puts.specs.declared.laying.Laying.TheVariants.{Nothing, Small, Large, Ended}
use Rattle.frame_puts.specs.Steps.{Step as FrameStep, file_item, removal_step, whole_step, opening_step, waiting_step, file_step, node_step, end_step, only_step, more_step, last_step, piece_step, frame_step}
use Rattle.pull_work.specs.declared.plan.Plan.{Plan}
use Rattle.pull_work.specs.declared.ends.PullEnd.{PullEnd}
use Rattle.pull_work.specs.declared.ends.PullEnd.TheVariants as E
use Rattle.pull_work.specs.Steps.{Step, Home, Lists, Opens, Reads, Closes, calls_in}
use Rattle.pull_work.specs.Script.{Intake, Phase, Asking, Adding, AskingAgain, Comparing, Bringing, Opening, Reading, Taking, Closing, Adopting, Aborting, Over, Calls, ReadsThere, frame_limit, opening, adoption, due_in, due, end_by, is_no_host, after, taken, stopped}
use Rattle.pull_work.specs.Runs.{Turn, one, laid, refused, foreign, endless, complete, lacking, Taken, AreTurns, steps_of}
use Rattle.admin_cli.proofs.OtherLaws.{IsOther, AreOthers}

-- ---- what came of the calls

abbrev pub IsPassed : Reply → Type 0
IsPassed (Ok answer) = Unit {0}
IsPassed (Err refusal) = is_no_host refusal ≡ true

abbrev pub ArePassed : List Call → Type 0
ArePassed [] = Unit {0}
ArePassed (call ∷ calls) = IsPassed call.1 × ArePassed calls

-- a call was refused so, and those before it were passed
pub record IsStoppedBy (refusal : Refusal) (calls : List Call) : Type 0 where
  pub before : List Call
  pub event : Event
  pub behind : List Call
  pub parts : calls ≡ before ++ (event, Err refusal) ∷ behind
  pub passed : ArePassed before

abbrev pub EndedBy : PullEnd → List Call → Type 0
EndedBy (E.Refused refusal) calls = IsStoppedBy refusal calls
EndedBy end calls = Unit {0}

-- what came of the calls up to a phase
abbrev IsAt : Phase → List Call → Type 0
IsAt (Aborting dump end) calls = EndedBy end calls
IsAt (Over end) calls = EndedBy end calls
IsAt phase calls = ArePassed calls

passed-append : (xs ys : List Call) → ArePassed xs → ArePassed ys → ArePassed (xs ++ ys)
passed-append [] ys first rest = rest
passed-append (x ∷ xs) ys first rest = (first.0, passed-append xs ys first.1 rest)

others-append : (xs ys : List Call) → AreOthers xs → AreOthers ys → AreOthers (xs ++ ys)
others-append [] ys first rest = rest
others-append (x ∷ xs) ys first rest = (first.0, others-append xs ys first.1 rest)

-- ---- the steps that call at home

pub home_calls : (calls : List Call) → calls_in (map Home calls) ≡ calls
home_calls [] = refl
home_calls (call ∷ calls) = ap (λ more. call ∷ more) (home_calls calls)

pub calls_in-append : (xs ys : List Step) → calls_in (xs ++ ys) ≡ calls_in xs ++ calls_in ys
calls_in-append [] ys = refl
calls_in-append (Home call ∷ xs) ys = ap (λ calls. call ∷ calls) (calls_in-append xs ys)
calls_in-append (Lists result ∷ xs) ys = calls_in-append xs ys
calls_in-append (Opens number base result ∷ xs) ys = calls_in-append xs ys
calls_in-append (Reads restore result ∷ xs) ys = calls_in-append xs ys
calls_in-append (Closes restore result ∷ xs) ys = calls_in-append xs ys

-- ---- the calls of a frame: none is a reopening, and each was answered

abbrev AreFine : List Call → Type 0
AreFine calls = AreOthers calls × ArePassed calls

abbrev IsFine : FrameStep → Type 0
IsFine made = AreFine made.calls

fine_some : (made made' : FrameStep) → IsFine made → Some made ≡ Some made' → IsFine made'
fine_some made made' fine e = let is : made ≡ made' = cc (e) in subst IsFine is fine

fine_if : (b : Bool) (made made' : FrameStep) → IsFine made → (if b then Some made else None) ≡ Some made' → IsFine made'
fine_if true made made' fine e = fine_some made made' fine e
fine_if false made made' fine e = let no : ⊥ = cc (e) in absurd no

either_fine : (b : Bool) (made other : FrameStep) → IsFine made → IsFine other → IsFine (if b then made else other)
either_fine true made other first second = first
either_fine false made other first second = second

module _ (dump : SessionName) where
  file_fine : (path : List ℕ) (node : FileNode) (stage : ℕ) → IsFine (file_step dump path node stage)
  file_fine path node stage =
      either_fine (nat_lt 65536 node.size) (opening_step dump path node stage)
      (if nat_lt 0 node.size then waiting_step path node else whole_step dump path (file_item node [])) ((tt, tt), (tt, tt))
      (either_fine (nat_lt 0 node.size) (waiting_step path node) (whole_step dump path (file_item node [])) (tt, tt) ((tt, tt), (tt, tt)))

  node_fine : (path : List ℕ) (node : Node) (stage : ℕ) → IsFine (node_step dump path node stage)
  node_fine path (T.File node) stage = file_fine path node stage
  node_fine path (T.Dir dir) stage = ((tt, tt), (tt, tt))
  node_fine path (T.Link link) stage = ((tt, tt), (tt, tt))

  only_fine : (file : SmallFile) (bytes : List ℕ) (made : FrameStep) → only_step dump file bytes ≡ Some made → IsFine made
  only_fine file bytes made e =
      fine_if (length bytes == file.node.size) (whole_step dump file.path (file_item file.node bytes)) made ((tt, tt), (tt, tt)) e

  piece_fine : (file : LargeFile) (bytes : List ℕ) (made : FrameStep) → piece_step dump file bytes ≡ Some made → IsFine made
  piece_fine file bytes made e =
      fine_if (length bytes == min 65536 file.left)
      (if nat_lt (length bytes) file.left then more_step file (file.left - length bytes) bytes else last_step dump file bytes) made
      (either_fine (nat_lt (length bytes) file.left) (more_step file (file.left - length bytes) bytes) (last_step dump file bytes)
      ((tt, tt), (tt, tt)) ((tt, (tt, tt)), (tt, (tt, tt)))) e

  frame_fine : (laying : Laying) (stage : ℕ) (frame : Frame) (made : FrameStep) → frame_step dump laying stage frame ≡ Some made → IsFine made
  frame_fine Nothing stage (Deleted path) made e = fine_some (removal_step dump path) made ((tt, tt), (tt, tt)) e
  frame_fine Nothing stage (Entry path node) made e = fine_some (node_step dump path node stage) made (node_fine path node stage) e
  frame_fine Nothing stage (Piece bytes) made e = let no : ⊥ = cc (e) in absurd no
  frame_fine Nothing stage (End count) made e = fine_some end_step made (tt, tt) e
  frame_fine (Small file) stage (Piece bytes) made e = only_fine file bytes made e
  frame_fine (Small file) stage (Deleted path) made e = let no : ⊥ = cc (e) in absurd no
  frame_fine (Small file) stage (Entry path node) made e = let no : ⊥ = cc (e) in absurd no
  frame_fine (Small file) stage (End count) made e = let no : ⊥ = cc (e) in absurd no
  frame_fine (Large file) stage (Piece bytes) made e = piece_fine file bytes made e
  frame_fine (Large file) stage (Deleted path) made e = let no : ⊥ = cc (e) in absurd no
  frame_fine (Large file) stage (Entry path node) made e = let no : ⊥ = cc (e) in absurd no
  frame_fine (Large file) stage (End count) made e = let no : ⊥ = cc (e) in absurd no
  frame_fine Ended stage frame made e = let no : ⊥ = cc (e) in absurd no

front_passed : (done rest : List Call) → ArePassed (done ++ rest) → ArePassed done
front_passed [] rest passed = tt
front_passed (x ∷ done) rest passed = (passed.0, front_passed done rest passed.1)

-- up to a call, with another reply
front_others : (done : List Call) (call call' : Call) (rest : List Call) → call'.0 ≡ call.0 → AreOthers (done ++ call ∷ rest)
    → AreOthers (done ++ call' ∷ [])
front_others [] call call' rest same others = (subst IsOther (sym same) others.0, tt)
front_others (x ∷ done) call call' rest same others = (others.0, front_others done call call' rest same others.1)

-- ---- what is due at home

pub reads_there : (b : Bool) (restore : SessionName) (event : Event)
    → (if b then None else Some (ReadsThere restore)) ≡ Some (Calls event) → ⊥
reads_there true restore event e = cc (e)
reads_there false restore event e = cc (e)

is_called : (asked event : Event) → Some (Calls asked) ≡ Some (Calls event) → asked ≡ event
is_called asked event e = cc (e)

called_other : (asked event : Event) → IsOther asked → Some (Calls asked) ≡ Some (Calls event) → IsOther event
called_other asked event other e = subst IsOther (is_called asked event e) other

due_other : (plan : Plan) (phase : Phase) (event : Event) → due plan phase ≡ Some (Calls event) → IsOther event
due_other plan Asking event e = called_other (V.Backups plan.host) event tt e
due_other plan Adding event e = called_other (V.AddHost plan.host plan.rules) event tt e
due_other plan AskingAgain event e = called_other (V.Backups plan.host) event tt e
due_other plan (Comparing own next) event e = let no : ⊥ = cc (e) in absurd no
due_other plan (Bringing newest [] done) event e = let no : ⊥ = cc (e) in absurd no
due_other plan (Bringing newest (line ∷ lines) done) event e = let no : ⊥ = cc (e) in absurd no
due_other plan (Opening job restore) event e = called_other (opening plan job.base) event tt e
due_other plan (Reading intake) event e = absurd (reads_there (intake.read == frame_limit) intake.restore event e)
due_other plan (Taking intake frame) event e = let no : ⊥ = cc (e) in absurd no
due_other plan (Closing job restore dump) event e = let no : ⊥ = cc (e) in absurd no
due_other plan (Adopting job dump) event e = called_other (adoption dump job.line) event tt e
due_other plan (Aborting dump end) event e = called_other (V.Abort dump) event tt e
due_other plan (Over end) event e = let no : ⊥ = cc (e) in absurd no

one_other : (plan : Plan) (old : Phase) (step : Step) → due plan old ≡ Some (due_in step) → AreOthers (calls_in (step ∷ []))
one_other plan old (Home call) e = (due_other plan old call.0 e, tt)
one_other plan old (Lists result) e = tt
one_other plan old (Opens number base result) e = tt
one_other plan old (Reads restore result) e = tt
one_other plan old (Closes restore result) e = tt

-- ---- turns call no reopening

steps_other : (steps steps' : List Step) → steps ≡ steps' → AreOthers (calls_in steps') → AreOthers (calls_in steps)
steps_other steps steps' is others = subst (λ (s : List Step). AreOthers (calls_in s)) (sym is) others

home_other : (steps : List Step) (calls : List Call) → steps ≡ map Home calls → AreOthers calls → AreOthers (calls_in steps)
home_other steps calls is others = steps_other steps (map Home calls) is (subst AreOthers (sym (home_calls calls)) others)

turn_others : (plan : Plan) (old : Phase) (steps : List Step) (new : Phase) → Turn plan old steps new → AreOthers (calls_in steps)
turn_others plan old steps new (one step is due_is new_is) = steps_other steps (step ∷ []) is (one_other plan old step due_is)
turn_others plan old steps new (laid intake frame stage made at made_is is new_is) =
    home_other steps made.calls is (frame_fine intake.dump intake.laying stage frame made made_is).0
turn_others plan old steps new (refused intake frame stage made done call rest refusal at made_is calls_are is new_is) =
    home_other steps (done ++ (call.0, Err refusal) ∷ []) is
    (front_others done call (call.0, Err refusal) rest refl
    (subst AreOthers calls_are (frame_fine intake.dump intake.laying stage frame made made_is).0))
turn_others plan old steps new (foreign intake frame at none is new_is) = steps_other steps [] is tt
turn_others plan old steps new (endless intake at limit is new_is) = steps_other steps [] is tt
turn_others plan old steps new (complete newest done at is new_is) = steps_other steps [] is tt
turn_others plan old steps new (lacking is new_is) = steps_other steps [] is tt

pub pull_others : (plan : Plan) (old new : Phase) (turns : List Taken) → AreTurns plan old turns new → AreOthers (calls_in (steps_of turns))
pull_others plan old new [] are = tt
pull_others plan old new (turn ∷ turns) are =
    subst AreOthers (sym (calls_in-append turn.steps (steps_of turns)))
    (others-append (calls_in turn.steps) (calls_in (steps_of turns)) (turn_others plan old turn.steps turn.to are.0)
    (pull_others plan turn.to new turns are.1))

-- ---- one call more

stopped_here : (refusal : Refusal) (made : List Call) (event : Event) → ArePassed made → IsStoppedBy refusal (made ++ (event, Err refusal) ∷ [])
stopped_here refusal made event passed =
    record { before = made; event = event; behind = []; parts = refl; passed = passed }

one_passed : (made : List Call) (call : Call) → IsPassed call.1 → ArePassed made → ArePassed (made ++ call ∷ [])
one_passed made call is passed = passed-append made (call ∷ []) passed (is, tt)

ended_more : (end : PullEnd) (made : List Call) (call : Call) → EndedBy end made → EndedBy end (made ++ call ∷ [])
ended_more (E.Refused refusal) made call ended = record {
  before = ended.before;
  event = ended.event;
  behind = ended.behind ++ call ∷ [];
  parts = ap (λ (calls : List Call). calls ++ call ∷ []) ended.parts
      ∙ append_assoc ended.before ((ended.event, Err refusal) ∷ ended.behind) (call ∷ []);
  passed = ended.passed;
}
ended_more (E.Done count) made call ended = tt
ended_more (E.PeerRefused status) made call ended = tt
ended_more E.PeerForeign made call ended = tt
ended_more E.LinkFault made call ended = tt
ended_more E.Memory made call ended = tt

peer_ended : (fault : PeerFault) (made : List Call) → EndedBy (end_by fault) made
peer_ended (F.Refused status) made = tt
peer_ended F.Foreign made = tt
peer_ended F.Link made = tt
peer_ended F.Memory made = tt

-- the host may not be at home
first_asked : (made : List Call) (asked : Event) (refusal : Refusal) (b : Bool) → is_no_host refusal ≡ b → ArePassed made
    → IsAt (if b then Adding else Over (E.Refused refusal)) (made ++ (asked, Err refusal) ∷ [])
first_asked made asked refusal true e passed = one_passed made (asked, Err refusal) e passed
first_asked made asked refusal false e passed = stopped_here refusal made asked passed

home_at : (plan : Plan) (old : Phase) (asked : Event) (reply : Reply) (made : List Call) → due plan old ≡ Some (Calls asked) → IsAt old made
    → IsAt (after old (Home (asked, reply))) (made ++ (asked, reply) ∷ [])
home_at plan Asking asked (Ok answer) made e at = asked_first answer
  where
    asked_first : (answer : Answer) → IsAt (after Asking (Home (asked, Ok answer))) (made ++ (asked, Ok answer) ∷ [])
    asked_first (A.Backups lines next dump) = one_passed made (asked, Ok (A.Backups lines next dump)) tt at
    asked_first answer = one_passed made (asked, Ok answer) tt at
home_at plan Asking asked (Err refusal) made e at = first_asked made asked refusal (is_no_host refusal) refl at
home_at plan Adding asked (Ok answer) made e at = one_passed made (asked, Ok answer) tt at
home_at plan Adding asked (Err refusal) made e at = stopped_here refusal made asked at
home_at plan AskingAgain asked (Ok answer) made e at = asked_again answer
  where
    asked_again : (answer : Answer) → IsAt (after AskingAgain (Home (asked, Ok answer))) (made ++ (asked, Ok answer) ∷ [])
    asked_again (A.Backups lines next dump) = one_passed made (asked, Ok (A.Backups lines next dump)) tt at
    asked_again answer = one_passed made (asked, Ok answer) tt at
home_at plan AskingAgain asked (Err refusal) made e at = stopped_here refusal made asked at
home_at plan (Comparing own next) asked reply made e at = let no : ⊥ = cc (e) in absurd no
home_at plan (Bringing newest [] done) asked reply made e at = let no : ⊥ = cc (e) in absurd no
home_at plan (Bringing newest (line ∷ lines) done) asked reply made e at = let no : ⊥ = cc (e) in absurd no
home_at plan (Opening job restore) asked (Ok answer) made e at = opened answer
  where
    opened : (answer : Answer) → IsAt (after (Opening job restore) (Home (asked, Ok answer))) (made ++ (asked, Ok answer) ∷ [])
    opened (A.Dump dump) = one_passed made (asked, Ok (A.Dump dump)) tt at
    opened (A.Already number) = tt
    opened answer = one_passed made (asked, Ok answer) tt at
home_at plan (Opening job restore) asked (Err refusal) made e at = stopped_here refusal made asked at
home_at plan (Reading intake) asked reply made e at = absurd (reads_there (intake.read == frame_limit) intake.restore asked e)
home_at plan (Taking intake frame) asked reply made e at = let no : ⊥ = cc (e) in absurd no
home_at plan (Closing job restore dump) asked reply made e at = let no : ⊥ = cc (e) in absurd no
home_at plan (Adopting job dump) asked (Ok answer) made e at = one_passed made (asked, Ok answer) tt at
home_at plan (Adopting job dump) asked (Err refusal) made e at = stopped_here refusal made asked at
home_at plan (Aborting dump end) asked reply made e at = ended_more end made (asked, reply) at
home_at plan (Over end) asked reply made e at = let no : ⊥ = cc (e) in absurd no

-- ---- one step over the wire

abbrev IsAway : Step → Type 0
IsAway (Home call) = ⊥
IsAway step = Unit {0}

away_at : (old : Phase) (step : Step) (made : List Call) → IsAway step → IsAt old made → IsAt (after old step) made
away_at old (Home call) made away at = absurd away
away_at Asking step made away at = at
away_at Adding step made away at = at
away_at AskingAgain step made away at = at
away_at (Comparing own next) (Lists (Ok there)) made away at = at
away_at (Comparing own next) (Lists (Err fault)) made away at = peer_ended fault made
away_at (Comparing own next) step made away at = at
away_at (Bringing newest [] done) step made away at = at
away_at (Bringing newest (line ∷ lines) done) (Opens number base (Ok restore)) made away at = at
away_at (Bringing newest (line ∷ lines) done) (Opens number base (Err fault)) made away at = peer_ended fault made
away_at (Bringing newest (line ∷ lines) done) step made away at = at
away_at (Opening job restore) step made away at = at
away_at (Reading intake) (Reads restore (Ok frame)) made away at = at
away_at (Reading intake) (Reads restore (Err fault)) made away at = peer_ended fault made
away_at (Reading intake) step made away at = at
away_at (Taking intake frame) step made away at = at
away_at (Closing job restore dump) (Closes closed (Ok done)) made away at = at
away_at (Closing job restore dump) (Closes closed (Err fault)) made away at = peer_ended fault made
away_at (Closing job restore dump) step made away at = at
away_at (Adopting job dump) step made away at = at
away_at (Aborting dump end) step made away at = at
away_at (Over end) step made away at = at

none_more : (phase : Phase) (made : List Call) → IsAt phase made → IsAt phase (made ++ [])
none_more phase made at = subst (IsAt phase) (sym (append-nil made)) at

one_at : (plan : Plan) (old : Phase) (step : Step) (made : List Call) → due plan old ≡ Some (due_in step) → IsAt old made
    → IsAt (after old step) (made ++ calls_in (step ∷ []))
one_at plan old (Home (asked, reply)) made e at = home_at plan old asked reply made e at
one_at plan old (Lists result) made e at = none_more (after old (Lists result)) made (away_at old (Lists result) made tt at)
one_at plan old (Opens number base result) made e at =
    none_more (after old (Opens number base result)) made (away_at old (Opens number base result) made tt at)
one_at plan old (Reads restore result) made e at = none_more (after old (Reads restore result)) made (away_at old (Reads restore result) made tt at)
one_at plan old (Closes restore result) made e at =
    none_more (after old (Closes restore result)) made (away_at old (Closes restore result) made tt at)

-- ---- one turn

lacks_at : (old : Phase) (made : List Call) → IsAt old made → IsAt (stopped old E.Memory) made
lacks_at (Reading intake) made at = tt
lacks_at (Taking intake frame) made at = tt
lacks_at (Closing job restore dump) made at = tt
lacks_at (Adopting job dump) made at = tt
lacks_at (Aborting dump end) made at = at
lacks_at phase made at = tt

laid_at : (intake : Intake) (laying : Laying) (calls : List Call) → ArePassed calls → IsAt (taken intake laying) calls
laid_at intake Ended calls passed = passed
laid_at intake Nothing calls passed = passed
laid_at intake (Small file) calls passed = passed
laid_at intake (Large file) calls passed = passed

-- behind these steps
steps_at : (new : Phase) (made : List Call) (steps steps' : List Step) → steps ≡ steps' → IsAt new (made ++ calls_in steps')
    → IsAt new (made ++ calls_in steps)
steps_at new made steps steps' is at = subst (λ (s : List Step). IsAt new (made ++ calls_in s)) (sym is) at

homes_at : (new : Phase) (made : List Call) (steps : List Step) (calls : List Call) → steps ≡ map Home calls → IsAt new (made ++ calls)
    → IsAt new (made ++ calls_in steps)
homes_at new made steps calls is at =
    steps_at new made steps (map Home calls) is (subst (λ (c : List Call). IsAt new (made ++ c)) (sym (home_calls calls)) at)

turn_at : (plan : Plan) (old : Phase) (steps : List Step) (new : Phase) (made : List Call) → Turn plan old steps new → IsAt old made
    → IsAt new (made ++ calls_in steps)
turn_at plan old steps new made (one step is due_is new_is) at =
    subst (λ (p : Phase). IsAt p (made ++ calls_in steps)) (sym new_is)
    (steps_at (after old step) made steps (step ∷ []) is (one_at plan old step made due_is at))
turn_at plan old steps new made (laid intake frame stage step old_is step_is is new_is) at =
    subst (λ (p : Phase). IsAt p (made ++ calls_in steps)) (sym new_is)
    (homes_at (taken intake step.laying) made steps step.calls is (laid_at intake step.laying (made ++ step.calls)
    (passed-append made step.calls (subst (λ (p : Phase). IsAt p made) old_is at)
    (frame_fine intake.dump intake.laying stage frame step step_is).1)))
turn_at plan old steps new made (refused intake frame stage step done call rest refusal old_is step_is calls_are is new_is) at =
    subst (λ (p : Phase). IsAt p (made ++ calls_in steps)) (sym new_is)
    (homes_at (Aborting intake.dump (E.Refused refusal)) made steps (done ++ (call.0, Err refusal) ∷ []) is
    (subst (IsStoppedBy refusal) (append_assoc made done ((call.0, Err refusal) ∷ []))
    (stopped_here refusal (made ++ done) call.0 (passed-append made done (subst (λ (p : Phase). IsAt p made) old_is at)
    (front_passed done (call ∷ rest) (subst ArePassed calls_are (frame_fine intake.dump intake.laying stage frame step step_is).1))))))
turn_at plan old steps new made (foreign intake frame old_is none is new_is) at =
    subst (λ (p : Phase). IsAt p (made ++ calls_in steps)) (sym new_is) tt
turn_at plan old steps new made (endless intake old_is limit is new_is) at =
    subst (λ (p : Phase). IsAt p (made ++ calls_in steps)) (sym new_is) tt
turn_at plan old steps new made (complete newest done old_is is new_is) at =
    subst (λ (p : Phase). IsAt p (made ++ calls_in steps)) (sym new_is) tt
turn_at plan old steps new made (lacking is new_is) at =
    subst (λ (p : Phase). IsAt p (made ++ calls_in steps)) (sym new_is)
    (steps_at (stopped old E.Memory) made steps [] is (none_more (stopped old E.Memory) made (lacks_at old made at)))

-- ---- all turns

turns_at : (plan : Plan) (old new : Phase) (turns : List Taken) (made : List Call) → AreTurns plan old turns new → IsAt old made
    → IsAt new (made ++ calls_in (steps_of turns))
turns_at plan old new [] made are at = none_more new made (subst (λ (p : Phase). IsAt p made) (sym are) at)
turns_at plan old new (turn ∷ turns) made are at =
    subst (IsAt new) (append_assoc made (calls_in turn.steps) (calls_in (steps_of turns))
    ∙ ap (λ (calls : List Call). made ++ calls) (sym (calls_in-append turn.steps (steps_of turns))))
    (turns_at plan turn.to new turns (made ++ calls_in turn.steps) are.1 (turn_at plan old turn.steps turn.to made are.0 at))

pub pull_ended : (plan : Plan) (end : PullEnd) (turns : List Taken) → AreTurns plan Asking turns (Over end)
    → EndedBy end (calls_in (steps_of turns))
pull_ended plan end turns are = turns_at plan Asking (Over end) turns [] are tt
