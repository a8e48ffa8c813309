-- What the parts of a pull do, each by one turn or two.
use Rattle.std.specs.Prelude.{◌≡◌, ◌<◌, ◌+◌, ◌==◌, ℕ, suc, nat_le, Bool, true, false, if◌then◌else◌, List, [], ◌∷◌, ◌++◌, map, length, drop, get_or, Option, Some, None, Ok, Err}
use Rattle.std.proofs.Common.{refl, sym, ap, ◌∙◌, subst, arith, add-one}
use Rattle.std.proofs.lemmas.Bool.Decides.{nat_tests}
use Rattle.std.proofs.Math.Seq.{drop-cons}
use Rattle.stream_traits.specs.Seen.{LinkSeen}
use Rattle.tree_frames.specs.declared.nodes.Frame.{Frame}
use Rattle.receipts.specs.declared.session.SessionName.{SessionName}
use Rattle.backup_rules.specs.declared.lines.Kind.{Kind}
use Rattle.backup_rules.specs.declared.lines.Line.{Line}
use Rattle.office_model.specs.declared.event.Event.TheVariants as E
use Rattle.office_model.specs.declared.answer.Answer.{Answer}
use Rattle.office_model.specs.declared.answer.Answer.TheVariants as A
use Rattle.office_model.specs.declared.refusal.Refusal.{Refusal}
use Rattle.office_model.specs.Step.{Call}
use Rattle.restore_stream.specs.OneFrame.{IsFrameOf}
use Rattle.listing_back.specs.declared.listing.Listing.{Listing}
use Rattle.peer_exchange.specs.declared.fault.PeerFault.{PeerFault}
use Rattle.peer_asks.specs.Asks.{Asks, Closes as AsksEnd, IsListing, IsOpened}
use Rattle.frame_puts.specs.declared.faults.LayFault.{LayFault}
use Rattle.frame_puts.specs.declared.faults.LayFault.TheVariants as L
use Rattle.frame_puts.specs.declared.laying.Laying.{Laying}
use Rattle.frame_puts.specs.declared.laying.Laying.TheVariants.{Nothing, Small, Large, Ended}
use Rattle.frame_puts.specs.Steps.{frame_step}
use Rattle.frame_puts.specs.Laid.{Laid, Unlaid}
use Rattle.pull_work.specs.declared.plan.Plan.{Plan}
use Rattle.pull_work.specs.declared.calls.Own.{Own}
use Rattle.pull_work.specs.declared.calls.HomeFault.{HomeFault}
use Rattle.pull_work.specs.declared.calls.HomeFault.TheVariants as H
use Rattle.pull_work.specs.declared.ends.PullEnd.{PullEnd}
use Rattle.pull_work.specs.declared.ends.PullEnd.TheVariants.{Done, Refused, PeerForeign, Memory}
use Rattle.pull_work.specs.Compared.{base_in, new_lines}
use Rattle.pull_work.specs.Steps.{Home, Lists, Opens, Reads, Closes}
use Rattle.pull_work.specs.Script.{Job, Intake, Phase, Asking, Adding, AskingAgain, Comparing, Bringing, Opening, Reading, Taking, Closing, Adopting, Aborting, Over, ReadsThere, frame_limit, is_no_host, kind_for, opening, adoption, due, end_by, job_of, intake_of, taken}
use Rattle.pull_work.specs.Runs.{laid, refused, foreign, endless, complete, Goes}
use Rattle.pull_work.specs.Parts.{home_end, lay_end, IsListed, IsUncalled, brought, is_ended}
use Rattle.pull_work.proofs.GoesLaws.{calls_in-home, told_home, turned, called, called_as, asked, passed, lacked, joined_by}

-- ---- events that are called as they are due

pub opening_is : (plan : Plan) (base wanted : Option ℕ) (host : List ℕ) (kind : Kind) → host ≡ plan.host → kind ≡ kind_for base → wanted ≡ base
    → E.OpenDump host kind plan.start None ≡ opening plan wanted
opening_is plan base wanted host kind host_is kind_is same =
    let first : E.OpenDump host kind plan.start None ≡ opening plan base = λ i. E.OpenDump (host_is i) (kind_is i) plan.start None in
    first ∙ ap (opening plan) (sym same)

-- ---- frames that are due

not_same : (m n : ℕ) → m < n → (m == n) ≡ false
not_same m n less = grind (arith, nat_tests)

due_reading : (plan : Plan) (intake : Intake) → intake.read < frame_limit → due plan (Reading intake) ≡ Some (ReadsThere intake.restore)
due_reading plan intake less =
    ap (λ (b : Bool). if b then None else Some (ReadsThere intake.restore)) (not_same intake.read frame_limit less)

pub taken_on : (intake : Intake) (laying : Laying) → is_ended laying ≡ false
    → taken intake laying ≡ Reading (record intake { laying = laying; read = intake.read + 1 })
taken_on intake Nothing e = refl
taken_on intake (Small file) e = refl
taken_on intake (Large file) e = refl
taken_on intake Ended e = absurd (cc)

pub taken_last : (intake : Intake) (laying : Laying) → is_ended laying ≡ true
    → taken intake laying ≡ Closing intake.job intake.restore intake.dump
taken_last intake Nothing e = absurd (cc)
taken_last intake (Small file) e = absurd (cc)
taken_last intake (Large file) e = absurd (cc)
taken_last intake Ended e = refl

-- ---- lines that are left

new_at : (next : ℕ) (lines : List Line) (i : ℕ) (d : Line) (b : Bool) → i < length lines → nat_le next (get_or lines i d).number ≡ b
    → new_lines next (drop i lines)
    ≡ (if b then get_or lines i d ∷ new_lines next (drop (i + 1) lines) else new_lines next (drop (i + 1) lines))
new_at next lines i d b below is =
    ap (new_lines next) (drop-cons lines i d below)
    ∙ ap (λ (t : Bool). if t then get_or lines i d ∷ new_lines next (drop (suc i) lines) else new_lines next (drop (suc i) lines)) is
    ∙ ap (λ (n : ℕ). if b then get_or lines i d ∷ new_lines next (drop n lines) else new_lines next (drop n lines)) (sym (add-one i))

-- a line whose number is below the next one is passed over
pub line_passed : (next : ℕ) (lines : List Line) (i : ℕ) (d : Line) → i < length lines → nat_le next (get_or lines i d).number ≡ false
    → new_lines next (drop i lines) ≡ new_lines next (drop (i + 1) lines)
line_passed next lines i d below is = new_at next lines i d false below is

-- any other is the next one
pub line_next : (next : ℕ) (lines : List Line) (i : ℕ) (d : Line) → i < length lines → nat_le next (get_or lines i d).number ≡ true
    → new_lines next (drop i lines) ≡ get_or lines i d ∷ new_lines next (drop (i + 1) lines)
line_next next lines i d below is = new_at next lines i d true below is

module _ {P : Type 0} (moves : P → List Call → P → Type 0) (none : (p : P) → moves p [] p) (plan : Plan) where
  -- a call that wasn't made for want of memory
  unmade : (p q : P) (seen : LinkSeen) (old new : Phase) → q ≡ p → Goes moves plan p p seen seen old new → Goes moves plan p q seen seen old new
  unmade p q seen old new same goes = subst (λ (r : P). Goes moves plan p r seen seen old new) (sym same) goes

  -- ---- what is at home

  pub own_listed : (p q : P) (seen : LinkSeen) (own : Own) → IsListed moves p q plan.host own
      → Goes moves plan p q seen seen Asking (Comparing own.lines own.next)
  own_listed p q seen own listed =
      called moves plan p q seen Asking (E.Backups plan.host) (Ok (A.Backups own.lines own.next listed.0)) refl listed.1

  pub again_listed : (p q : P) (seen : LinkSeen) (own : Own) → IsListed moves p q plan.host own
      → Goes moves plan p q seen seen AskingAgain (Comparing own.lines own.next)
  again_listed p q seen own listed =
      called moves plan p q seen AskingAgain (E.Backups plan.host) (Ok (A.Backups own.lines own.next listed.0)) refl listed.1

  again_by : (p q : P) (seen : LinkSeen) (fault : HomeFault) → IsUncalled moves p q (E.Backups plan.host) fault
      → Goes moves plan p q seen seen AskingAgain (Over (home_end fault))
  again_by p q seen (H.Refused refusal) moved = called moves plan p q seen AskingAgain (E.Backups plan.host) (Err refusal) refl moved
  again_by p q seen H.Memory same = unmade p q seen AskingAgain (Over Memory) same (lacked moves plan none p seen AskingAgain)

  pub again_failed : (p q : P) (seen : LinkSeen) (fault : HomeFault) (end : PullEnd) → end ≡ home_end fault
      → IsUncalled moves p q (E.Backups plan.host) fault → Goes moves plan p q seen seen AskingAgain (Over end)
  again_failed p q seen fault end is uncalled =
      subst (λ (e : PullEnd). Goes moves plan p q seen seen AskingAgain (Over e)) (sym is) (again_by p q seen fault uncalled)

  pub own_lacking : (p q : P) (seen : LinkSeen) (fault : HomeFault) → fault ≡ H.Memory → IsUncalled moves p q (E.Backups plan.host) fault
      → Goes moves plan p q seen seen Asking (Over Memory)
  own_lacking p q seen fault is uncalled =
      unmade p q seen Asking (Over Memory) (subst (λ (f : HomeFault). IsUncalled moves p q (E.Backups plan.host) f) is uncalled)
      (lacked moves plan none p seen Asking)

  own_by : (p q : P) (seen : LinkSeen) (fault : HomeFault) (refusal : Refusal) (b : Bool) → fault ≡ H.Refused refusal → is_no_host refusal ≡ b
      → IsUncalled moves p q (E.Backups plan.host) fault → Goes moves plan p q seen seen Asking (if b then Adding else Over (Refused refusal))
  own_by p q seen fault refusal b is told uncalled =
      subst (λ (t : Bool). Goes moves plan p q seen seen Asking (if t then Adding else Over (Refused refusal))) told
      (called moves plan p q seen Asking (E.Backups plan.host) (Err refusal) refl
      (subst (λ (f : HomeFault). IsUncalled moves p q (E.Backups plan.host) f) is uncalled))

  pub own_refused : (p q : P) (seen : LinkSeen) (fault : HomeFault) (refusal : Refusal) → fault ≡ H.Refused refusal → is_no_host refusal ≡ false
      → IsUncalled moves p q (E.Backups plan.host) fault → Goes moves plan p q seen seen Asking (Over (Refused refusal))
  own_refused p q seen fault refusal is told uncalled = own_by p q seen fault refusal false is told uncalled

  pub own_missing : (p q : P) (seen : LinkSeen) (fault : HomeFault) (refusal : Refusal) → fault ≡ H.Refused refusal → is_no_host refusal ≡ true
      → IsUncalled moves p q (E.Backups plan.host) fault → Goes moves plan p q seen seen Asking Adding
  own_missing p q seen fault refusal is told uncalled = own_by p q seen fault refusal true is told uncalled

  -- ---- the dump of a restore

  pub opened_as : (p q : P) (seen : LinkSeen) (job : Job) (restore : SessionName) (base : Option ℕ) (host : List ℕ) (kind : Kind) (dump : SessionName)
      → job.base ≡ base → host ≡ plan.host → kind ≡ kind_for base
      → moves p ((E.OpenDump host kind plan.start None, Ok (A.Dump dump)) ∷ []) q
      → Goes moves plan p q seen seen (Opening job restore) (Reading (intake_of job restore dump Nothing 0))
  opened_as p q seen job restore base host kind dump base_is host_is kind_is moved =
      called_as moves plan p q seen (Opening job restore) (opening plan job.base) (E.OpenDump host kind plan.start None) (Ok (A.Dump dump)) refl
      (opening_is plan base job.base host kind host_is kind_is base_is) moved

  pub opened_known : (p q : P) (seen : LinkSeen) (job : Job) (restore : SessionName) (base : Option ℕ) (host : List ℕ) (kind : Kind) (number : ℕ)
      → job.base ≡ base → host ≡ plan.host → kind ≡ kind_for base
      → moves p ((E.OpenDump host kind plan.start None, Ok (A.Already number)) ∷ []) q
      → Goes moves plan p q seen seen (Opening job restore) (Over Memory)
  opened_known p q seen job restore base host kind number base_is host_is kind_is moved =
      called_as moves plan p q seen (Opening job restore) (opening plan job.base) (E.OpenDump host kind plan.start None) (Ok (A.Already number)) refl
      (opening_is plan base job.base host kind host_is kind_is base_is) moved

  pub unopened : (p q : P) (seen : LinkSeen) (job : Job) (restore : SessionName) (base : Option ℕ) (host : List ℕ) (kind : Kind) (refusal : Refusal)
      → job.base ≡ base → host ≡ plan.host → kind ≡ kind_for base
      → moves p ((E.OpenDump host kind plan.start None, Err refusal) ∷ []) q
      → Goes moves plan p q seen seen (Opening job restore) (Over (Refused refusal))
  unopened p q seen job restore base host kind refusal base_is host_is kind_is moved =
      called_as moves plan p q seen (Opening job restore) (opening plan job.base) (E.OpenDump host kind plan.start None) (Err refusal) refl
      (opening_is plan base job.base host kind host_is kind_is base_is) moved

  pub adopted : (p q : P) (seen : LinkSeen) (job : Job) (dump : SessionName) (line : Line) (answer : Answer) → job.line ≡ line
      → moves p ((adoption dump line, Ok answer) ∷ []) q → Goes moves plan p q seen seen (Adopting job dump) (brought job)
  adopted p q seen job dump line answer is moved =
      called_as moves plan p q seen (Adopting job dump) (adoption dump job.line) (adoption dump line) (Ok answer) refl (ap (adoption dump) (sym is)) moved

  pub unadopted : (p q : P) (seen : LinkSeen) (job : Job) (dump : SessionName) (line : Line) (refusal : Refusal) → job.line ≡ line
      → moves p ((adoption dump line, Err refusal) ∷ []) q
      → Goes moves plan p q seen seen (Adopting job dump) (Aborting dump (Refused refusal))
  unadopted p q seen job dump line refusal is moved =
      called_as moves plan p q seen (Adopting job dump) (adoption dump job.line) (adoption dump line) (Err refusal) refl (ap (adoption dump) (sym is)) moved

  -- ---- frames

  pub frame_laid : (p q : P) (seen : LinkSeen) (intake : Intake) (frame : Frame) (laying : Laying)
      → Laid moves p q (λ stage. frame_step intake.dump intake.laying stage frame) laying
      → Goes moves plan p q seen seen (Taking intake frame) (taken intake laying)
  frame_laid p q seen intake frame laying x =
      turned moves plan p q seen seen (Taking intake frame) (taken intake laying) (map Home x.calls)
      (laid intake frame x.stage (record { calls = x.calls; laying = laying }) refl x.is_step refl refl)
      (subst (λ (calls : List Call). moves p calls q) (sym (calls_in-home x.calls)) x.moved) (told_home plan.host seen x.calls)

  unlaid_by : (p q : P) (seen : LinkSeen) (intake : Intake) (frame : Frame) (fault : LayFault)
      → Unlaid moves p q (λ stage. frame_step intake.dump intake.laying stage frame) fault
      → Goes moves plan p q seen seen (Taking intake frame) (Aborting intake.dump (lay_end fault))
  unlaid_by p q seen intake frame (L.Refused refusal) x =
      let made : List Call = x.done ++ (x.call.0, Err refusal) ∷ [] in
      turned moves plan p q seen seen (Taking intake frame) (Aborting intake.dump (Refused refusal)) (map Home made)
      (refused intake frame x.stage x.step x.done x.call x.rest refusal refl x.is_step x.calls_are refl refl)
      (subst (λ (calls : List Call). moves p calls q) (sym (calls_in-home made)) x.moved) (told_home plan.host seen made)
  unlaid_by p q seen intake frame L.Foreign x =
      unmade p q seen (Taking intake frame) (Aborting intake.dump PeerForeign) x.0
      (passed moves plan none p seen (Taking intake frame) (Aborting intake.dump PeerForeign) (foreign intake frame refl x.1 refl refl))

  pub frame_unlaid : (p q : P) (seen : LinkSeen) (intake : Intake) (frame : Frame) (fault : LayFault) (end : PullEnd) → end ≡ lay_end fault
      → Unlaid moves p q (λ stage. frame_step intake.dump intake.laying stage frame) fault
      → Goes moves plan p q seen seen (Taking intake frame) (Aborting intake.dump end)
  frame_unlaid p q seen intake frame fault end is x =
      subst (λ (e : PullEnd). Goes moves plan p q seen seen (Taking intake frame) (Aborting intake.dump e)) (sym is)
      (unlaid_by p q seen intake frame fault x)

  pub frame_read : (p : P) (seen seen' : LinkSeen) (intake : Intake) (frame : Frame) → intake.read < frame_limit
      → Asks seen seen' (E.ReadNext intake.restore) 200 IsFrameOf (Ok frame)
      → Goes moves plan p p seen seen' (Reading intake) (Taking intake frame)
  frame_read p seen seen' intake frame less told =
      asked moves plan none p seen seen' (Reading intake) (Reads intake.restore (Ok frame)) refl (due_reading plan intake less) told

  pub frame_unread : (p : P) (seen seen' : LinkSeen) (intake : Intake) (fault : PeerFault) (end : PullEnd) → intake.read < frame_limit
      → end ≡ end_by fault → Asks seen seen' (E.ReadNext intake.restore) 200 IsFrameOf (Err fault)
      → Goes moves plan p p seen seen' (Reading intake) (Aborting intake.dump end)
  frame_unread p seen seen' intake fault end less is told =
      subst (λ (e : PullEnd). Goes moves plan p p seen seen' (Reading intake) (Aborting intake.dump e)) (sym is)
      (asked moves plan none p seen seen' (Reading intake) (Reads intake.restore (Err fault)) refl (due_reading plan intake less) told)

  pub read_out : (p : P) (seen : LinkSeen) (intake : Intake) → intake.read ≡ frame_limit
      → Goes moves plan p p seen seen (Reading intake) (Aborting intake.dump PeerForeign)
  read_out p seen intake all =
      passed moves plan none p seen (Reading intake) (Aborting intake.dump PeerForeign) (endless intake refl all refl refl)

  -- ---- what is asked of the other server

  pub closed : (p : P) (seen seen' : LinkSeen) (job : Job) (restore dump : SessionName) (done : Unit {0})
      → AsksEnd {T = Unit {0}} seen seen' (E.CloseRead restore) 200 (Ok done)
      → Goes moves plan p p seen seen' (Closing job restore dump) (Adopting job dump)
  closed p seen seen' job restore dump done told =
      asked moves plan none p seen seen' (Closing job restore dump) (Closes restore (Ok done)) refl refl told

  pub unclosed : (p : P) (seen seen' : LinkSeen) (job : Job) (restore dump : SessionName) (fault : PeerFault) (end : PullEnd) → end ≡ end_by fault
      → AsksEnd {T = Unit {0}} seen seen' (E.CloseRead restore) 200 (Err fault)
      → Goes moves plan p p seen seen' (Closing job restore dump) (Aborting dump end)
  unclosed p seen seen' job restore dump fault end is told =
      subst (λ (e : PullEnd). Goes moves plan p p seen seen' (Closing job restore dump) (Aborting dump e)) (sym is)
      (asked moves plan none p seen seen' (Closing job restore dump) (Closes restore (Err fault)) refl refl told)

  pub opened_there : (p : P) (seen seen' : LinkSeen) (base : Option ℕ) (line : Line) (left : List Line) (done : ℕ) (restore : SessionName)
      → Asks seen seen' (E.OpenRead plan.host line.number base) 201 IsOpened (Ok restore)
      → Goes moves plan p p seen seen' (Bringing base (line ∷ left) done) (Opening (job_of base line left done) restore)
  opened_there p seen seen' base line left done restore told =
      asked moves plan none p seen seen' (Bringing base (line ∷ left) done) (Opens line.number base (Ok restore)) refl refl told

  pub unopened_there : (p : P) (seen seen' : LinkSeen) (base : Option ℕ) (line : Line) (left : List Line) (done : ℕ) (fault : PeerFault) (end : PullEnd)
      → end ≡ end_by fault → Asks seen seen' (E.OpenRead plan.host line.number base) 201 IsOpened (Err fault)
      → Goes moves plan p p seen seen' (Bringing base (line ∷ left) done) (Over end)
  unopened_there p seen seen' base line left done fault end is told =
      subst (λ (e : PullEnd). Goes moves plan p p seen seen' (Bringing base (line ∷ left) done) (Over e)) (sym is)
      (asked moves plan none p seen seen' (Bringing base (line ∷ left) done) (Opens line.number base (Err fault)) refl refl told)

  pub listed_there : (p : P) (seen seen' : LinkSeen) (own : List Line) (next : ℕ) (there : Listing) (base : Option ℕ) (lines : List Line)
      → base ≡ base_in own there.lines → lines ≡ there.lines → Asks seen seen' (E.Backups plan.host) 200 IsListing (Ok there)
      → Goes moves plan p p seen seen' (Comparing own next) (Bringing base (new_lines next lines) 0)
  listed_there p seen seen' own next there base lines base_is lines_are told =
      subst (λ (b : Option ℕ). Goes moves plan p p seen seen' (Comparing own next) (Bringing b (new_lines next lines) 0)) (sym base_is)
      (subst (λ (ls : List Line). Goes moves plan p p seen seen' (Comparing own next) (Bringing (base_in own there.lines) (new_lines next ls) 0))
      (sym lines_are) (asked moves plan none p seen seen' (Comparing own next) (Lists (Ok there)) refl refl told))

  pub unlisted_there : (p : P) (seen seen' : LinkSeen) (own : List Line) (next : ℕ) (fault : PeerFault) (end : PullEnd) → end ≡ end_by fault
      → Asks seen seen' (E.Backups plan.host) 200 IsListing (Err fault)
      → Goes moves plan p p seen seen' (Comparing own next) (Over end)
  unlisted_there p seen seen' own next fault end is told =
      subst (λ (e : PullEnd). Goes moves plan p p seen seen' (Comparing own next) (Over e)) (sym is)
      (asked moves plan none p seen seen' (Comparing own next) (Lists (Err fault)) refl refl told)

  -- ---- the end

  pub all_brought : (p : P) (seen : LinkSeen) (newest : Option ℕ) (lines : List Line) (done : ℕ) → lines ≡ []
      → Goes moves plan p p seen seen (Bringing newest lines done) (Over (Done done))
  all_brought p seen newest lines done none_left =
      passed moves plan none p seen (Bringing newest lines done) (Over (Done done))
      (complete newest done (ap (λ (ls : List Line). Bringing newest ls done) none_left) refl refl)

-- the next line is brought
pub next_goes : {P : Type 0} (moves : P → List Call → P → Type 0)
    (joined : (p q r : P) (xs ys : List Call) → moves p xs q → moves q ys r → moves p (xs ++ ys) r) (plan : Plan) (p q r : P)
    (seen mid seen' : LinkSeen) (old : Phase) (newest : Option ℕ) (lines : List Line) (line : Line) (rest : List Line) (done : ℕ) (new : Phase)
    → lines ≡ line ∷ rest → Goes moves plan p q seen mid old (Bringing newest lines done)
    → Goes moves plan q r mid seen' (Bringing newest (line ∷ rest) done) new → Goes moves plan p r seen seen' old new
next_goes moves joined plan p q r seen mid seen' old newest lines line rest done new is first behind =
    joined_by moves plan joined p q r seen mid seen' old (Bringing newest (line ∷ rest) done) new
    (subst (λ (ls : List Line). Goes moves plan p q seen mid old (Bringing newest ls done)) is first) behind
