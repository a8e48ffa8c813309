-- What a turn of a pull asks of the other server, and what comes of it.
use Rattle.std.proofs.Common.{◌≡◌, ℕ, ◌^◌, ◌==◌, nat_lt, Bool, true, false, if◌then◌else◌, List, [], ◌∷◌, map, Option, Some, None, Result, Ok, Err, refl, sym, subst}
use Rattle.stream_traits.specs.Seen.{LinkSeen}
use Rattle.attr_records.specs.Names.{is_host_name}
use Rattle.tree_frames.specs.declared.nodes.Frame.{Frame}
use Rattle.backup_rules.specs.declared.lines.Line.{Line}
use Rattle.receipts.specs.declared.session.SessionName.{SessionName}
use Rattle.office_model.specs.declared.event.Event.{Event}
use Rattle.office_model.specs.declared.event.Event.TheVariants as E
use Rattle.office_model.specs.declared.answer.Answer.TheVariants as A
use Rattle.office_model.specs.declared.refusal.Refusal.{Refusal}
use Rattle.office_model.specs.Step.{Call}
use Rattle.listing_back.specs.declared.listing.Listing.{Listing}
use Rattle.peer_exchange.specs.declared.fault.PeerFault.{PeerFault}
use Rattle.peer_exchange.specs.SeveralLaws.{AreExchanged-none}
use Rattle.restore_stream.specs.OneFrame.{IsFrameOf}
use Rattle.peer_asks.specs.Asks.{most, IsListing, IsOpened}
use Rattle.peer_calls.specs.Calls.{Heard}
use Rattle.pull_codec.specs.Codec.{may, is_session, is_base}
use Rattle.pull_codec.specs.Calls.{HasHeard, HasHeardOne}
use Rattle.pull_codec.proofs.CallLaws.{calls-heard}
use Rattle.pull_work.specs.declared.plan.Plan.{Plan}
use Rattle.pull_work.specs.declared.ends.PullEnd.{PullEnd}
use Rattle.pull_work.specs.declared.ends.PullEnd.TheVariants.{Refused, PeerRefused}
use Rattle.pull_work.specs.Steps.{Step, Home, Lists, Opens, Reads, Closes, IsTold}
use Rattle.pull_work.specs.Script.{Job, Phase, Asking, Adding, AskingAgain, Comparing, Bringing, Opening, Reading, Taking, Closing, Adopting, Aborting, Over, Due, ListsThere, OpensThere, ReadsThere, ClosesThere, due, due_in, frame_limit, end_by, is_no_host, after}
use Rattle.pull_work.specs.Compared.{base_in, new_lines}
use Rattle.replicas.specs.Replicas.{heard_in}
use Rattle.replica_talks.specs.Faults.{faults_in, end_in}
use Rattle.replica_talks.proofs.Ranges.{HasNumber, HaveNumbers, listing_ranged, filter_ranged, base_ranged, opened_ranged, both_true}
use Rattle.replica_talks.proofs.Failures.{Failed, ask_failed, end_failed, listing_unread, opened_unread, next_unread}

-- ---- the numbers of a phase have their bits

pub record JobRanged (job : Job) : Type 0 where
  pub line : HasNumber job.line
  pub base : is_base job.base ≡ true
  pub left : HaveNumbers job.left

abbrev pub IsRanged : Phase → Type 0
IsRanged (Bringing newest lines done) = (is_base newest ≡ true) × HaveNumbers lines
IsRanged (Opening job restore) = JobRanged job × (is_session restore ≡ true)
IsRanged (Reading intake) = JobRanged intake.job × (is_session intake.restore ≡ true)
IsRanged (Taking intake frame) = JobRanged intake.job × (is_session intake.restore ≡ true)
IsRanged (Closing job restore dump) = JobRanged job × (is_session restore ≡ true)
IsRanged (Adopting job dump) = JobRanged job
IsRanged phase = Unit {0}

-- only a pull that ends by a refusal ends so behind it
abbrev pub StaysUnrefused : Phase → Phase → Type 0
StaysUnrefused old new = (status : ℕ) → end_in new ≡ Some (PeerRefused status) → end_in old ≡ Some (PeerRefused status)

-- ---- what a turn comes to

abbrev pub call_of : Heard → Call
call_of h = (h.event, h.reply)

pub data TurnAsks (host : List ℕ) (p : Phase) (steps : List Step) (p' : Phase) (old mid : LinkSeen) : Type 0 where
  -- these calls were heard, and none failed
  goes : (heard : List Heard) → HasHeard old mid heard → map call_of heard ≡ heard_in host steps → faults_in host steps ≡ [] → IsRanged p'
      → StaysUnrefused p p' → TurnAsks host p steps p' old mid
  -- one failed, and the pull ends so
  fails : (event : Event) (fault : PeerFault) → heard_in host steps ≡ [] → faults_in host steps ≡ (event, fault) ∷ [] → Failed event fault old mid
      → end_in p' ≡ Some (end_by fault) → TurnAsks host p steps p' old mid

pub heard_none : (seen : LinkSeen) → HasHeard seen seen []
heard_none seen = record { said = tt; exchanged = AreExchanged-none most seen }

-- nothing was asked
pub quiet : (host : List ℕ) (p : Phase) (steps : List Step) (p' : Phase) (old mid : LinkSeen) → mid ≡ old → heard_in host steps ≡ []
    → faults_in host steps ≡ [] → IsRanged p' → StaysUnrefused p p' → TurnAsks host p steps p' old mid
quiet host p steps p' old mid same none fine ranged stays =
    goes [] (subst (λ (seen : LinkSeen). HasHeard old seen []) (sym same) (heard_none old)) (sym none) fine ranged stays

-- ---- calls at home

abbrev HomeGoes : Phase → Phase → Type 0
HomeGoes old new = IsRanged new × StaysUnrefused old new

unended : (p : Phase) (end : PullEnd) → ((status : ℕ) → end ≡ PeerRefused status → ⊥) → StaysUnrefused p (Over end)
unended p end other status e = let same : end ≡ PeerRefused status = cc (e) in absurd (other status same)

asking_ends : (refusal : Refusal) (b : Bool) → HomeGoes Asking (if b then Adding else Over (Refused refusal))
asking_ends refusal true = (tt, λ status e. absurd (cc))
asking_ends refusal false = (tt, λ status e. absurd (cc))

home_goes : (p : Phase) (call : Call) → IsRanged p → HomeGoes p (after p (Home call))
home_goes Asking (asked, Ok (A.Backups lines next dump)) r = (tt, λ status e. e)
home_goes Asking (asked, Ok answer) r = (tt, λ status e. e)
home_goes Asking (asked, Err refusal) r = asking_ends refusal (is_no_host refusal)
home_goes Adding (asked, Ok answer) r = (tt, λ status e. e)
home_goes Adding (asked, Err refusal) r = (tt, λ status e. absurd (cc))
home_goes AskingAgain (asked, Ok (A.Backups lines next dump)) r = (tt, λ status e. e)
home_goes AskingAgain (asked, Ok answer) r = (tt, λ status e. e)
home_goes AskingAgain (asked, Err refusal) r = (tt, λ status e. absurd (cc))
home_goes (Comparing own next) call r = (tt, λ status e. e)
home_goes (Bringing newest [] done) call r = (r, λ status e. e)
home_goes (Bringing newest (line ∷ lines) done) call r = (r, λ status e. e)
home_goes (Opening job restore) (asked, Ok (A.Dump dump)) r = (r, λ status e. e)
home_goes (Opening job restore) (asked, Ok (A.Already number)) r = (tt, λ status e. absurd (cc))
home_goes (Opening job restore) (asked, Ok answer) r = (r, λ status e. e)
home_goes (Opening job restore) (asked, Err refusal) r = (tt, λ status e. absurd (cc))
home_goes (Reading intake) call r = (r, λ status e. e)
home_goes (Taking intake frame) call r = (r, λ status e. e)
home_goes (Closing job restore dump) call r = (r, λ status e. e)
home_goes (Adopting job dump) (asked, Ok answer) r = ((r.line, r.left), λ status e. e)
home_goes (Adopting job dump) (asked, Err refusal) r = (tt, λ status e. absurd (cc))
home_goes (Aborting dump end) call r = (tt, λ status e. e)
home_goes (Over end) call r = (tt, λ status e. e)

-- ---- what is asked

no_due : (plan_due : Option Due) (d e : Due) → plan_due ≡ Some d → plan_due ≡ Some e → d ≡ e
no_due plan_due d e a b = cc

reads_due : (b : Bool) (d e : Due) → (if b then None else Some d) ≡ Some e → d ≡ e
reads_due true d e is = absurd (cc)
reads_due false d e is = cc (is)

module _ (plan : Plan) (named : is_host_name plan.host ≡ true) (old mid : LinkSeen) where
  abbrev Asks : Phase → Step → Type 0
  Asks p step = due plan p ≡ Some (due_in step) → IsRanged p → IsTold plan.host old mid step
      → TurnAsks plan.host p (step ∷ []) (after p step) old mid

  one_heard : (p : Phase) (step : Step) (p' : Phase) (call : Call) → HasHeardOne old mid call.0 call.1
      → heard_in plan.host (step ∷ []) ≡ call ∷ [] → faults_in plan.host (step ∷ []) ≡ [] → IsRanged p' → StaysUnrefused p p'
      → TurnAsks plan.host p (step ∷ []) p' old mid
  one_heard p step p' call x here fine ranged stays =
      goes (record { event = call.0; response = x.response; reply = call.1 } ∷ []) x.heard (sym here) fine ranged stays

  lists_asks : (p : Phase) (result : Result Listing PeerFault) → Asks p (Lists result)
  lists_asks (Comparing own next) (Ok there) e r told =
      let numbers = listing_ranged told.body there told.reads in
      one_heard (Comparing own next) (Lists (Ok there)) (Bringing (base_in own there.lines) (new_lines next there.lines) 0)
      (E.Backups plan.host, Ok (A.Backups there.lines there.next there.dump)) (calls-heard.listing old mid plan.host there named told)
      refl refl (base_ranged own there.lines numbers, filter_ranged _ there.lines numbers) (λ status f. f)
  lists_asks (Comparing own next) (Err fault) e r told =
      fails (E.Backups plan.host) fault refl refl
      (ask_failed (E.Backups plan.host) fault old mid IsListing named (listing_unread plan.host) told) refl
  lists_asks (Reading intake) result e r told =
      let no : ReadsThere intake.restore ≡ ListsThere = reads_due (intake.read == frame_limit) _ _ e in absurd (cc)
  lists_asks (Bringing newest [] done) result e r told = absurd (cc)
  lists_asks (Bringing newest (line ∷ lines) done) result e r told = absurd (cc)
  lists_asks p result e r told = absurd (cc)

  may_open : (number : ℕ) (base : Option ℕ) → nat_lt number (2 ^ 32) ≡ true → is_base base ≡ true
      → may (E.OpenRead plan.host number base) ≡ true
  may_open number base a b = both_true named (both_true a b)

  -- what is due for the first line that is left
  opens_due : (line : Line) (newest : Option ℕ) (number : ℕ) (base : Option ℕ)
      → ◌≡◌ {A = Option Due} (Some (OpensThere line.number newest)) (Some (OpensThere number base)) → (line.number ≡ number) × (newest ≡ base)
  opens_due line newest number base e = (cc (e), cc (e))

  opens_asks : (p : Phase) (number : ℕ) (base : Option ℕ) (result : Result SessionName PeerFault) → Asks p (Opens number base result)
  opens_asks (Bringing newest (line ∷ lines) done) number base (Ok restore) e r told =
      let same = opens_due line newest number base e in
      let fits = may_open number base (subst (λ (n : ℕ). nat_lt n (2 ^ 32) ≡ true) same.0 r.1.0)
      (subst (λ (b : Option ℕ). is_base b ≡ true) same.1 r.0) in
      one_heard (Bringing newest (line ∷ lines) done) (Opens number base (Ok restore))
      (Opening (record { line = line; base = newest; left = lines; done = done }) restore)
      (E.OpenRead plan.host number base, Ok (A.Restore restore)) (calls-heard.opened old mid plan.host number base restore fits told)
      refl refl (record { line = r.1.0; base = r.0; left = r.1.1 }, opened_ranged told.body restore told.reads) (λ status f. f)
  opens_asks (Bringing newest (line ∷ lines) done) number base (Err fault) e r told =
      let same = opens_due line newest number base e in
      let fits = may_open number base (subst (λ (n : ℕ). nat_lt n (2 ^ 32) ≡ true) same.0 r.1.0)
      (subst (λ (b : Option ℕ). is_base b ≡ true) same.1 r.0) in
      fails (E.OpenRead plan.host number base) fault refl refl
      (ask_failed (E.OpenRead plan.host number base) fault old mid IsOpened fits (opened_unread plan.host number base) told) refl
  opens_asks (Reading intake) number base result e r told =
      let no : ReadsThere intake.restore ≡ OpensThere number base = reads_due (intake.read == frame_limit) _ _ e in absurd (cc)
  opens_asks p number base result e r told = absurd (cc)

  same_session : (a b : SessionName) → a ≡ b → is_session a ≡ true → is_session b ≡ true
  same_session a b e fits = subst (λ (s : SessionName). is_session s ≡ true) e fits

  reads_asks : (p : Phase) (restore : SessionName) (result : Result Frame PeerFault) → Asks p (Reads restore result)
  reads_asks (Reading intake) restore (Ok frame) e r told =
      let same : ReadsThere intake.restore ≡ ReadsThere restore = reads_due (intake.read == frame_limit) _ _ e in
      let fits = same_session intake.restore restore (cc (same)) r.1 in
      one_heard (Reading intake) (Reads restore (Ok frame)) (Taking intake frame) (E.ReadNext restore, Ok (A.Next frame))
      (calls-heard.next old mid restore frame fits told) refl refl r (λ status f. f)
  reads_asks (Reading intake) restore (Err fault) e r told =
      let same : ReadsThere intake.restore ≡ ReadsThere restore = reads_due (intake.read == frame_limit) _ _ e in
      let fits = same_session intake.restore restore (cc (same)) r.1 in
      fails (E.ReadNext restore) fault refl refl
      (ask_failed (E.ReadNext restore) fault old mid IsFrameOf fits (next_unread restore) told) refl
  reads_asks (Bringing newest [] done) restore result e r told = absurd (cc)
  reads_asks (Bringing newest (line ∷ lines) done) restore result e r told = absurd (cc)
  reads_asks p restore result e r told = absurd (cc)

  closes_due : (a b : SessionName) → ◌≡◌ {A = Option Due} (Some (ClosesThere a)) (Some (ClosesThere b)) → a ≡ b
  closes_due a b e = cc (e)

  closes_asks : (p : Phase) (restore : SessionName) (result : Result (Unit {0}) PeerFault) → Asks p (Closes restore result)
  closes_asks (Closing job opened dump) restore (Ok done) e r told =
      let fits = same_session opened restore (closes_due opened restore e) r.1 in
      one_heard (Closing job opened dump) (Closes restore (Ok done)) (Adopting job dump) (E.CloseRead restore, Ok A.Done)
      (calls-heard.closed old mid restore fits told) refl refl r.0 (λ status f. f)
  closes_asks (Closing job opened dump) restore (Err fault) e r told =
      let fits = same_session opened restore (closes_due opened restore e) r.1 in
      fails (E.CloseRead restore) fault refl refl (end_failed (E.CloseRead restore) fault old mid fits told) refl
  closes_asks (Reading intake) restore result e r told =
      let no : ReadsThere intake.restore ≡ ClosesThere restore = reads_due (intake.read == frame_limit) _ _ e in absurd (cc)
  closes_asks (Bringing newest [] done) restore result e r told = absurd (cc)
  closes_asks (Bringing newest (line ∷ lines) done) restore result e r told = absurd (cc)
  closes_asks p restore result e r told = absurd (cc)

  pub one_asks : (p : Phase) (step : Step) → Asks p step
  one_asks p (Home call) e r told =
      let next = home_goes p call r in quiet plan.host p (Home call ∷ []) (after p (Home call)) old mid told refl refl next.0 next.1
  one_asks p (Lists result) e r told = lists_asks p result e r told
  one_asks p (Opens number base result) e r told = opens_asks p number base result e r told
  one_asks p (Reads restore result) e r told = reads_asks p restore result e r told
  one_asks p (Closes restore result) e r told = closes_asks p restore result e r told
