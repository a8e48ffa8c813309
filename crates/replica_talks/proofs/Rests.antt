-- A pull that failed asks for nothing more: what its turns come to, together.
use Rattle.std.proofs.Common.{◌≡◌, ◌⊎◌, ℕ, true, List, [], ◌∷◌, ◌++◌, map, Some, None, Ok, Err, refl, sym, ap, ◌∙◌, subst, inl, inr, append_assoc}
use Rattle.std.proofs.lemmas.List.{map-append}
use Rattle.stream_traits.specs.Seen.{LinkSeen}
use Rattle.attr_records.specs.Names.{is_host_name}
use Rattle.office_model.specs.declared.event.Event.{Event}
use Rattle.office_model.specs.declared.event.Event.TheVariants as E
use Rattle.office_model.specs.declared.answer.Answer.TheVariants as A
use Rattle.office_model.specs.Step.{Call}
use Rattle.frame_puts.specs.declared.laying.Laying.{Laying}
use Rattle.frame_puts.specs.declared.laying.Laying.TheVariants.{Ended}
use Rattle.peer_exchange.specs.declared.fault.PeerFault.{PeerFault}
use Rattle.peer_exchange.specs.declared.fault.PeerFault.TheVariants as F
use Rattle.peer_calls.specs.Calls.{Heard}
use Rattle.pull_codec.specs.Calls.{HasHeard}
use Rattle.pull_codec.proofs.CallLaws.{runs-heard}
use Rattle.pull_work.specs.declared.plan.Plan.{Plan}
use Rattle.pull_work.specs.declared.ends.PullEnd.{PullEnd}
use Rattle.pull_work.specs.declared.ends.PullEnd.TheVariants.{Refused, PeerRefused, Memory}
use Rattle.pull_work.specs.Steps.{Step, Home, Lists, Opens, Reads, Closes, IsTold, AreTold}
use Rattle.pull_work.specs.Script.{Intake, Phase, Reading, Taking, Aborting, Over, due, due_in, end_by, after, taken, stopped}
use Rattle.pull_work.specs.Runs.{Turn, one, laid, refused, foreign, endless, complete, lacking, Taken, AreTurns, steps_of}
use Rattle.replicas.specs.Replicas.{heard_in}
use Rattle.replica_talks.specs.Faults.{fault_in, faults_in, end_in}
use Rattle.replica_talks.proofs.Failures.{Failed}
use Rattle.replica_talks.proofs.Turns.{JobRanged, IsRanged, StaysUnrefused, call_of, TurnAsks, goes, fails, heard_none, quiet, one_asks}

-- ---- parts of steps

pub heard_in-append : (host : List ℕ) (xs ys : List Step) → heard_in host (xs ++ ys) ≡ heard_in host xs ++ heard_in host ys
heard_in-append host [] ys = refl
heard_in-append host (Lists (Ok there) ∷ xs) ys =
    ap (λ (calls : List Call). (E.Backups host, Ok (A.Backups there.lines there.next there.dump)) ∷ calls) (heard_in-append host xs ys)
heard_in-append host (Opens number base (Ok restore) ∷ xs) ys =
    ap (λ (calls : List Call). (E.OpenRead host number base, Ok (A.Restore restore)) ∷ calls) (heard_in-append host xs ys)
heard_in-append host (Reads restore (Ok frame) ∷ xs) ys =
    ap (λ (calls : List Call). (E.ReadNext restore, Ok (A.Next frame)) ∷ calls) (heard_in-append host xs ys)
heard_in-append host (Closes restore (Ok done) ∷ xs) ys =
    ap (λ (calls : List Call). (E.CloseRead restore, Ok A.Done) ∷ calls) (heard_in-append host xs ys)
heard_in-append host (step ∷ xs) ys = heard_in-append host xs ys

pub faults_in-append : (host : List ℕ) (xs ys : List Step) → faults_in host (xs ++ ys) ≡ faults_in host xs ++ faults_in host ys
faults_in-append host [] ys = refl
faults_in-append host (x ∷ xs) ys =
    ap (λ faults. fault_in host x ++ faults) (faults_in-append host xs ys)
    ∙ sym (append_assoc (fault_in host x) (faults_in host xs) (faults_in host ys))

told_split : (host : List ℕ) (old new : LinkSeen) (xs ys : List Step) → AreTold host old new (xs ++ ys)
    → (mid : LinkSeen) × AreTold host old mid xs × AreTold host mid new ys
told_split host old new [] ys t = (old, refl, t)
told_split host old new (x ∷ xs) ys t = let s = told_split host t.0 new xs ys t.2 in (s.0, (t.0, t.1, s.1), s.2)

-- ---- calls at home alone

told_home : (host : List ℕ) (old mid : LinkSeen) (calls : List Call) → AreTold host old mid (map Home calls) → mid ≡ old
told_home host old mid [] t = t
told_home host old mid (call ∷ calls) t = told_home host t.0 mid calls t.2 ∙ t.1

heard_home : (host : List ℕ) (calls : List Call) → heard_in host (map Home calls) ≡ []
heard_home host [] = refl
heard_home host (call ∷ calls) = heard_home host calls

faults_home : (host : List ℕ) (calls : List Call) → faults_in host (map Home calls) ≡ []
faults_home host [] = refl
faults_home host (call ∷ calls) = faults_home host calls

-- ---- phases

stays_on : (p p' : Phase) → end_in p' ≡ None → StaysUnrefused p p'
stays_on p p' none status e = let no : None ≡ Some (PeerRefused status) = sym none ∙ e in absurd (cc)

taken_ranged : (intake : Intake) (laying : Laying) → JobRanged intake.job → IsRanged (Reading intake) → IsRanged (taken intake laying)
taken_ranged intake Ended job r = r
taken_ranged intake laying job r = r

taken_on : (intake : Intake) (laying : Laying) → end_in (taken intake laying) ≡ None
taken_on intake Ended = refl
taken_on intake laying = refl

stopped_goes : (p : Phase) → IsRanged (stopped p Memory) × StaysUnrefused p (stopped p Memory)
stopped_goes (Aborting dump end) = (tt, λ status e. e)
stopped_goes p = (tt, λ status e. absurd (cc))

stopped_ends : (p : Phase) (end : PullEnd) → end_in p ≡ Some end → (other : PullEnd) × (end_in (stopped p Memory) ≡ Some other)
stopped_ends (Aborting dump end) same e = (end, refl)
stopped_ends (Over end) same e = (Memory, refl)
stopped_ends p same e = absurd (cc)

-- what is asked behind the end: nothing
pub record Rests (host : List ℕ) (p : Phase) (old new : LinkSeen) (steps : List Step) (q : Phase) : Type 0 where
  pub same : new ≡ old
  pub unheard : heard_in host steps ≡ []
  pub fine : faults_in host steps ≡ []
  pub stays : StaysUnrefused p q

module _ (plan : Plan) (named : is_host_name plan.host ≡ true) where
  -- what is told of no steps
  untold : (old mid : LinkSeen) (steps : List Step) → steps ≡ [] → AreTold plan.host old mid steps → mid ≡ old
  untold old mid steps are told = subst (λ (s : List Step). AreTold plan.host old mid s) are told

  quiet_to : (p : Phase) (steps : List Step) (p' to : Phase) (old mid : LinkSeen) → mid ≡ old → heard_in plan.host steps ≡ []
      → faults_in plan.host steps ≡ [] → p' ≡ to → IsRanged to → StaysUnrefused p to → TurnAsks plan.host p steps p' old mid
  quiet_to p steps p' to old mid same none fine is ranged stays =
      quiet plan.host p steps p' old mid same none fine (subst IsRanged (sym is) ranged)
      (subst (λ (q : Phase). StaysUnrefused p q) (sym is) stays)

  turn_asks : (p : Phase) (steps : List Step) (p' : Phase) (old mid : LinkSeen) → Turn plan p steps p' → IsRanged p
      → AreTold plan.host old mid steps → TurnAsks plan.host p steps p' old mid
  turn_asks p steps p' old mid (one step are due_is new) r told =
      let t = subst (λ (s : List Step). AreTold plan.host old mid s) are told in
      let here = subst (λ (seen : LinkSeen). IsTold plan.host old seen step) (sym t.2) t.1 in
      subst (λ (s : List Step). TurnAsks plan.host p s p' old mid) (sym are)
      (subst (λ (q : Phase). TurnAsks plan.host p (step ∷ []) q old mid) (sym new) (one_asks plan named old mid p step due_is r here))
  turn_asks p steps p' old mid (laid intake frame stage made is fits are new) r told =
      let here = subst IsRanged is r in
      quiet_to p steps p' (taken intake made.laying) old mid
      (told_home plan.host old mid made.calls (subst (λ (s : List Step). AreTold plan.host old mid s) are told))
      (ap (heard_in plan.host) are ∙ heard_home plan.host made.calls) (ap (faults_in plan.host) are ∙ faults_home plan.host made.calls) new
      (taken_ranged intake made.laying here.0 here) (stays_on p (taken intake made.laying) (taken_on intake made.laying))
  turn_asks p steps p' old mid (refused intake frame stage made done call rest refusal is fits calls are new) r told =
      let all : List Call = done ++ (call.0, Err refusal) ∷ [] in
      quiet_to p steps p' (Aborting intake.dump (Refused refusal)) old mid
      (told_home plan.host old mid all (subst (λ (s : List Step). AreTold plan.host old mid s) are told))
      (ap (heard_in plan.host) are ∙ heard_home plan.host all) (ap (faults_in plan.host) are ∙ faults_home plan.host all) new tt (λ status e. absurd (cc))
  turn_asks p steps p' old mid (foreign intake frame is none are new) r told =
      quiet_to p steps p' _ old mid (untold old mid steps are told) (ap (heard_in plan.host) are) (ap (faults_in plan.host) are) new tt
      (λ status e. absurd (cc))
  turn_asks p steps p' old mid (endless intake is count are new) r told =
      quiet_to p steps p' _ old mid (untold old mid steps are told) (ap (heard_in plan.host) are) (ap (faults_in plan.host) are) new tt
      (λ status e. absurd (cc))
  turn_asks p steps p' old mid (complete newest done is are new) r told =
      quiet_to p steps p' _ old mid (untold old mid steps are told) (ap (heard_in plan.host) are) (ap (faults_in plan.host) are) new tt
      (λ status e. absurd (cc))
  turn_asks p steps p' old mid (lacking are new) r told =
      let next = stopped_goes p in
      quiet_to p steps p' (stopped p Memory) old mid (untold old mid steps are told) (ap (heard_in plan.host) are) (ap (faults_in plan.host) are) new
      next.0 next.1

  -- ---- behind the end

  record EndedTurn (p : Phase) (steps : List Step) (p' : Phase) (old mid : LinkSeen) : Type 0 where
    pub rests : Rests plan.host p old mid steps p'
    pub end : PullEnd
    pub ends : end_in p' ≡ Some end

  unended : (p to : Phase) (end : PullEnd) → end_in p ≡ Some end → p ≡ to → end_in to ≡ None → ⊥
  unended p to end e is none = let no : Some end ≡ None = sym e ∙ ap end_in is ∙ none in cc

  record EndedOne (p : Phase) (step : Step) (old mid : LinkSeen) : Type 0 where
    pub same : mid ≡ old
    pub unheard : heard_in plan.host (step ∷ []) ≡ []
    pub fine : faults_in plan.host (step ∷ []) ≡ []
    pub on : end_in (after p step) ≡ end_in p

  ended_one : (p : Phase) (step : Step) (end : PullEnd) (old mid : LinkSeen) → end_in p ≡ Some end → due plan p ≡ Some (due_in step)
      → IsTold plan.host old mid step → EndedOne p step old mid
  ended_one (Aborting dump was) (Home call) end old mid e d told = record { same = told; unheard = refl; fine = refl; on = refl }
  ended_one (Aborting dump was) step end old mid e d told = absurd (cc)
  ended_one (Over was) step end old mid e d told = absurd (cc)
  ended_one p step end old mid e d told = absurd (cc)

  ended_turn : (p : Phase) (steps : List Step) (p' : Phase) (end : PullEnd) (old mid : LinkSeen) → end_in p ≡ Some end
      → Turn plan p steps p' → AreTold plan.host old mid steps → EndedTurn p steps p' old mid
  ended_turn p steps p' end old mid e (one step are due_is new) told =
      let t = subst (λ (s : List Step). AreTold plan.host old mid s) are told in
      let here = subst (λ (seen : LinkSeen). IsTold plan.host old seen step) (sym t.2) t.1 in
      let w = ended_one p step end old mid e due_is here in
      let on : end_in p' ≡ end_in p = ap end_in new ∙ w.on in
      record {
        rests = record {
          same = w.same;
          unheard = ap (heard_in plan.host) are ∙ w.unheard;
          fine = ap (faults_in plan.host) are ∙ w.fine;
          stays = λ status f. sym on ∙ f;
        };
        end = end;
        ends = on ∙ e;
      }
  ended_turn p steps p' end old mid e (laid intake frame stage made is fits are new) told =
      absurd (unended p (Taking intake frame) end e is refl)
  ended_turn p steps p' end old mid e (refused intake frame stage made done call rest refusal is fits calls are new) told =
      absurd (unended p (Taking intake frame) end e is refl)
  ended_turn p steps p' end old mid e (foreign intake frame is none are new) told = absurd (unended p (Taking intake frame) end e is refl)
  ended_turn p steps p' end old mid e (endless intake is count are new) told = absurd (unended p (Reading intake) end e is refl)
  ended_turn p steps p' end old mid e (complete newest done is are new) told = absurd (unended p _ end e is refl)
  ended_turn p steps p' end old mid e (lacking are new) told =
      let w = stopped_ends p end e in
      record {
        rests = record {
          same = untold old mid steps are told;
          unheard = ap (heard_in plan.host) are;
          fine = ap (faults_in plan.host) are;
          stays = subst (λ (q : Phase). StaysUnrefused p q) (sym new) (stopped_goes p).1;
        };
        end = w.0;
        ends = ap end_in new ∙ w.1;
      }

  rests : (turns : List Taken) (p : Phase) (end : PullEnd) (old new : LinkSeen) (q : Phase) → end_in p ≡ Some end → AreTurns plan p turns q
      → AreTold plan.host old new (steps_of turns) → Rests plan.host p old new (steps_of turns) q
  rests [] p end old new q e are told = record {
    same = told;
    unheard = refl;
    fine = refl;
    stays = subst (λ (s : Phase). StaysUnrefused p s) (sym are) (λ status f. f);
  }
  rests (turn ∷ turns) p end old new q e are told =
      let s = told_split plan.host old new turn.steps (steps_of turns) told in
      let t = ended_turn p turn.steps turn.to end old s.0 e are.0 s.1 in
      let later = rests turns turn.to t.end s.0 new q t.ends are.1 s.2 in
      record {
        same = later.same ∙ t.rests.same;
        unheard = heard_in-append plan.host turn.steps (steps_of turns) ∙ (λ i. t.rests.unheard i ++ later.unheard i);
        fine = faults_in-append plan.host turn.steps (steps_of turns) ∙ (λ i. t.rests.fine i ++ later.fine i);
        stays = λ status f. t.rests.stays status (later.stays status f);
      }

-- ---- all turns

-- none failed, or one did, behind which nothing was asked
pub data Last (old new : LinkSeen) (faults : List (Event × PeerFault)) : Type 0 where
  none : faults ≡ [] → new ≡ old → Last old new faults
  failed : (event : Event) (fault : PeerFault) → faults ≡ (event, fault) ∷ [] → Failed event fault old new → Last old new faults

-- one was refused, with this status
pub record IsRefused (host : List ℕ) (steps : List Step) (status : ℕ) : Type 0 where
  pub event : Event
  pub only : faults_in host steps ≡ (event, F.Refused status) ∷ []

-- calls that were heard, and perhaps one more that failed
pub record Asked (host : List ℕ) (p : Phase) (old new : LinkSeen) (steps : List Step) (q : Phase) : Type 0 where
  pub heard : List Heard
  pub mid : LinkSeen
  pub has : HasHeard old mid heard
  pub calls_are : map call_of heard ≡ heard_in host steps
  pub last : Last mid new (faults_in host steps)
  pub refused_by : (status : ℕ) → end_in q ≡ Some (PeerRefused status)
      → (end_in p ≡ Some (PeerRefused status)) ⊎ IsRefused host steps status

peer_refused : (fault : PeerFault) (status : ℕ) → Some (end_by fault) ≡ Some (PeerRefused status) → fault ≡ F.Refused status
peer_refused (F.Refused other) status e = let same : other ≡ status = cc (e) in ap F.Refused same
peer_refused fault status e = absurd (cc)

earlier : (host : List ℕ) (p p' : Phase) (xs ys : List Step) (status : ℕ) → StaysUnrefused p p' → faults_in host xs ≡ []
    → (end_in p' ≡ Some (PeerRefused status)) ⊎ IsRefused host ys status
    → (end_in p ≡ Some (PeerRefused status)) ⊎ IsRefused host (xs ++ ys) status
earlier host p p' xs ys status stays fine (inl ends) = inl (stays status ends)
earlier host p p' xs ys status stays fine (inr r) = inr (record {
  event = r.event;
  only = faults_in-append host xs ys ∙ ap (λ (f : List (Event × PeerFault)). f ++ faults_in host ys) fine ∙ r.only;
})

joined : (host : List ℕ) (p : Phase) (xs : List Step) (p' : Phase) (ys : List Step) (q : Phase) (old mid new : LinkSeen)
    → TurnAsks host p xs p' old mid → (IsRanged p' → Asked host p' mid new ys q)
    → ((end : PullEnd) → end_in p' ≡ Some end → Rests host p' mid new ys q) → Asked host p old new (xs ++ ys) q
joined host p xs p' ys q old mid new (goes heard has calls fine ranged stays) later ended =
    let l = later ranged in
    let faults : faults_in host (xs ++ ys) ≡ faults_in host ys =
    faults_in-append host xs ys ∙ ap (λ (f : List (Event × PeerFault)). f ++ faults_in host ys) fine in
    record {
      heard = heard ++ l.heard;
      mid = l.mid;
      has = runs-heard old mid l.mid heard l.heard has l.has;
      calls_are = map-append call_of heard l.heard ∙ (λ i. calls i ++ l.calls_are i) ∙ sym (heard_in-append host xs ys);
      last = subst (λ (f : List (Event × PeerFault)). Last l.mid new f) (sym faults) l.last;
      refused_by = λ status e. earlier host p p' xs ys status stays fine (l.refused_by status e);
    }
joined host p xs p' ys q old mid new (fails event fault unheard failing known ends) later ended =
    let r = ended (end_by fault) ends in
    let faults : faults_in host (xs ++ ys) ≡ (event, fault) ∷ [] = faults_in-append host xs ys ∙ (λ i. failing i ++ r.fine i) in
    record {
      heard = [];
      mid = old;
      has = heard_none old;
      calls_are = sym (heard_in-append host xs ys ∙ (λ i. unheard i ++ r.unheard i));
      last = failed event fault faults (subst (λ (seen : LinkSeen). Failed event fault old seen) (sym r.same) known);
      refused_by = λ status e.
          inr (record {
            event = event;
            only = faults ∙ ap (λ (f : PeerFault). (event, f) ∷ []) (peer_refused fault status (sym ends ∙ r.stays status e));
          });
    }

pub asks : (plan : Plan) → is_host_name plan.host ≡ true → (turns : List Taken) (p : Phase) (old new : LinkSeen) (q : Phase) → IsRanged p
    → AreTurns plan p turns q → AreTold plan.host old new (steps_of turns) → Asked plan.host p old new (steps_of turns) q
asks plan named [] p old new q r are told = record {
  heard = [];
  mid = old;
  has = heard_none old;
  calls_are = refl;
  last = none refl told;
  refused_by = λ status e. inl (sym (ap end_in are) ∙ e);
}
asks plan named (turn ∷ turns) p old new q r are told =
    let s = told_split plan.host old new turn.steps (steps_of turns) told in
    joined plan.host p turn.steps turn.to (steps_of turns) q old s.0 new (turn_asks plan named p turn.steps turn.to old s.0 are.0 r s.1)
    (λ ranged. asks plan named turns turn.to s.0 new q ranged are.1 s.2)
    (λ end ends. rests plan named turns turn.to end s.0 new q ends are.1 s.2)
