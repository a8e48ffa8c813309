-- What a pull leaves on the disk, by the law of a replica.
--     makes_replica
use Rattle.std.specs.Prelude.{◌⊎◌, ◌++◌}
use Rattle.std.specs.List.{Contains}
use Rattle.std.proofs.Common.{◌≡◌, ℕ, ◌+◌, Bool, true, false, List, [], ◌∷◌, Ok, Err, refl, sym, ap, subst, inl, inr, arith}
use Rattle.std.proofs.lemmas.List.{append-nil}
use native.Mathlib.Numerals.{unary_clauses}
use Rattle.stream_traits.specs.Seen.{LinkSeen}
use Rattle.disk_trait.specs.declared.disk.Disk.{Ghosts as DiskGhosts}
use Rattle.disk_trait.specs.Files.{Files}
use Rattle.disk_trait.specs.ImagesLaws.{only_wider}
use Rattle.journal_view.specs.FoundLaws.{finds_wider}
use Rattle.office_files.specs.Stands.{StandsFor}
use Rattle.office_model.specs.declared.event.Event.{Event}
use Rattle.office_model.specs.declared.event.Event.TheVariants as V
use Rattle.office_model.specs.Meaning.{Judged, Carried}
use Rattle.office_model.specs.Office.{Office, Durable, Host, Names, raised, reopened}
use Rattle.office_model.specs.Step.{Call, State, Running, Halted, meaning_of}
use Rattle.restore_histories.specs.Listed.{Shown}
use Rattle.store_parts.specs.Held.{IsEither}
use Rattle.store_parts.specs.Runs.{MayRecover}
use Rattle.store_opening.specs.Reopens.{first_of, second_of}
use Rattle.serve_workers.specs.Stores.{LeftBy, MayRecoverIn, is_reopen}
use Rattle.pull_work.specs.declared.plan.Plan.{Plan}
use Rattle.pull_work.specs.declared.ends.PullEnd.{PullEnd}
use Rattle.pull_work.specs.declared.ends.PullEnd.TheVariants.{Done, PeerForeign}
use Rattle.pull_work.specs.Steps.{Step, Lists, Opens, Reads, Closes, calls_in}
use Rattle.pull_work.specs.Script.{Asking, Over}
use Rattle.pull_work.specs.Runs.{Taken, AreTurns, steps_of}
use Rattle.replicas.specs.Replicas.{IsReplica, Brings, BringsIn, BringsAll, StaysReplica, Pulls, shown_in, wanted}
use Rattle.replicas.specs.ReplicaLaws.{pull_brings, done_brings_all}
use Rattle.replicas.specs.Stops.{IsMadeBy, MayKeep}
use Rattle.replicas.specs.StoppedLaws.{stopped_pull_brings}
use Rattle.replicas.specs.Foreign.{IsForeign, SaysForeign, ReadsAll}
use Rattle.replicas.specs.ForeignLaws.{foreign_is_read}
use Rattle.peer_exchange.specs.declared.fault.PeerFault.{PeerFault}
use Rattle.peer_exchange.specs.declared.fault.PeerFault.TheVariants as F
use Rattle.replica_talks.specs.Faults.{fault_in, faults_in}
use Rattle.replica_talks.specs.Peers.{Talks, EndsEarly}
use Rattle.replica_talks.proofs.Served.{talks_heard}
use Rattle.replica_talks.proofs.Cuts.{foreign_is_cut}
use Rattle.admin_cli.specs.Run.{IsServed}
use Rattle.admin_cli.specs.Replicated.{HasBrought, BringsOnDisk, MakesReplica}
use Rattle.admin_cli.proofs.OtherLaws.{IsOther, AreOthers}
use Rattle.admin_cli.proofs.PullCalls.{pull_others}

-- ---- the two offices of a state

both_brought : (old : List Host) (wants : List Shown) (host : List ℕ) (state : State) → BringsIn old wants host state
    → Brings old wants host (first_of state).hosts × Brings old wants host (second_of state).hosts
both_brought old wants host (Running office names) b = (b, b)
both_brought old wants host (Halted before next names) b = b

both_agree : (first : List Host) (host : List ℕ) (state : State) → StaysReplica first host state
    → IsReplica (first_of state).hosts first host × IsReplica (second_of state).hosts first host
both_agree first host (Running office names) b = (b, b)
both_agree first host (Halted before next names) b = b

all_shown : (old : List Host) (wants : List Shown) (host : List ℕ) (state : State) → BringsAll old wants host state
    → (second_of state ≡ first_of state) × (shown_in (first_of state).hosts host ≡ shown_in old host ++ wants)
all_shown old wants host (Running office names) all = (refl, all)
all_shown old wants host (Halted before next names) all = absurd all

-- ---- a crash within a call

other_is : (event : Event) → IsOther event → is_reopen event ≡ false
other_is V.Reopen other = absurd other
other_is event other = refl

no_reopening : (before after : List Call) (call : Call) → AreOthers (before ++ call ∷ after) → is_reopen call.0 ≡ false
no_reopening [] after call others = other_is call.0 others.0
no_reopening (it ∷ before) after call others = no_reopening before after call others.1

-- what an opening finds then is an office that the stop may have left
abbrev Kept : (List ℕ → List ℕ) → State → Event → Files → Type 0
Kept digest_of mid event found = (kept : Durable) × MayKeep mid event kept × StandsFor digest_of found kept

kept_of : (digest_of : List ℕ → List ℕ) (pools : Bool) (names : Names) (office : Office) (judged : Judged Carried) (found : Files)
    → MayRecover digest_of pools names office judged found
    → (kept : Durable) × ((kept ≡ office.durable) ⊎ IsMadeBy pools names office.durable judged kept) × StandsFor digest_of found kept
kept_of digest_of pools names office (Ok carried) found (inl stands) = (office.durable, inl refl, stands)
kept_of digest_of false names office (Ok carried) found (inr stands) = (carried.after.durable, inr refl, stands)
kept_of digest_of true names office (Ok carried) found (inr next) = (next.0, inr next.1, next.2)
kept_of digest_of pools names office (Err rule) found stands = (office.durable, inl refl, stands)

kept_in : (digest_of : List ℕ → List ℕ) (mid : State) (event : Event) (found : Files) → LeftBy digest_of false mid event found
    → Kept digest_of mid event found
kept_in digest_of (Running office names) event found may =
    kept_of digest_of (meaning_of event).pools names office ((meaning_of event).carried office names) found may
kept_in digest_of (Halted a b names) event found (inl stands) = (a, inl refl, stands)
kept_in digest_of (Halted a b names) event found (inr stands) = (b, inr refl, stands)

-- ---- foreign answers

among_more : (x y : Event × PeerFault) (xs : List (Event × PeerFault)) → Contains xs y → Contains (x ∷ xs) y
among_more x y xs c = (c.0 + 1, omega (arith, c.1), simp unary_clauses c.2)

first_said : (host : List ℕ) (step : Step) (steps : List Step) → IsForeign step
    → (event : Event) × Contains (fault_in host step ++ faults_in host steps) (event, F.Foreign)
first_said host (Lists (Err fault)) steps e = (V.Backups host, (0, omega arith, ap (λ (f : PeerFault). (V.Backups host, f)) e))
first_said host (Opens number base (Err fault)) steps e =
    (V.OpenRead host number base, (0, omega arith, ap (λ (f : PeerFault). (V.OpenRead host number base, f)) e))
first_said host (Reads restore (Err fault)) steps e = (V.ReadNext restore, (0, omega arith, ap (λ (f : PeerFault). (V.ReadNext restore, f)) e))
first_said host (Closes restore (Err fault)) steps e = (V.CloseRead restore, (0, omega arith, ap (λ (f : PeerFault). (V.CloseRead restore, f)) e))
first_said host step steps e = absurd e

behind_said : (host : List ℕ) (step : Step) (steps : List Step) (y : Event × PeerFault) → Contains (faults_in host steps) y
    → Contains (fault_in host step ++ faults_in host steps) y
behind_said host (Lists (Err fault)) steps y c = among_more (V.Backups host, fault) y (faults_in host steps) c
behind_said host (Opens number base (Err fault)) steps y c = among_more (V.OpenRead host number base, fault) y (faults_in host steps) c
behind_said host (Reads restore (Err fault)) steps y c = among_more (V.ReadNext restore, fault) y (faults_in host steps) c
behind_said host (Closes restore (Err fault)) steps y c = among_more (V.CloseRead restore, fault) y (faults_in host steps) c
behind_said host step steps y c = c

said_foreign : (host : List ℕ) (steps : List Step) → SaysForeign steps → (event : Event) × Contains (faults_in host steps) (event, F.Foreign)
said_foreign host [] none = absurd none
said_foreign host (step ∷ steps) (inl here) = first_said host step steps here
said_foreign host (step ∷ steps) (inr there) =
    let r = said_foreign host steps there in (r.0, behind_said host step steps (r.0, F.Foreign) r.1)

-- ---- the disk

brings_none : (old first : List Host) (host : List ℕ) (kept : Durable) → kept.hosts ≡ old → IsReplica old first host
    → HasBrought old first host kept
brings_none old first host kept same replica = record {
  brings = subst (λ (hosts : List Host). Brings old (wanted old first host) host hosts) (sym same) (0, sym (append-nil _), λ other apart. refl);
  replica = subst (λ (hosts : List Host). IsReplica hosts first host) (sym same) replica;
}

module _ {D : Type 0} (d : DiskGhosts D) (digest_of : List ℕ → List ℕ) (disk disk' : D) (plan : Plan) (turns : List Taken) (end : PullEnd)
    (halted : Bool) (a b : Durable) (first : Office) (there : Names)
    (served : IsServed d digest_of disk disk' (calls_in (steps_of turns)) halted a b) (old new : LinkSeen) (input wrote : List ℕ)
    (talks : Talks plan first there turns (Over end) old new input wrote) where
  abbrev home : Office
  home = reopened served.office

  abbrev pulls : (last : PullEnd) → end ≡ last → IsReplica served.office.hosts first.hosts plan.host
      → Pulls plan home first (Over last) served.last
  pulls last is replica = record {
    names = served.names;
    faults = served.opening;
    faults' = d.fault_count disk';
    there = there;
    turns = turns;
    sound = served.sound.office;
    are = subst (λ (e : PullEnd). AreTurns plan Asking turns (Over e)) is talks.are;
    leads = served.history;
    heard = talks_heard plan first there turns (Over end) old new input wrote talks;
    replica = replica;
  }

  -- what a crash since the first sync leaves
  abbrev Left : Files → Type 0
  Left found =
      IsEither digest_of served.office (raised served.office) found
      ⊎ MayRecoverIn digest_of (Running home served.names) served.opening (calls_in (steps_of turns)) found

  abbrev Has : Files → Type 0
  Has found = (kept : Durable) × StandsFor digest_of found kept × HasBrought served.office.hosts first.hosts plan.host kept

  left_has : IsReplica served.office.hosts first.hosts plan.host → (found : Files) → Left found → Has found
  left_has replica found (inl (inl stands)) = (served.office, stands, brings_none served.office.hosts first.hosts plan.host served.office refl replica)
  left_has replica found (inl (inr stands)) =
      (raised served.office, stands, brings_none served.office.hosts first.hosts plan.host (raised served.office) refl replica)
  left_has replica found (inr in_call) =
      let others = subst AreOthers in_call.calls_are (pull_others plan Asking (Over end) turns talks.are) in
      let not : is_reopen in_call.call.0 ≡ false = no_reopening in_call.before in_call.after in_call.call others in
      let k : Kept digest_of in_call.mid in_call.call.0 found =
      kept_in digest_of in_call.mid in_call.call.0 found
      (subst (λ (r : Bool). LeftBy digest_of r in_call.mid in_call.call.0 found) not in_call.may) in
      let s =
      stopped_pull_brings plan home first (Over end) served.last k.0 (pulls end refl replica) (record {
        before = in_call.before;
        call = in_call.call;
        after = in_call.after;
        mid = in_call.mid;
        count = in_call.count;
        calls_are = in_call.calls_are;
        leads = in_call.leads;
        may = k.1;
      }) in
      (k.0, k.2, record { brings = s.0; replica = s.1 })

  brings : IsReplica served.office.hosts first.hosts plan.host
      → BringsOnDisk d digest_of disk disk' a b served.office.hosts first.hosts plan.host end
  brings replica =
      let r = pull_brings plan home first (Over end) served.last (pulls end refl replica) in
      let has = both_brought served.office.hosts (wanted served.office.hosts first.hosts plan.host) plan.host served.last r.0 in
      let agree = both_agree first.hosts plan.host served.last r.1 in
      record {
        before = first_of served.last;
        next = second_of served.last;
        left = served.left;
        first_has = record { brings = has.0; replica = agree.0 };
        second_has = record { brings = has.1; replica = agree.1 };
        synced = served.synced;
        up_to = served.up_to;
        crash = only_wider served.crash (λ image finds. finds_wider Left Has image (left_has replica) finds);
        all = λ count is.
            let done = done_brings_all plan home first count served.last (pulls (Done count) is replica) in
            let shown = all_shown served.office.hosts (wanted served.office.hosts first.hosts plan.host) plan.host served.last done.1 in
            (done.0, shown.0, shown.1);
      }

  foreign : IsReplica served.office.hosts first.hosts plan.host → end ≡ PeerForeign → EndsEarly plan.host (steps_of turns) input ⊎ ReadsAll turns
  foreign replica is = by (foreign_is_read plan home first (Over end) served.last (pulls end refl replica) is)
    where
      by : SaysForeign (steps_of turns) ⊎ ReadsAll turns → EndsEarly plan.host (steps_of turns) input ⊎ ReadsAll turns
      by (inl says) =
          let r = said_foreign plan.host (steps_of turns) says in
          inl (foreign_is_cut plan first there turns (Over end) old new input wrote talks r.0 r.1)
      by (inr all) = inr all

  pub makes_replica : MakesReplica d digest_of disk disk' a b first.hosts plan.host turns input end
  makes_replica = record { old = served.office; is_one = served.is_one; brings = brings; foreign = foreign }
