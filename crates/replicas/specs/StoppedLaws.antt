-- What a pull brought within which the server at home was stopped.
use Rattle.std.specs.Prelude.{◌≡◌, ℕ, Bool, true, false, List, [], ◌∷◌, ◌++◌, Ok, Err, ◌⊎◌}
use Rattle.std.proofs.Common.{refl, sym, ap, ◌∙◌, subst, inl, inr, arith}
use Rattle.office_model.specs.declared.event.Event.{Event}
use Rattle.office_model.specs.declared.answer.Answer.{Answer}
use Rattle.office_model.specs.Ids.{Ids}
use Rattle.office_model.specs.Office.{Office, Durable, Names, with_ids}
use Rattle.office_model.specs.UsedNames.{AreIdsAfter, AreNamesAfter, IsRenamed}
use Rattle.office_model.specs.declared.refusal.Refusal.{Refusal}
use Rattle.office_model.specs.Meaning.{Carried, Judged, Reply, NameChange, Same}
use Rattle.office_model.specs.Step.{Call, State, Running, Halted, IsSoundState, IsMade, IsNext, meaning_of}
use Rattle.office_model.specs.History.{Leads}
use Rattle.office_model.specs.laws.HistoryLaws.{Leads-none, Leads-one, Leads-append}
use Rattle.office_model.specs.laws.StateLaws.{AreSound-carried}
use Rattle.adopted_dumps.specs.Adopted.{IsPart}
use Rattle.adopted_dumps.specs.PartLaws.{part_replied}
use Rattle.pull_work.specs.declared.plan.Plan.{Plan}
use Rattle.pull_work.specs.Steps.{calls_in}
use Rattle.pull_work.specs.Script.{Phase, Asking}
use Rattle.pull_work.specs.Runs.{steps_of}
use Rattle.replicas.specs.Replicas.{heard_in, IsReplica, wanted, Brings, Pulls}
use Rattle.replicas.specs.ReplicaLaws.{pull_brings}
use Rattle.replicas.specs.Stops.{IsMadeBy, MayKeep, StoppedPullBrings}
use Rattle.replicas.specs.StopLaws.{refused_stays, led_sound, led_nowhere, heard_before}
use Rattle.replicas.specs.CutLaws.{CutTo, Cuts, turns_cut, first_is_part}

-- ---- what the disk keeps

-- an office that keeps what an event made of the disk, by an answer of that event
record Makes (pools : Bool) (names : Names) (office : Office) (judged : Judged Carried) (answer : Answer) (kept : Durable) : Type 0 where
  pub after : Office
  pub keeps : kept ≡ after.durable
  pub made : IsMade pools names office judged answer after

makes : (pools : Bool) (names : Names) (office : Office) (judged : Judged Carried) (carried : Carried) (kept : Durable) → judged ≡ Ok carried
    → IsNext pools names office.durable carried.after.durable kept → Makes pools names office judged carried.answer kept
makes false names office judged carried kept e is = record { after = carried.after; keeps = is; made = e }
makes true names office judged carried kept e is =
    let as_made = λ (ids : Ids). let made : Judged Carried = Ok (record { answer = carried.answer; after = with_ids carried.after ids }) in made in
    let same : carried.after.ids ≡ office.ids = sym (ap (λ (d : Durable). d.ids) is.0) in
    let keeps : kept ≡ (with_ids carried.after kept.ids).durable = ap (λ (d : Durable). record d { ids = kept.ids }) is.0 in
    record {
      after = with_ids carried.after kept.ids;
      keeps = keeps;
      made = (e ∙ ap as_made same, subst (AreIdsAfter names office.durable) keeps is.1);
    }

-- a part makes nothing of it
part_made : (event : Event) → IsPart event → (office : Office) (names : Names) (kept : Durable) (judged : Judged Carried)
    → (meaning_of event).carried office names ≡ judged → IsMadeBy (meaning_of event).pools names office.durable judged kept
    → kept ≡ office.durable
part_made event part office names kept (Ok carried) e made =
    let m = makes (meaning_of event).pools names office ((meaning_of event).carried office names) carried kept e made in
    m.keeps ∙ part_replied event part office names (Ok carried.answer) (Running m.after names) tt m.made
part_made event part office names kept (Err rule) e made = absurd made

part_may : (event : Event) → IsPart event → (office : Office) (names : Names) (kept : Durable) → MayKeep (Running office names) event kept
    → kept ≡ office.durable
part_may event part office names kept (inl same) = same
part_may event part office names kept (inr made) =
    part_made event part office names kept ((meaning_of event).carried office names) refl made

-- an event that breaks no rule may be answered
carried_leads : (office : Office) (names : Names) (faults : ℕ) (event : Event) (answer : Answer) (after : Office)
    → IsSoundState (Running office names) → (meaning_of event).renames ≡ Same
    → IsMade (meaning_of event).pools names office ((meaning_of event).carried office names) answer after
    → Leads (Running office names) faults ((event, Ok answer) ∷ []) (Running after names) faults
carried_leads office names faults event answer after sound same made =
    let named : AreNamesAfter office names (meaning_of event) (Ok answer) names =
    subst (λ (change : NameChange). IsRenamed change office names ((meaning_of event).carried office names) (Ok answer) names) (sym same) refl in
    Leads-one (Running office names) faults
    (record { event = event; reply = Ok answer; state = Running after names; faults = faults })
    (record {
      step = (made, named);
      sound = AreSound-carried office names event answer after names sound made named;
      later = omega arith;
      cause = λ f. absurd (cc);
      undamaged = tt;
    })

-- ---- a pull up to the call

module _ (plan : Plan) (home first : Office) (phase : Phase) (state' : State) (kept : Durable) (r : Pulls plan home first phase state') where
  -- what is to be shown
  abbrev IsBrought : Durable → Type 0
  IsBrought durable =
      Brings home.hosts (wanted home.hosts first.hosts plan.host) plan.host durable.hosts × IsReplica durable.hosts first.hosts plan.host

  cut_pulls : (calls : List Call) → (c : CutTo plan Asking (steps_of r.turns) calls) → (state : State) (faults : ℕ)
      → Leads (Running home r.names) r.faults calls state faults → Pulls plan home first c.to state
  cut_pulls calls c state faults leads = record {
    names = r.names;
    faults = r.faults;
    faults' = faults;
    there = r.there;
    turns = c.turns;
    sound = r.sound;
    are = c.are;
    leads = subst (λ (cs : List Call). Leads (Running home r.names) r.faults cs state faults) (sym c.calls_are) leads;
    heard = heard_before first r.there (heard_in plan.host (steps_of r.turns)) (heard_in plan.host (steps_of c.turns)) c.unheard c.heard r.heard;
    replica = r.replica;
  }

  at_work : (office : Office) (names : Names) (to : Phase) → kept ≡ office.durable → Pulls plan home first to (Running office names)
      → IsBrought kept
  at_work office names to same pulls = subst IsBrought (sym same) (pull_brings plan home first to (Running office names) pulls)

  halted : (before next : Durable) (names : Names) (to : Phase) → (kept ≡ before) ⊎ (kept ≡ next)
      → Pulls plan home first to (Halted before next names) → IsBrought kept
  halted before next names to may pulls = by may (pull_brings plan home first to (Halted before next names) pulls)
    where
      by : (kept ≡ before) ⊎ (kept ≡ next)
          → (Brings home.hosts (wanted home.hosts first.hosts plan.host) plan.host before.hosts
          × Brings home.hosts (wanted home.hosts first.hosts plan.host) plan.host next.hosts)
          × (IsReplica before.hosts first.hosts plan.host × IsReplica next.hosts first.hosts plan.host) → IsBrought kept
      by (inl same) b = subst IsBrought (sym same) (b.0.0, b.1.0)
      by (inr same) b = subst IsBrought (sym same) (b.0.1, b.1.1)

  -- before the first call, and within it
  module _ (after : List Call) (call : Call) (calls_are : calls_in (steps_of r.turns) ≡ call ∷ after) where
    within_first : MayKeep (Running home r.names) call.0 kept → IsBrought kept
    within_first may =
        at_work home r.names Asking (part_may call.0 (first_is_part plan r.turns phase call after r.are calls_are) home r.names kept may) (record {
          names = r.names;
          faults = r.faults;
          faults' = r.faults;
          there = r.there;
          turns = [];
          sound = r.sound;
          are = refl;
          leads = Leads-none (Running home r.names) r.faults;
          heard = heard_before first r.there (heard_in plan.host (steps_of r.turns)) [] (heard_in plan.host (steps_of r.turns)) refl r.heard;
          replica = r.replica;
        })

  -- behind others
  module _ (before : List Call) (call : Call) (faults : ℕ) where
    -- it was refused
    refused_there : (state : State) → IsSoundState state → Leads (Running home r.names) r.faults before state faults
        → (cut : (refusal : Refusal) → CutTo plan Asking (steps_of r.turns) (before ++ (call.0, Err refusal) ∷ []))
        → (to : Phase) × Pulls plan home first to state
    refused_there state sound leads cut =
        let s = refused_stays state faults call.0 sound in
        let c = cut s.0 in (
          c.to,
          cut_pulls (before ++ (call.0, Err s.0) ∷ []) c state faults
              (Leads-append (Running home r.names) state state r.faults faults faults before ((call.0, Err s.0) ∷ []) leads s.1),
        )

    -- or carried out
    carried_there : (office : Office) (names : Names) → IsSoundState (Running office names)
        → Leads (Running home r.names) r.faults before (Running office names) faults → (meaning_of call.0).renames ≡ Same
        → ((reply : Reply) → CutTo plan Asking (steps_of r.turns) (before ++ (call.0, reply) ∷ [])) → (judged : Judged Carried)
        → (meaning_of call.0).carried office names ≡ judged → IsMadeBy (meaning_of call.0).pools names office.durable judged kept
        → IsBrought kept
    carried_there office names sound leads same cut (Ok carried) e made =
        let m = makes (meaning_of call.0).pools names office ((meaning_of call.0).carried office names) carried kept e made in
        let c = cut (Ok carried.answer) in
        at_work m.after names c.to m.keeps
        (cut_pulls (before ++ (call.0, Ok carried.answer) ∷ []) c (Running m.after names) faults
        (Leads-append (Running home r.names) (Running office names) (Running m.after names) r.faults faults faults before
        ((call.0, Ok carried.answer) ∷ []) leads (carried_leads office names faults call.0 carried.answer m.after sound same m.made)))
    carried_there office names sound leads same cut (Err rule) e made = absurd made

    unchanged_there : (office : Office) (names : Names) → IsSoundState (Running office names)
        → Leads (Running home r.names) r.faults before (Running office names) faults
        → ((refusal : Refusal) → CutTo plan Asking (steps_of r.turns) (before ++ (call.0, Err refusal) ∷ [])) → kept ≡ office.durable
        → IsBrought kept
    unchanged_there office names sound leads cut same =
        let p = refused_there (Running office names) sound leads cut in at_work office names p.0 same p.1

    within : (mid : State) → IsSoundState mid → Leads (Running home r.names) r.faults before mid faults → MayKeep mid call.0 kept
        → Cuts plan Asking (steps_of r.turns) before call → IsBrought kept
    within (Running office names) sound leads may (inl c) =
        unchanged_there office names sound leads c.1 (part_may call.0 c.0 office names kept may)
    within (Running office names) sound leads (inl same) (inr c) = unchanged_there office names sound leads (λ refusal. c.1 (Err refusal)) same
    within (Running office names) sound leads (inr made) (inr c) =
        carried_there office names sound leads c.0 c.1 ((meaning_of call.0).carried office names) refl made
    within (Halted old next names) sound leads may (inl c) =
        let p = refused_there (Halted old next names) sound leads c.1 in halted old next names p.0 may p.1
    within (Halted old next names) sound leads may (inr c) =
        let p = refused_there (Halted old next names) sound leads (λ refusal. c.1 (Err refusal)) in halted old next names p.0 may p.1

  brought : (before after : List Call) (call : Call) (mid : State) (faults : ℕ) → calls_in (steps_of r.turns) ≡ before ++ call ∷ after
      → Leads (Running home r.names) r.faults before mid faults → MayKeep mid call.0 kept → IsBrought kept
  brought [] after call mid faults are leads may =
      within_first after call are
      (subst (λ (state : State). MayKeep state call.0 kept) (led_nowhere (Running home r.names) r.faults mid faults leads) may)
  brought (done ∷ before) after call mid faults are leads may =
      within (done ∷ before) call faults mid (led_sound (Running home r.names) r.faults done before mid faults leads) leads may
      (turns_cut plan r.turns Asking phase (done ∷ before) after call r.are are)

pub stopped_pull_brings : StoppedPullBrings
stopped_pull_brings plan home first phase state' kept r s =
    brought plan home first phase state' kept r s.before s.after s.call s.mid s.count s.calls_are s.leads s.may
