-- A call that changes nothing leads from each sound state to itself; and what was heard of the other server, up to some call.
use Rattle.std.specs.Prelude.{◌≡◌, ℕ, Bool, true, false, List, [], ◌∷◌, ◌++◌, Option, Some, None, Ok, Err, slice_get}
use Rattle.std.proofs.Common.{refl, sym, ap, ◌∙◌, subst, inl, arith}
use Rattle.tree_frames.specs.declared.nodes.Frame.{Frame}
use Rattle.office_model.specs.declared.event.Event.{Event}
use Rattle.office_model.specs.declared.refusal.Refusal.{Refusal}
use Rattle.office_model.specs.declared.refusal.Refusal.TheVariants.{Halted as HaltedReply, DiskFault, Memory}
use Rattle.office_model.specs.Office.{Office, Durable, Names, stage_content}
use Rattle.office_model.specs.Meaning.{Carried, Judged, Reply, NameChange, Same, Adds, AddsStage, Sweeps, Renews, NextStage, NextReader, Migrates}
use Rattle.office_model.specs.UsedNames.{AreDistinct, IsNamedBy, IsNamedIf, IsRenamed, AreHaltedNamesAfter}
use Rattle.office_model.specs.Step.{Call, State, Running, Halted, IsSoundState, IsHaltedReply, IsStep, meaning_of}
use Rattle.office_model.specs.History.{Entry, IsUndamaged, IsHistory, last_state, calls_of, Leads}
use Rattle.office_model.specs.laws.HistoryLaws.{Leads-one, IsSoundState-last}
use Rattle.restore_histories.specs.Given.{given_in}
use Rattle.replicas.specs.Replicas.{Marked, all_in, own_in, AreAlone, IsHeard}
use Rattle.replicas.specs.ListLaws.{heads}
use Rattle.replicas.specs.HeardLaws.{given_in-append}

-- ---- a call that changes nothing

named_by : (office : Office) (names : Names) (judged : Judged Carried) (content : List ℕ) → IsNamedBy office names judged content names.used
named_by office names (Ok carried) content = inl refl
named_by office names (Err rule) content = refl

named_if : (office : Office) (names : Names) (judged : Judged Carried) (content : Option (List ℕ)) → IsNamedIf office names judged content names.used
named_if office names judged None = refl
named_if office names judged (Some content) = named_by office names judged content

-- behind a refusal the names may be as they were
names_stay : (change : NameChange) (office : Office) (names : Names) (judged : Judged Carried) (refusal : Refusal) → AreDistinct names.used
    → IsRenamed change office names judged (Err refusal) names
names_stay Same office names judged refusal distinct = refl
names_stay (Adds content) office names judged refusal distinct = (refl, named_by office names judged content)
names_stay (AddsStage number) office names judged refusal distinct = (refl, named_if office names judged (stage_content office.stages number))
names_stay Sweeps office names judged refusal distinct = (refl, record { were = λ id among. among; distinct = distinct })
names_stay Renews office names judged refusal distinct = refl
names_stay NextStage office names judged refusal distinct = refl
names_stay NextReader office names judged refusal distinct = refl
names_stay (Migrates name) office names judged refusal distinct = refl

-- for want of memory, or since it halted
abbrev IsCalm : Refusal → Type 0
IsCalm Memory = Unit {0}
IsCalm HaltedReply = Unit {0}
IsCalm refusal = ⊥

calm_undamaged : (refusal : Refusal) → IsCalm refusal → IsUndamaged (Err refusal)
calm_undamaged Memory calm = tt
calm_undamaged HaltedReply calm = tt
calm_undamaged refusal calm = absurd calm

calm_unfailed : (refusal : Refusal) → IsCalm refusal → (let reply : Reply = Err refusal in reply ≡ Err DiskFault) → ⊥
calm_unfailed Memory calm e = absurd (cc)
calm_unfailed HaltedReply calm e = absurd (cc)
calm_unfailed refusal calm e = absurd calm

record Stays (state : State) (event : Event) : Type 0 where
  pub refusal : Refusal
  pub calm : IsCalm refusal
  pub step : IsStep state event (Err refusal) state

record StaysHalted (before next : Durable) (names : Names) (change : NameChange) : Type 0 where
  pub refusal : Refusal
  pub calm : IsCalm refusal
  pub replied : IsHaltedReply before next change (Err refusal) (Halted before next names)
  pub named : AreHaltedNamesAfter names change (Err refusal) names

stays_halted : (before next : Durable) (names : Names) (change : NameChange) → StaysHalted before next names change
stays_halted before next names Renews = record { refusal = Memory; calm = tt; replied = (refl, refl); named = refl }
stays_halted before next names change = record { refusal = HaltedReply; calm = tt; replied = (refl, refl, refl); named = refl }

stays : (state : State) (event : Event) → IsSoundState state → Stays state event
stays (Running office names) event sound = record {
  refusal = Memory;
  calm = tt;
  step = (
    refl,
    names_stay (meaning_of event).renames office names ((meaning_of event).carried office names) Memory sound.names.distinct,
  );
}
stays (Halted before next names) event sound =
    let s = stays_halted before next names (meaning_of event).renames in
    record { refusal = s.refusal; calm = s.calm; step = (s.replied, s.named) }

-- some refusal of an event leaves a sound state as it is
pub refused_stays : (state : State) (faults : ℕ) (event : Event) → IsSoundState state
    → (refusal : Refusal) × Leads state faults ((event, Err refusal) ∷ []) state faults
refused_stays state faults event sound =
    let s = stays state event sound in (
      s.refusal,
      Leads-one state faults (record { event = event; reply = Err s.refusal; state = state; faults = faults }) (record {
        step = s.step;
        sound = sound;
        later = omega arith;
        cause = λ e. absurd (calm_unfailed s.refusal s.calm e);
        undamaged = calm_undamaged s.refusal s.calm;
      }),
    )

-- the state behind a call is sound
pub led_sound : (state : State) (faults : ℕ) (call : Call) (calls : List Call) (state' : State) (faults' : ℕ)
    → Leads state faults (call ∷ calls) state' faults' → IsSoundState state'
led_sound state faults call calls state' faults' leads = by leads.entries leads.legal leads.calls_are leads.state_is
  where
    by : (entries : List Entry) → IsHistory state faults entries → call ∷ calls ≡ calls_of entries → state' ≡ last_state state entries
        → IsSoundState state'
    by [] legal calls_are state_is = absurd (cc)
    by (entry ∷ entries) legal calls_are state_is =
        subst IsSoundState (sym state_is) (IsSoundState-last entry.state entry.faults entries legal.0.sound legal.1)

-- without one it is the state before
pub led_nowhere : (state : State) (faults : ℕ) (state' : State) (faults' : ℕ) → Leads state faults [] state' faults' → state' ≡ state
led_nowhere state faults state' faults' leads = by leads.entries leads.calls_are leads.state_is
  where
    by : (entries : List Entry) → [] ≡ calls_of entries → state' ≡ last_state state entries → state' ≡ state
    by [] calls_are state_is = state_is
    by (entry ∷ entries) calls_are state_is = absurd (cc)

-- ---- what was heard up to some call

-- only as many of the marks as these are
abbrev unmarked : Marked → List Call → Marked
unmarked [] heard = []
unmarked ((false, call) ∷ marked) heard = (false, call) ∷ unmarked marked heard
unmarked ((true, call) ∷ marked) [] = (false, call) ∷ unmarked marked []
unmarked ((true, call) ∷ marked) (one ∷ heard) = (true, call) ∷ unmarked marked heard

all_unmarked : (marked : Marked) (heard : List Call) → all_in (unmarked marked heard) ≡ all_in marked
all_unmarked [] heard = refl
all_unmarked ((false, call) ∷ marked) heard = ap (λ calls. call ∷ calls) (all_unmarked marked heard)
all_unmarked ((true, call) ∷ marked) [] = ap (λ calls. call ∷ calls) (all_unmarked marked [])
all_unmarked ((true, call) ∷ marked) (one ∷ heard) = ap (λ calls. call ∷ calls) (all_unmarked marked heard)

own_unmarked : (marked : Marked) (heard more : List Call) → own_in marked ≡ heard ++ more → own_in (unmarked marked heard) ≡ heard
own_unmarked [] [] more e = refl
own_unmarked [] (one ∷ heard) more e = absurd (cc)
own_unmarked ((false, call) ∷ marked) heard more e = own_unmarked marked heard more e
own_unmarked ((true, call) ∷ marked) [] more e = own_unmarked marked [] (own_in marked) refl
own_unmarked ((true, call) ∷ marked) (one ∷ heard) more e =
    let w = heads call one (own_in marked) (heard ++ more) e in
    ap (λ (c : Call). c ∷ own_in (unmarked marked heard)) w.0 ∙ ap (λ (calls : List Call). one ∷ calls) (own_unmarked marked heard more w.1)

alone_unmarked : (marked : Marked) (heard more : List Call) → own_in marked ≡ heard ++ more → AreAlone marked → AreAlone (unmarked marked heard)
alone_unmarked [] heard more e alone = tt
alone_unmarked ((false, call) ∷ marked) heard more e alone = (
  λ restore frame frames given. alone.0 restore frame (frames ++ given_in restore more)
      (ap (given_in restore) e ∙ given_in-append restore heard more
      ∙ ap (λ (fs : List Frame). fs ++ given_in restore more) (sym (ap (given_in restore) (own_unmarked marked heard more e)) ∙ given)),
  alone_unmarked marked heard more e alone.1,
)
alone_unmarked ((true, call) ∷ marked) [] more e alone = (
  λ restore frame frames given.
      let none : [] ≡ frame ∷ frames = sym (ap (given_in restore) (own_unmarked marked [] (own_in marked) refl)) ∙ given in absurd (cc),
  alone_unmarked marked [] (own_in marked) refl alone,
)
alone_unmarked ((true, call) ∷ marked) (one ∷ heard) more e alone =
    alone_unmarked marked heard more (heads call one (own_in marked) (heard ++ more) e).1 alone

abbrev is_marked : Option (Bool × Call) → Bool
is_marked None = false
is_marked (Some marked) = marked.0

first_unmarked : (marked : Marked) (heard : List Call) (call : Call) (calls : List Call) → heard ≡ call ∷ calls
    → slice_get marked 0 ≡ Some (true, call) → slice_get (unmarked marked heard) 0 ≡ Some (true, call)
first_unmarked [] heard call calls e first = absurd (cc)
first_unmarked ((false, other) ∷ marked) heard call calls e first = let f : false ≡ true = ap is_marked first in absurd (cc)
first_unmarked ((true, other) ∷ marked) [] call calls e first = absurd (cc)
first_unmarked ((true, other) ∷ marked) (one ∷ heard) call calls e first = first

-- a beginning of what was heard was heard, too
pub heard_before : (first : Office) (names : Names) (all heard more : List Call) → all ≡ heard ++ more → IsHeard first names all
    → IsHeard first names heard
heard_before first names all heard more e h =
    let own : own_in h.marked ≡ heard ++ more = h.own ∙ e in
    record {
      sound = h.sound;
      faults = h.faults;
      entries = h.entries;
      legal = h.legal;
      marked = unmarked h.marked heard;
      calls = all_unmarked h.marked heard ∙ h.calls;
      own = own_unmarked h.marked heard more own;
      alone = alone_unmarked h.marked heard more own h.alone;
      begins = λ call calls is. first_unmarked h.marked heard call calls is
          (h.begins call (calls ++ more) (e ∙ ap (λ (cs : List Call). cs ++ more) is));
    }
