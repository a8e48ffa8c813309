-- How the calls of a migration follow its script.
use Rattle.std.proofs.Common.{◌≡◌, ℕ, ◌+◌, ◌<◌, List, [], ◌∷◌, ◌++◌, length, get_or, take, drop, map, Some, None, Ok, Err, refl, sym, ap, ◌∙◌, subst, suc}
use Rattle.std.proofs.lemmas.List.{take_more, take-append-drop, append-nil}
use Rattle.std.proofs.Math.Seq.{drop-cons}
use Rattle.office_model.specs.declared.event.Event.{Event}
use Rattle.office_model.specs.declared.event.Event.TheVariants as E
use Rattle.office_model.specs.declared.answer.Answer.{Answer}
use Rattle.office_model.specs.declared.answer.Answer.TheVariants as A
use Rattle.office_model.specs.declared.refusal.Refusal.{Refusal}
use Rattle.office_model.specs.Step.{Call}
use Rattle.call_scripts.specs.Scripts.{Begins, each_of, events_of, AreAnswered, EndRefused}
use Rattle.call_scripts.specs.ScriptLaws.{events_of-append, AreAnswered-append, EndRefused-append, begins_each, begins_refused, each_of-end, follows_from}
use Rattle.migrate_work.specs.declared.ends.MigrationEnd.TheVariants.{Done, Refused}
use Rattle.migrate_work.specs.Script.{events_after, migration_script, named_in}
use Rattle.migrate_work.specs.Ends.{Ends, Works, Carried, Stopped}

module _ {P : Type 0} (moves : P → List Call → P → Type 0)
    (joined : (p q r : P) (xs ys : List Call) → moves p xs q → moves q ys r → moves p (xs ++ ys) r) where
  -- ---- along the list of events

  taken-more : (events : List Event) (i : ℕ) (event : Event) → i < length events → event ≡ get_or events i event
      → take (i + 1) events ≡ take i events ++ event ∷ []
  taken-more events i event below at = take_more events i event below ∙ ap (λ e. take i events ++ e ∷ []) (sym at)

  split-at : (events : List Event) (i : ℕ) (event : Event) → i < length events → event ≡ get_or events i event
      → events ≡ take i events ++ event ∷ drop (suc i) events
  split-at events i event below at =
      sym (take-append-drop i events) ∙ ap (λ xs. take i events ++ xs) (drop-cons events i event below)
      ∙ ap (λ e. take i events ++ e ∷ drop (suc i) events) (sym at)

  pub carried-next : (old mid new : P) (events : List Event) (i : ℕ) (event : Event) (answer : Answer) → i < length events
      → event ≡ get_or events i event → Carried moves old mid (take i events) → moves mid ((event, Ok answer) ∷ []) new
      → Carried moves old new (take (i + 1) events)
  carried-next old mid new events i event answer below at carried moved = record {
    calls = carried.calls ++ (event, Ok answer) ∷ [];
    moved = joined old mid new carried.calls ((event, Ok answer) ∷ []) carried.moved moved;
    asked = events_of-append carried.calls ((event, Ok answer) ∷ []) ∙ ap (λ before. before ++ event ∷ []) carried.asked
        ∙ sym (taken-more events i event below at);
    answered = AreAnswered-append carried.calls ((event, Ok answer) ∷ []) carried.answered tt;
  }

  pub stopped-at : (old mid new : P) (events : List Event) (i : ℕ) (event : Event) (refusal : Refusal) → i < length events
      → event ≡ get_or events i event → Carried moves old mid (take i events) → moves mid ((event, Err refusal) ∷ []) new
      → Stopped moves old new events refusal
  stopped-at old mid new events i event refusal below at carried moved = record {
    before = carried.calls;
    event = event;
    later = drop (suc i) events;
    moved = joined old mid new carried.calls ((event, Err refusal) ∷ []) carried.moved moved;
    asked = split-at events i event below at ∙ ap (λ before. before ++ event ∷ drop (suc i) events) (sym carried.asked);
    answered = carried.answered;
  }

  -- ---- the ends

  -- the events are those that follow the names of the hosts
  planned : (hosts slice : List (List ℕ)) (events shown : List Event) → slice ≡ hosts → events ≡ events_after slice → shown ≡ events
      → shown ≡ events_after hosts
  planned hosts slice events shown same events_are shown_is = shown_is ∙ events_are ∙ ap events_after same

  pub works-done : (old mid new : P) (hosts slice : List (List ℕ)) (events shown : List Event) (count : ℕ)
      → moves old ((E.Hosts, Ok (A.Hosts hosts)) ∷ []) mid → slice ≡ hosts → events ≡ events_after slice → shown ≡ events
      → Carried moves mid new shown → count ≡ length hosts → Works moves old new (Done count)
  works-done old mid new hosts slice events shown count asked same events_are shown_is carried_shown is = record {
    calls = (E.Hosts, Ok (A.Hosts hosts)) ∷ carried.calls;
    moved = joined old mid new ((E.Hosts, Ok (A.Hosts hosts)) ∷ []) carried.calls asked carried.moved;
    ends = (
      follows_from migration_script ((E.Hosts, Ok (A.Hosts hosts)) ∷ carried.calls) (
        refl,
        subst (λ events. Begins (each_of events) carried.calls) (append-nil (events_of carried.calls) ∙ carried.asked)
            (begins_each carried.calls [] carried.answered),
      )
          (subst (λ events. each_of events carried.calls ≡ None) carried.asked (each_of-end carried.calls carried.answered)),
      carried.answered,
      is,
    );
  }
    where
      carried : Carried moves mid new (events_after hosts)
      carried = subst (Carried moves mid new) (planned hosts slice events shown same events_are shown_is) carried_shown

  pub works-stopped : (old mid new : P) (hosts slice : List (List ℕ)) (events shown : List Event) (refusal : Refusal)
      → moves old ((E.Hosts, Ok (A.Hosts hosts)) ∷ []) mid → slice ≡ hosts → events ≡ events_after slice → shown ≡ events
      → Stopped moves mid new shown refusal → Works moves old new (Refused refusal)
  works-stopped old mid new hosts slice events shown refusal asked same events_are shown_is stopped_shown = record {
    calls = (E.Hosts, Ok (A.Hosts hosts)) ∷ (stopped.before ++ (stopped.event, Err refusal) ∷ []);
    moved = joined old mid new ((E.Hosts, Ok (A.Hosts hosts)) ∷ []) (stopped.before ++ (stopped.event, Err refusal) ∷ []) asked stopped.moved;
    ends = (
      follows_from migration_script ((E.Hosts, Ok (A.Hosts hosts)) ∷ (stopped.before ++ (stopped.event, Err refusal) ∷ [])) (
        refl,
        subst (λ events. Begins (each_of events) (stopped.before ++ (stopped.event, Err refusal) ∷ [])) (sym stopped.asked)
            (begins_refused stopped.before stopped.event refusal stopped.later stopped.answered),
      )
          (subst (λ events. each_of events (stopped.before ++ (stopped.event, Err refusal) ∷ []) ≡ None) (sym stopped.asked)
          (refused-end stopped.before stopped.event refusal stopped.later stopped.answered)),
      EndRefused-append stopped.before ((stopped.event, Err refusal) ∷ []) refusal stopped.answered (refl, refl),
    );
  }
    where
      stopped : Stopped moves mid new (events_after hosts) refusal
      stopped = subst (λ xs. Stopped moves mid new xs refusal) (planned hosts slice events shown same events_are shown_is) stopped_shown

      -- after a refusal comes none
      refused-end : (calls : List Call) (event : Event) (refusal : Refusal) (later : List Event) → AreAnswered calls
          → each_of (events_of calls ++ event ∷ later) (calls ++ (event, Err refusal) ∷ []) ≡ None
      refused-end [] event refusal later answered = refl
      refused-end ((asked, Ok answer) ∷ calls) event refusal later answered = refused-end calls event refusal later answered
      refused-end ((asked, Err other) ∷ calls) event refusal later answered = absurd answered
