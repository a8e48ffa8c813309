-- Laws of what a pull does, one after the other.
--     stays, turned, joined_by      no turn, one, and those of two parts
--     called, asked      the step that is due, at home and over the wire
use Rattle.std.specs.Prelude.{◌≡◌, ℕ, List, [], ◌∷◌, ◌++◌, map, Some}
use Rattle.std.proofs.Common.{refl, sym, ap, ◌∙◌, subst, append_assoc}
use Rattle.std.proofs.lemmas.List.{append-nil}
use Rattle.stream_traits.specs.Seen.{LinkSeen}
use Rattle.office_model.specs.declared.event.Event.{Event}
use Rattle.office_model.specs.Meaning.{Reply}
use Rattle.office_model.specs.Step.{Call}
use Rattle.pull_work.specs.declared.plan.Plan.{Plan}
use Rattle.pull_work.specs.declared.ends.PullEnd.TheVariants.{Memory}
use Rattle.pull_work.specs.Steps.{Step, Home, Lists, Opens, Reads, Closes, calls_in, IsTold, AreTold}
use Rattle.pull_work.specs.Script.{Phase, Calls, due, due_in, after, stopped}
use Rattle.pull_work.specs.Runs.{Turn, one, lacking, Taken, AreTurns, steps_of, Goes}

-- ---- steps

pub calls_in-append : (xs ys : List Step) → calls_in (xs ++ ys) ≡ calls_in xs ++ calls_in ys
calls_in-append [] ys = refl
calls_in-append (Home call ∷ xs) ys = ap (λ calls. call ∷ calls) (calls_in-append xs ys)
calls_in-append (Lists result ∷ xs) ys = calls_in-append xs ys
calls_in-append (Opens number base result ∷ xs) ys = calls_in-append xs ys
calls_in-append (Reads restore result ∷ xs) ys = calls_in-append xs ys
calls_in-append (Closes restore result ∷ xs) ys = calls_in-append xs ys

pub AreTold-append : (host : List ℕ) (old mid new : LinkSeen) (xs ys : List Step) → AreTold host old mid xs → AreTold host mid new ys
    → AreTold host old new (xs ++ ys)
AreTold-append host old mid new [] ys first rest = subst (λ (seen : LinkSeen). AreTold host seen new ys) first rest
AreTold-append host old mid new (x ∷ xs) ys first rest = (first.0, first.1, AreTold-append host first.0 mid new xs ys first.2 rest)

-- calls at home alone
pub calls_in-home : (calls : List Call) → calls_in (map Home calls) ≡ calls
calls_in-home [] = refl
calls_in-home (call ∷ calls) = ap (λ more. call ∷ more) (calls_in-home calls)

pub told_home : (host : List ℕ) (seen : LinkSeen) (calls : List Call) → AreTold host seen seen (map Home calls)
told_home host seen [] = refl
told_home host seen (call ∷ calls) = (seen, refl, told_home host seen calls)

-- ---- turns

steps_of-append : (xs ys : List Taken) → steps_of (xs ++ ys) ≡ steps_of xs ++ steps_of ys
steps_of-append [] ys = refl
steps_of-append (x ∷ xs) ys = ap (λ steps. x.steps ++ steps) (steps_of-append xs ys) ∙ sym (append_assoc x.steps (steps_of xs) (steps_of ys))

AreTurns-append : (plan : Plan) (old mid new : Phase) (xs ys : List Taken) → AreTurns plan old xs mid → AreTurns plan mid ys new
    → AreTurns plan old (xs ++ ys) new
AreTurns-append plan old mid new [] ys first rest = subst (λ (phase : Phase). AreTurns plan phase ys new) first rest
AreTurns-append plan old mid new (x ∷ xs) ys first rest = (first.0, AreTurns-append plan x.to mid new xs ys first.1 rest)

-- ---- what is done at home and over the wire

module _ {P : Type 0} (moves : P → List Call → P → Type 0) (plan : Plan) where
  pub turned : (p q : P) (seen seen' : LinkSeen) (old new : Phase) (steps : List Step) → Turn plan old steps new → moves p (calls_in steps) q
      → AreTold plan.host seen seen' steps → Goes moves plan p q seen seen' old new
  turned p q seen seen' old new steps turn moved told = record {
    turns = record { steps = steps; to = new } ∷ [];
    are = (turn, refl);
    moved = subst (λ (xs : List Step). moves p (calls_in xs) q) (sym (append-nil steps)) moved;
    told = subst (λ (xs : List Step). AreTold plan.host seen seen' xs) (sym (append-nil steps)) told;
  }

  -- a call at home that is due
  pub called : (p q : P) (seen : LinkSeen) (old : Phase) (event : Event) (reply : Reply) → due plan old ≡ Some (Calls event)
      → moves p ((event, reply) ∷ []) q → Goes moves plan p q seen seen old (after old (Home (event, reply)))
  called p q seen old event reply is_due moved =
      turned p q seen seen old (after old (Home (event, reply))) (Home (event, reply) ∷ [])
      (one (Home (event, reply)) refl is_due refl) moved (seen, refl, refl)

  -- as one that is equal to the one that was called
  pub called_as : (p q : P) (seen : LinkSeen) (old : Phase) (event made : Event) (reply : Reply) → due plan old ≡ Some (Calls event) → made ≡ event
      → moves p ((made, reply) ∷ []) q → Goes moves plan p q seen seen old (after old (Home (event, reply)))
  called_as p q seen old event made reply is_due same moved =
      called p q seen old event reply is_due (subst (λ (e : Event). moves p ((e, reply) ∷ []) q) same moved)

  module _ (none : (p : P) → moves p [] p) where
    pub stays : (p : P) (seen : LinkSeen) (phase : Phase) → Goes moves plan p p seen seen phase phase
    stays p seen phase = record { turns = []; are = refl; moved = none p; told = refl }

    -- something that is asked over the wire, and is due
    pub asked : (p : P) (seen seen' : LinkSeen) (old : Phase) (step : Step) → calls_in (step ∷ []) ≡ [] → due plan old ≡ Some (due_in step)
        → IsTold plan.host seen seen' step → Goes moves plan p p seen seen' old (after old step)
    asked p seen seen' old step silent is_due told =
        turned p p seen seen' old (after old step) (step ∷ []) (one step refl is_due refl)
        (subst (λ (calls : List Call). moves p calls p) (sym silent) (none p)) (seen', told, refl)

    -- no call, and nothing asked
    pub passed : (p : P) (seen : LinkSeen) (old new : Phase) → Turn plan old [] new → Goes moves plan p p seen seen old new
    passed p seen old new turn = turned p p seen seen old new [] turn (none p) refl

    -- want of memory
    pub lacked : (p : P) (seen : LinkSeen) (old : Phase) → Goes moves plan p p seen seen old (stopped old Memory)
    lacked p seen old = passed p seen old (stopped old Memory) (lacking refl refl)

  module _ (joined : (p q r : P) (xs ys : List Call) → moves p xs q → moves q ys r → moves p (xs ++ ys) r) where
    pub joined_by : (p q r : P) (seen mid seen' : LinkSeen) (old between new : Phase) → Goes moves plan p q seen mid old between
        → Goes moves plan q r mid seen' between new → Goes moves plan p r seen seen' old new
    joined_by p q r seen mid seen' old between new first rest = record {
      turns = first.turns ++ rest.turns;
      are = AreTurns-append plan old between new first.turns rest.turns first.are rest.are;
      moved = subst (λ (calls : List Call). moves p calls r)
          (sym (ap calls_in (steps_of-append first.turns rest.turns) ∙ calls_in-append (steps_of first.turns) (steps_of rest.turns)))
          (joined p q r (calls_in (steps_of first.turns)) (calls_in (steps_of rest.turns)) first.moved rest.moved);
      told = subst (λ (steps : List Step). AreTold plan.host seen seen' steps) (sym (steps_of-append first.turns rest.turns))
          (AreTold-append plan.host seen mid seen' (steps_of first.turns) (steps_of rest.turns) first.told rest.told);
    }
