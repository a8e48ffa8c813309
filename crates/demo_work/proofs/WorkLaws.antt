-- How the calls of a demo follow its script.
use Rattle.std.specs.Prelude.{◌≡◌, ℕ, ◌-◌, ◌==◌, Bool, true, false, if◌then◌else◌, List, [], ◌∷◌, ◌++◌, length, take, reverse, Option, Some, None, Ok, Err}
use Rattle.std.proofs.Common.{refl, sym, ap, subst, ◌∙◌, inl, inr, append_assoc, arith}
use Rattle.std.proofs.lemmas.Bool.{true≢false, eqb-true}
use Rattle.std.proofs.lemmas.List.{append-nil, reverse-append, reverse-reverse}
use Rattle.office_model.specs.declared.event.Event.{Event}
use Rattle.office_model.specs.declared.event.Event.TheVariants as E
use Rattle.office_model.specs.declared.answer.Answer.TheVariants as A
use Rattle.office_model.specs.declared.refusal.Refusal.{Refusal}
use Rattle.office_model.specs.Step.{Call}
use Rattle.call_scripts.specs.Scripts.{Script, FollowsAfter, Follows, Begins, behind}
use Rattle.call_scripts.specs.ScriptLaws.{follows_from}
use Rattle.demo_work.specs.declared.asks.Ask.{Ask}
use Rattle.demo_work.specs.declared.counts.Tally.{Tally}
use Rattle.demo_work.specs.declared.ends.Summary.{Summary}
use Rattle.demo_work.specs.declared.ends.DemoEnd.{DemoEnd}
use Rattle.demo_work.specs.declared.ends.DemoEnd.TheVariants.{Done, Occupied, Refused, Memory}
use Rattle.demo_work.specs.declared.work.Work.{Work}
use Rattle.demo_work.specs.declared.work.Stop.{Stop}
use Rattle.demo_work.specs.declared.work.Stop.TheVariants as S
use Rattle.demo_work.specs.Asks.{event_of, dump_after, more_by, is_passed}
use Rattle.demo_work.specs.Script.{next, no_dump, demo_script}
use Rattle.demo_work.specs.Told.{Told, told_by, told_of, nothing_told, summary_of}
use Rattle.demo_work.specs.Ends.{ArePassed, Shows}
use Rattle.demo_work.specs.Steps.{Keeps, Turned, TurnStops, script_of, SoFar, Finished, Stopped, IsBegun, end_of, Continues}

-- ---- one call more

Begins-more : (script : Script) (calls : List Call) (call : Call) → Begins script calls → script calls ≡ Some call.0
    → Begins script (calls ++ call ∷ [])
Begins-more script [] call begins asked = (asked, tt)
Begins-more script (first ∷ calls) call begins asked = (begins.0, Begins-more (behind first script) calls call begins.1 asked)

ArePassed-more : (calls : List Call) (call : Call) → ArePassed calls → is_passed call.0 call.1 ≡ true → ArePassed (calls ++ call ∷ [])
ArePassed-more [] call passed this = (this, tt)
ArePassed-more (first ∷ calls) call passed this = (passed.0, ArePassed-more calls call passed.1 this)

told_of-more : (told : Told) (calls : List Call) (call : Call) → told_of told (calls ++ call ∷ []) ≡ told_by (told_of told calls) call.1
told_of-more told [] call = refl
told_of-more told (first ∷ calls) call = told_of-more (told_by told first.1) calls call

reverse-snoc : (asks : List Ask) (ask : Ask) → reverse (asks ++ ask ∷ []) ≡ ask ∷ reverse asks
reverse-snoc asks ask = reverse-append asks (ask ∷ [])

choose : (chosen : Bool) (a b : Option Event) → chosen ≡ true → (if chosen then a else b) ≡ a
choose true a b is = refl
choose false a b is = absurd (cc)

choose-not : (chosen : Bool) (a b : Option Event) → chosen ≡ false → (if chosen then a else b) ≡ b
choose-not true a b is = absurd (cc)
choose-not false a b is = refl

-- ---- the loop

module _ {P : Type 0} (moves : P → List Call → P → Type 0)
    (joined : (p q r : P) (xs ys : List Call) → moves p xs q → moves q ys r → moves p (xs ++ ys) r) (none : (p : P) → moves p [] p) where
  pub so_far_begun : (port : P) (work : Work) → SoFar moves port port work work
  so_far_begun port work = record {
    calls = [];
    moved = none port;
    begins = tt;
    passed = tt;
    left = λ behind. refl;
    tally = λ told keeps. keeps;
  }

  -- an ask was taken from the top
  pub record Top {old mid : P} {first work : Work} (between : Work) (ask : Ask) (so_far : SoFar moves old mid first work) : Type 0 where
    pub left : (calls : List Call)
        → script_of first (so_far.calls ++ calls) ≡ next between.dump (ask ∷ reverse between.pending.items) calls
    pub asked : script_of first so_far.calls ≡ Some (event_of between.dump ask)

  top_of : (old mid : P) (first work between : Work) (ask : Ask) → between.dump ≡ work.dump
      → work.pending.items ≡ between.pending.items ++ ask ∷ [] → (so_far : SoFar moves old mid first work)
      → Top between ask so_far
  top_of old mid first work between ask dump_is items_are so_far =
      let left : (calls : List Call) → script_of first (so_far.calls ++ calls) ≡ next between.dump (ask ∷ reverse between.pending.items) calls =
      λ calls. so_far.left calls ∙ ap (λ asks. next work.dump asks calls) (ap reverse items_are ∙ reverse-snoc between.pending.items ask)
      ∙ ap (λ dump. next dump (ask ∷ reverse between.pending.items) calls) (sym dump_is) in
      record { left = left; asked = ap (script_of first) (sym (append-nil so_far.calls)) ∙ left [] }

  pub so_far_next : (old mid new : P) (first work between work' : Work) (ask : Ask) → between.dump ≡ work.dump
      → work.pending.items ≡ between.pending.items ++ ask ∷ [] → between.tally ≡ work.tally → SoFar moves old mid first work
      → Turned moves mid new ask between work' → SoFar moves old new first work'
  so_far_next old mid new first work between work' ask dump_is items_are tally_is so_far turned =
      let top = top_of old mid first work between ask dump_is items_are so_far in
      let call : Call = (event_of between.dump ask, turned.reply) in
      let asks_are : reverse work'.pending.items ≡ more_by ask turned.reply ++ reverse between.pending.items =
      ap reverse turned.taken.pending ∙ reverse-append between.pending.items (reverse (more_by ask turned.reply))
      ∙ ap (λ xs. xs ++ reverse between.pending.items) (reverse-reverse (more_by ask turned.reply)) in
      record {
        calls = so_far.calls ++ call ∷ [];
        moved = joined old mid new so_far.calls (call ∷ []) so_far.moved turned.moved;
        begins = Begins-more (script_of first) so_far.calls call so_far.begins top.asked;
        passed = ArePassed-more so_far.calls call so_far.passed turned.passed;
        left = λ calls.
            ap (script_of first) (append_assoc so_far.calls (call ∷ []) calls) ∙ top.left (call ∷ calls)
            ∙ choose (is_passed (event_of between.dump ask) turned.reply)
            (next (dump_after between.dump turned.reply) (more_by ask turned.reply ++ reverse between.pending.items) calls) None turned.passed
            ∙ ap (λ dump. next dump (more_by ask turned.reply ++ reverse between.pending.items) calls) (sym turned.taken.dump)
            ∙ ap (λ asks. next work'.dump asks calls) (sym asks_are);
        tally = λ told keeps.
            subst (λ t. Keeps t work'.tally) (sym (told_of-more told so_far.calls call))
            (turned.taken.tally (told_of told so_far.calls)
            (subst (λ t. Keeps (told_of told so_far.calls) t) (sym tally_is) (so_far.tally told keeps)));
      }

  pub finished : (old new : P) (first work : Work) (len : ℕ) (front : List Ask) → len ≡ 0 → front ≡ take (len - 1) work.pending.items
      → work.pending.items ≡ front ++ [] → SoFar moves old new first work → Finished moves old new first work.tally
  finished old new first work len front empty rest taken so_far =
      let none_before : front ≡ [] = rest ∙ ap (λ n. take (n - 1) work.pending.items) empty in
      let none_left : work.pending.items ≡ [] = taken ∙ ap (λ xs. xs ++ []) none_before in
      let ends : script_of first so_far.calls ≡ None =
      ap (script_of first) (sym (append-nil so_far.calls)) ∙ so_far.left [] ∙ ap (λ asks. next work.dump (reverse asks) []) none_left in
      record {
        calls = so_far.calls;
        moved = so_far.moved;
        follows = record { follows = follows_from (script_of first) so_far.calls so_far.begins ends; passed = so_far.passed };
        told = so_far.tally;
      }

  pub bound_stops : (old new : P) (first work : Work) → SoFar moves old new first work → Stopped moves old new (script_of first) S.Memory
  bound_stops old new first work so_far = record {
    calls = so_far.calls;
    moved = so_far.moved;
    stops = record { begins = so_far.begins; passed = so_far.passed };
  }

  pub turn_stops : (old mid new : P) (first work between : Work) (ask : Ask) (stop : Stop) → between.dump ≡ work.dump
      → work.pending.items ≡ between.pending.items ++ ask ∷ [] → SoFar moves old mid first work
      → TurnStops moves mid new (event_of between.dump ask) stop → Stopped moves old new (script_of first) stop
  turn_stops old mid new first work between ask (S.Refused refusal) dump_is items_are so_far stops =
      let top = top_of old mid first work between ask dump_is items_are so_far in
      let call : Call = (event_of between.dump ask, Err refusal) in
      let ends : script_of first (so_far.calls ++ call ∷ []) ≡ None =
      top.left (call ∷ []) ∙ choose-not (is_passed (event_of between.dump ask) (Err refusal))
      (next between.dump (reverse between.pending.items) []) None stops.1 in
      record {
        calls = so_far.calls ++ call ∷ [];
        moved = joined old mid new so_far.calls (call ∷ []) so_far.moved stops.0;
        stops = record {
          follows = follows_from (script_of first) (so_far.calls ++ call ∷ [])
              (Begins-more (script_of first) so_far.calls call so_far.begins top.asked) ends;
          stopped = record {
            before = so_far.calls;
            event = event_of between.dump ask;
            parts = refl;
            passed = so_far.passed;
            stops = stops.1;
          };
        };
      }
  turn_stops old mid new first work between ask S.Memory dump_is items_are so_far (inl same) = record {
    calls = so_far.calls;
    moved = subst (λ p. moves old so_far.calls p) (sym same) so_far.moved;
    stops = record { begins = so_far.begins; passed = so_far.passed };
  }
  turn_stops old mid new first work between ask S.Memory dump_is items_are so_far (inr called) =
      let top = top_of old mid first work between ask dump_is items_are so_far in
      let call : Call = (event_of between.dump ask, called.0) in
      record {
        calls = so_far.calls ++ call ∷ [];
        moved = joined old mid new so_far.calls (call ∷ []) so_far.moved called.1;
        stops = record {
          begins = Begins-more (script_of first) so_far.calls call so_far.begins top.asked;
          passed = ArePassed-more so_far.calls call so_far.passed called.2;
        };
      }

-- ---- behind the hosts

abbrev no_hosts : Call
no_hosts = (E.Hosts, Ok (A.Hosts []))

follows_behind : (script : Script) (call : Call) (made calls : List Call) → FollowsAfter (behind call script) made calls
    → FollowsAfter script (call ∷ made) calls
follows_behind script call made [] follows = follows
follows_behind script call made (next ∷ calls) follows = (follows.0, follows_behind script call (made ++ next ∷ []) calls follows.1)

-- the script of a demo that was begun is that of its number, behind the hosts
script_is : (number : ℕ) (work : Work) → IsBegun number work → script_of work ≡ behind no_hosts (demo_script number)
script_is number work begun =
    ap (λ dump. next dump (reverse work.pending.items)) begun.dump ∙ ap (λ asks. next no_dump asks) begun.pending

demo_follows : (number : ℕ) (work : Work) (calls : List Call) → IsBegun number work → Follows (script_of work) calls
    → Follows (demo_script number) (no_hosts ∷ calls)
demo_follows number work calls begun follows =
    (refl, follows_behind (demo_script number) no_hosts [] calls (subst (λ script. Follows script calls) (script_is number work begun) follows))

none_there : (hosts : List (List ℕ)) → (length hosts == 0) ≡ true → hosts ≡ []
none_there [] empty = refl
none_there (host ∷ hosts) empty = absurd (let n = eqb-true (length (host ∷ hosts)) 0 empty in omega (arith, n))

module _ {P : Type 0} (moves : P → List Call → P → Type 0) where
  -- there was nothing to remove
  pub turned_refused : (old new : P) (ask : Ask) (work : Work) (event : Event) (refusal : Refusal) (passed : Bool)
      → event ≡ event_of work.dump ask → moves old ((event, Err refusal) ∷ []) new → passed ≡ is_passed event (Err refusal)
      → passed ≡ true → Turned moves old new ask work work
  turned_refused old new ask work event refusal passed event_is moved passed_is goes = record {
    reply = Err refusal;
    moved = subst (λ e. moves old ((e, Err refusal) ∷ []) new) event_is moved;
    passed = ap (λ e. is_passed e (Err refusal)) (sym event_is) ∙ sym passed_is ∙ goes;
    taken = record { dump = refl; pending = sym (append-nil work.pending.items); tally = λ told keeps. keeps };
  }

  pub continues_done : (old new : P) (number : ℕ) (work : Work) (tally : Tally) (summary : Summary) → IsBegun number work
      → Finished moves old new work tally → ((told : Told) → Keeps told tally → summary ≡ summary_of number told)
      → Continues moves old new number (Done summary)
  continues_done old new number work tally summary begun finished summary_is = record {
    calls = finished.calls;
    moved = finished.moved;
    ends = (
      record {
        follows = demo_follows number work finished.calls begun finished.follows.follows;
        passed = (refl, finished.follows.passed);
      },
      (finished.calls, refl),
      summary_is (told_of nothing_told finished.calls) (finished.told nothing_told begun.tally),
    );
  }

  pub continues_stopped : (old new : P) (number : ℕ) (work : Work) (stop : Stop) → IsBegun number work
      → Stopped moves old new (script_of work) stop → Continues moves old new number (end_of stop)
  continues_stopped old new number work (S.Refused refusal) begun stopped = record {
    calls = stopped.calls;
    moved = stopped.moved;
    ends = record {
      follows = demo_follows number work stopped.calls begun stopped.stops.follows;
      stopped = record {
        before = no_hosts ∷ stopped.stops.stopped.before;
        event = stopped.stops.stopped.event;
        parts = ap (λ calls. no_hosts ∷ calls) stopped.stops.stopped.parts;
        passed = (refl, stopped.stops.stopped.passed);
        stops = stopped.stops.stopped.stops;
      };
    };
  }
  continues_stopped old new number work S.Memory begun stopped = record {
    calls = stopped.calls;
    moved = stopped.moved;
    ends = record {
      begins = (refl, subst (λ script. Begins script stopped.calls) (script_is number work begun) stopped.stops.begins);
      passed = (refl, stopped.stops.passed);
    };
  }

  pub continues_unbegun : (none : (p : P) → moves p [] p) (port : P) (number : ℕ) → Continues moves port port number Memory
  continues_unbegun none port number = record {
    calls = [];
    moved = none port;
    ends = record { begins = (refl, tt); passed = (refl, tt) };
  }

  pub shows_refused : (old new : P) (number : ℕ) (refusal : Refusal) → moves old ((E.Hosts, Err refusal) ∷ []) new
      → Shows moves old new number (Refused refusal)
  shows_refused old new number refusal moved = record {
    calls = (E.Hosts, Err refusal) ∷ [];
    moved = moved;
    ends = record {
      follows = (refl, refl);
      stopped = record { before = []; event = E.Hosts; parts = refl; passed = tt; stops = refl };
    };
  }

  pub shows_occupied : (old new : P) (number : ℕ) (listed hosts : List (List ℕ)) → listed ≡ hosts → (length listed == 0) ≡ false
      → moves old ((E.Hosts, Ok (A.Hosts hosts)) ∷ []) new → Shows moves old new number Occupied
  shows_occupied old new number listed [] same some moved =
      absurd (true≢false (sym (ap (λ (l : List (List ℕ)). length l == 0) same) ∙ some))
  shows_occupied old new number listed (host ∷ hosts) same some moved = record {
    calls = (E.Hosts, Ok (A.Hosts (host ∷ hosts))) ∷ [];
    moved = moved;
    ends = (host, hosts, refl);
  }

  pub shows_behind : (joined : (p q r : P) (xs ys : List Call) → moves p xs q → moves q ys r → moves p (xs ++ ys) r)
      (old mid new : P) (number : ℕ) (listed hosts : List (List ℕ)) (end : DemoEnd) → listed ≡ hosts → (length listed == 0) ≡ true
      → moves old ((E.Hosts, Ok (A.Hosts hosts)) ∷ []) mid → Continues moves mid new number end → Shows moves old new number end
  shows_behind joined old mid new number listed hosts end same empty moved continues =
      let none : hosts ≡ [] = sym same ∙ none_there listed empty in
      record {
        calls = no_hosts ∷ continues.calls;
        moved = joined old mid new (no_hosts ∷ []) continues.calls
            (subst (λ (names : List (List ℕ)). moves old ((E.Hosts, Ok (A.Hosts names)) ∷ []) mid) none moved) continues.moved;
        ends = continues.ends;
      }
