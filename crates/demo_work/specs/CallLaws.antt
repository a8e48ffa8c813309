-- Which events a demo calls, however it ends.
--     IsOfDemo event, AreOfDemo calls      an event of its asks; each call is one
--     of_demo      so are all calls of a demo
use Rattle.std.specs.Prelude.{if◌then◌else◌}
use Rattle.std.proofs.Common.{◌≡◌, ℕ, Bool, true, false, List, [], ◌∷◌, ◌++◌, Option, None, Some, Ok, sym, subst}
use Rattle.receipts.specs.declared.session.SessionName.{SessionName}
use Rattle.office_model.specs.declared.event.Event.{Event}
use Rattle.office_model.specs.declared.event.Event.TheVariants as E
use Rattle.office_model.specs.declared.answer.Answer.TheVariants as A
use Rattle.office_model.specs.Step.{Call}
use Rattle.call_scripts.specs.Scripts.{Script, FollowsAfter, Begins, behind}
use Rattle.demo_work.specs.declared.asks.Ask.{Ask}
use Rattle.demo_work.specs.declared.asks.Ask.TheVariants as Q
use Rattle.demo_work.specs.declared.ends.DemoEnd.{DemoEnd}
use Rattle.demo_work.specs.declared.ends.DemoEnd.TheVariants.{Done, Occupied, Refused, Memory}
use Rattle.demo_work.specs.Asks.{event_of, dump_after, more_by, is_passed}
use Rattle.demo_work.specs.Plan.{plan}
use Rattle.demo_work.specs.Script.{next, no_dump, demo_script}
use Rattle.demo_work.specs.Ends.{Ends}

abbrev pub IsOfDemo : Event → Type 0
IsOfDemo E.Hosts = Unit {0}
IsOfDemo (E.AddHost host rules) = Unit {0}
IsOfDemo (E.OpenDump host kind now token) = Unit {0}
IsOfDemo (E.Put dump path item token) = Unit {0}
IsOfDemo (E.Remove dump path token) = Unit {0}
IsOfDemo (E.Commit dump now) = Unit {0}
IsOfDemo (E.Expire host now) = Unit {0}
IsOfDemo (E.Clean bucket) = Unit {0}
IsOfDemo E.Sweep = Unit {0}
IsOfDemo E.Stats = Unit {0}
IsOfDemo (E.Backups host) = Unit {0}
IsOfDemo (E.OpenRead host number base) = Unit {0}
IsOfDemo (E.ReadNext restore) = Unit {0}
IsOfDemo (E.CloseRead restore) = Unit {0}
IsOfDemo event = ⊥

abbrev pub AreOfDemo : List Call → Type 0
AreOfDemo [] = Unit {0}
AreOfDemo (call ∷ calls) = IsOfDemo call.0 × AreOfDemo calls

-- ---- an ask

of_ask : (dump : SessionName) (ask : Ask) → IsOfDemo (event_of dump ask)
of_ask dump (Q.AddHost host) = tt
of_ask dump (Q.OpenDump host kind now) = tt
of_ask dump (Q.PutDir dir) = tt
of_ask dump (Q.PutFile dir file value times) = tt
of_ask dump (Q.Remove dir file) = tt
of_ask dump (Q.Commit now) = tt
of_ask dump (Q.Expire host now) = tt
of_ask dump (Q.Clean bucket) = tt
of_ask dump Q.Sweep = tt
of_ask dump Q.Stats = tt
of_ask dump (Q.Backups host) = tt
of_ask dump (Q.OpenRead host number) = tt
of_ask dump (Q.ReadNext restore) = tt
of_ask dump (Q.CloseRead restore) = tt

-- ---- a script

abbrev AsksSo : Script → Type 0
AsksSo script = (made : List Call) (event : Event) → script made ≡ Some event → IsOfDemo event

each_follows : (script : Script) → AsksSo script → (made calls : List Call) → FollowsAfter script made calls → AreOfDemo calls
each_follows script asks made [] follows = tt
each_follows script asks made (call ∷ calls) follows =
    (asks made call.0 follows.0, each_follows script asks (made ++ call ∷ []) calls follows.1)

each_begins : (script : Script) → AsksSo script → (calls : List Call) → Begins script calls → AreOfDemo calls
each_begins script asks [] begins = tt
each_begins script asks (call ∷ calls) begins =
    (asks [] call.0 begins.0, each_begins (behind call script) (λ made event is. asks (call ∷ made) event is) calls begins.1)

passed_on : (passed : Bool) (asked : Option Event) (event : Event) → (asked ≡ Some event → IsOfDemo event)
    → (if passed then asked else None) ≡ Some event → IsOfDemo event
passed_on true asked event of is = of is
passed_on false asked event of is = let no : ⊥ = cc (is) in absurd no

asks_next : (made : List Call) (dump : SessionName) (asks : List Ask) (event : Event) → next dump asks made ≡ Some event → IsOfDemo event
asks_next made dump [] event is = let no : ⊥ = cc (is) in absurd no
asks_next [] dump (ask ∷ asks) event is = let e : event_of dump ask ≡ event = cc (is) in subst IsOfDemo e (of_ask dump ask)
asks_next (call ∷ made) dump (ask ∷ asks) event is =
    passed_on (is_passed call.0 call.1) (next (dump_after dump call.1) (more_by ask call.1 ++ asks) made) event
    (asks_next made (dump_after dump call.1) (more_by ask call.1 ++ asks) event) is

asks_demo : (number : ℕ) → AsksSo (demo_script number)
asks_demo number [] event is = let e : E.Hosts ≡ event = cc (is) in subst IsOfDemo e tt
asks_demo number ((asked, Ok (A.Hosts [])) ∷ made) event is = asks_next made no_dump (plan number) event is
asks_demo number (call ∷ made) event is = let no : ⊥ = cc (is) in absurd no

pub of_demo : (number : ℕ) (end : DemoEnd) (calls : List Call) → Ends number end calls → AreOfDemo calls
of_demo number (Done summary) calls ends = each_follows (demo_script number) (asks_demo number) [] calls ends.0.follows
of_demo number Occupied calls ends = subst AreOfDemo (sym ends.2) (tt, tt)
of_demo number (Refused refusal) calls ends = each_follows (demo_script number) (asks_demo number) [] calls ends.follows
of_demo number Memory calls ends = each_begins (demo_script number) (asks_demo number) calls ends.begins
