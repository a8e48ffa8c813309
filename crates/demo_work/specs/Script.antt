-- Which event a demo calls next, by what was answered so far.
use Rattle.std.specs.Prelude.{ℕ, List, [], ◌∷◌, ◌++◌, Some, None, Ok, if◌then◌else◌}
use Rattle.receipts.specs.declared.session.SessionName.{SessionName}
use Rattle.office_model.specs.declared.event.Event.TheVariants as E
use Rattle.office_model.specs.declared.answer.Answer.TheVariants as A
use Rattle.call_scripts.specs.Scripts.{Script}
use Rattle.demo_work.specs.declared.asks.Ask.{Ask}
use Rattle.demo_work.specs.Asks.{event_of, dump_after, more_by, is_passed}
use Rattle.demo_work.specs.Plan.{plan}

-- before the first dump is opened no ask speaks of one
abbrev pub no_dump : SessionName
no_dump = record { epoch = 0; sequence = 0 }

-- One ask after the other; what a reply brings on comes before what else is left. No call comes behind a refusal, but behind that of a
-- Remove where there is nothing.
abbrev pub next : SessionName → List Ask → Script
next dump [] calls = None
next dump (ask ∷ asks) [] = Some (event_of dump ask)
next dump (ask ∷ asks) (call ∷ calls) =
    if is_passed call.0 call.1 then next (dump_after dump call.1) (more_by ask call.1 ++ asks) calls else None

-- first the hosts; and then the plan, if there is none
abbrev pub demo_script : ℕ → Script
demo_script number [] = Some E.Hosts
demo_script number ((asked, Ok (A.Hosts [])) ∷ calls) = next no_dump (plan number) calls
demo_script number (call ∷ calls) = None
