-- However far a pull is, what home keeps are the backups before it and some of those that are wanted.
use Rattle.std.specs.Prelude.{◌≡◌, ℕ, Option, List, [], ◌∷◌, ◌++◌, map}
use Rattle.std.proofs.Common.{refl, sym, ap, ◌∙◌, subst, append_assoc}
use Rattle.office_model.specs.Office.{Durable}
use Rattle.office_model.specs.Step.{Call, State, Running, Halted}
use Rattle.office_model.specs.History.{Leads}
use Rattle.restore_histories.specs.Listed.{shown_of}
use Rattle.adopted_dumps.specs.Adopted.{shows_of, AdoptNone, IsUnchanged}
use Rattle.adopted_dumps.specs.PartLaws.{parts_change_nothing}
use Rattle.peer_exchange.specs.declared.fault.PeerFault.{PeerFault}
use Rattle.peer_exchange.specs.declared.fault.PeerFault.TheVariants as F
use Rattle.pull_work.specs.declared.ends.PullEnd.TheVariants.{Memory}
use Rattle.pull_work.specs.Steps.{Step, Home, calls_in}
use Rattle.pull_work.specs.Script.{Job, Intake, Phase, Asking, Adding, AskingAgain, Comparing, Bringing, Opening, Reading, Taking, Closing, Adopting, Aborting, Over, end_by, stopped}
use Rattle.tree_frames.specs.declared.nodes.Frame.{Frame}
use Rattle.replicas.specs.Replicas.{heard_in, shown_in, Brings, BringsIn, BringsAll}
use Rattle.replicas.specs.FrameLaws.{parts_adopt, AdoptNone-append}
use Rattle.replicas.specs.HomeLaws.{brought_is, none_brought}
use Rattle.replicas.specs.Courses.{Course, wants, Before, Brought, InJob, Lain, InReading, IsWhole, Ends, EndsWell, Stands}
use Rattle.receipts.specs.declared.session.SessionName.{SessionName}
use Rattle.office_model.specs.Office.{Host}
use Rattle.backup_rules.specs.declared.lines.Line.{Line}
use Rattle.frame_puts.specs.declared.laying.Laying.{Laying}

-- ---- calls at home alone

pub calls_home : (calls : List Call) (more : List Step) → calls_in (map Home calls ++ more) ≡ calls ++ calls_in more
calls_home [] more = refl
calls_home (call ∷ calls) more = ap (λ (cs : List Call). call ∷ cs) (calls_home calls more)

pub heard_home : (host : List ℕ) (calls : List Call) (more : List Step) → heard_in host (map Home calls ++ more) ≡ heard_in host more
heard_home host [] more = refl
heard_home host (call ∷ calls) more = heard_home host calls more

-- ---- where nothing is brought any more

pub before_ends : (p : Course) (steps : List Step) → Before p steps → Ends p steps
before_ends p steps b = record {
  state = Running b.work.office b.work.names;
  faults = b.work.faults;
  block = [];
  brings = none_brought p.home.hosts (wants p) p.plan.host b.work.office.hosts b.alike;
  none = tt;
  leads = b.work.leads;
}

unfoldable pub brought_ends : (p : Course) (there : Host) (newest : Option ℕ) (lines : List Line) (done : ℕ) (steps : List Step) → Brought p there newest lines done steps
    → Ends p steps
brought_ends p there newest lines done steps b = record {
  state = Running b.work.office b.work.names;
  faults = b.work.faults;
  block = [];
  brings = brought_is p.home.hosts (wants p) b.brought (shows_of b.left) p.plan.host b.work.office.hosts b.wants_are b.shown b.others;
  none = tt;
  leads = b.work.leads;
}

pub job_ends : (p : Course) (there : Host) (job : Job) (block : List Call) (steps : List Step) → InJob p there job block steps → AdoptNone block
    → Ends p steps
job_ends p there job block steps j none = record {
  state = Running j.work.office j.work.names;
  faults = j.work.faults;
  block = block;
  brings = brought_is p.home.hosts (wants p) j.brought (shown_of j.backup ∷ shows_of j.left) p.plan.host j.work.office.hosts j.wants_are j.shown
      j.others;
  none = none;
  leads = j.work.leads;
}

pub lain_none : (p : Course) (job : Job) (dump : SessionName) (laying : Laying) (frames : List Frame) (block : List Call)
    → Lain p job dump laying frames block → AdoptNone block
lain_none p job dump laying frames block l = subst AdoptNone (sym l.block_is) (tt, parts_adopt l.laid l.parts)

pub reading_ends : (p : Course) (intake : Intake) (laid given : List Frame) (steps : List Step) → InReading p intake laid given steps → Ends p steps
reading_ends p intake laid given steps r =
    job_ends p r.there intake.job r.block steps r.job_is (lain_none p intake.job intake.dump intake.laying laid r.block r.lain)

pub whole_none : (p : Course) (job : Job) (dump : SessionName) (steps : List Step) → (w : IsWhole p job dump steps) → AdoptNone w.block
whole_none p job dump steps w = subst AdoptNone (sym w.block_is) (tt, parts_adopt w.laid w.parts)

pub whole_ends : (p : Course) (job : Job) (dump : SessionName) (steps : List Step) → IsWhole p job dump steps → Ends p steps
whole_ends p job dump steps w = job_ends p w.there job w.block steps w.job_is (whole_none p job dump steps w)

-- behind further calls that adopt no dump
unfoldable pub ends_behind : (p : Course) (calls : List Call) (steps more : List Step) → calls_in steps ≡ calls ++ calls_in more → AdoptNone calls
    → Ends p steps → Ends p more
ends_behind p calls steps more are none e = record {
  state = e.state;
  faults = e.faults;
  block = e.block ++ calls;
  brings = e.brings;
  none = AdoptNone-append e.block calls e.none none;
  leads = subst (λ (cs : List Call). Leads e.state e.faults cs p.last p.last_faults)
      (ap (λ (cs : List Call). e.block ++ cs) are ∙ sym (append_assoc e.block calls (calls_in more))) e.leads;
}

-- an end by a fault is none that brought all
pub not_well : (p : Course) (fault : PeerFault) (state : State) → EndsWell p (end_by fault) state
not_well p (F.Refused status) state = tt
not_well p F.Foreign state = tt
not_well p F.Link state = tt
not_well p F.Memory state = tt

-- ---- in each phase

pub ends_of : (p : Course) (phase : Phase) (steps : List Step) → Stands p phase steps → Ends p steps
ends_of p Asking steps s = before_ends p steps s
ends_of p Adding steps s = before_ends p steps s
ends_of p AskingAgain steps s = before_ends p steps s
ends_of p (Comparing own next) steps s = before_ends p steps s.before
ends_of p (Bringing newest lines done) steps s = brought_ends p s.there newest lines done steps s.brought
ends_of p (Opening job restore) steps s = job_ends p s.there job [] steps s.job_is tt
ends_of p (Reading intake) steps s = reading_ends p intake s.0 s.0 steps s.1
ends_of p (Taking intake frame) steps s = reading_ends p intake s.0 (s.0 ++ frame ∷ []) steps s.1
ends_of p (Closing job restore dump) steps s = whole_ends p job dump steps s
ends_of p (Adopting job dump) steps s = whole_ends p job dump steps s
ends_of p (Aborting dump end) steps s = s.ends
ends_of p (Over end) steps s = s.ends

-- for want of memory
pub lacks : (p : Course) (phase : Phase) (steps : List Step) → Stands p phase steps → Stands p (stopped phase Memory) steps
lacks p Asking steps s = record { ends = before_ends p steps s; well = tt }
lacks p Adding steps s = record { ends = before_ends p steps s; well = tt }
lacks p AskingAgain steps s = record { ends = before_ends p steps s; well = tt }
lacks p (Comparing own next) steps s = record { ends = before_ends p steps s.before; well = tt }
lacks p (Bringing newest lines done) steps s = record { ends = brought_ends p s.there newest lines done steps s.brought; well = tt }
lacks p (Opening job restore) steps s = record { ends = job_ends p s.there job [] steps s.job_is tt; well = tt }
lacks p (Reading intake) steps s = record { ends = reading_ends p intake s.0 s.0 steps s.1; well = tt }
lacks p (Taking intake frame) steps s = record { ends = reading_ends p intake s.0 (s.0 ++ frame ∷ []) steps s.1; well = tt }
lacks p (Closing job restore dump) steps s = record { ends = whole_ends p job dump steps s; well = tt }
lacks p (Adopting job dump) steps s = record { ends = whole_ends p job dump steps s; well = tt }
lacks p (Aborting dump end) steps s = s
lacks p (Over end) steps s = record { ends = s.ends; well = tt }

-- ---- the state at last

unchanged_brings : (p : Course) (old new : State) → IsUnchanged old new → BringsIn p.home.hosts (wants p) p.plan.host old
    → BringsIn p.home.hosts (wants p) p.plan.host new
unchanged_brings p (Running old n) (Running new m) same has =
    subst (λ (kept : Durable). Brings p.home.hosts (wants p) p.plan.host kept.hosts) (sym same) has
unchanged_brings p (Running old n) (Halted before next m) same has = absurd same
unchanged_brings p (Halted before next n) (Running new m) same has = absurd same
unchanged_brings p (Halted before next n) (Halted before' next' m) same has = (
  subst (λ (kept : Durable). Brings p.home.hosts (wants p) p.plan.host kept.hosts) (sym same.0) has.0,
  subst (λ (kept : Durable). Brings p.home.hosts (wants p) p.plan.host kept.hosts) (sym same.1) has.1,
)

unchanged_all : (p : Course) (old new : State) → IsUnchanged old new → BringsAll p.home.hosts (wants p) p.plan.host old
    → BringsAll p.home.hosts (wants p) p.plan.host new
unchanged_all p (Running old n) (Running new m) same has = ap (λ (kept : Durable). shown_in kept.hosts p.plan.host) same ∙ has
unchanged_all p (Running old n) (Halted before next m) same has = absurd same
unchanged_all p (Halted before next n) new same has = absurd has

at_last : (p : Course) → (e : Ends p []) → IsUnchanged e.state p.last
at_last p e = parts_change_nothing e.state e.faults (e.block ++ []) p.last p.last_faults e.leads (AdoptNone-append e.block [] e.none tt)

pub last_brings : (p : Course) → Ends p [] → BringsIn p.home.hosts (wants p) p.plan.host p.last
last_brings p e = unchanged_brings p e.state p.last (at_last p e) e.brings

pub last_all : (p : Course) → (e : Ends p []) → BringsAll p.home.hosts (wants p) p.plan.host e.state
    → BringsAll p.home.hosts (wants p) p.plan.host p.last
last_all p e all = unchanged_all p e.state p.last (at_last p e) all
