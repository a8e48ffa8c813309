-- A migration changes no office, and takes all hosts out of those that may have tables of the first layout.
--     of_migration      its calls, however it ended
--     office_kept      in a legal history the office is as it was
--     none_left      after one that was done no host is left
use Rattle.std.specs.Prelude.{slice_get}
use Rattle.std.proofs.Common.{◌≡◌, ℕ, zero, suc, Bool, false, List, [], ◌∷◌, ◌++◌, map, Option, Some, None, Ok, Err, refl, sym, ap, ◌∙◌, subst, append_assoc}
use Rattle.std.specs.List.{All}
use Rattle.std.proofs.lemmas.List.Elements.{All-nil, All-cons, All-head, All-tail, All-map}
use Rattle.office_model.specs.declared.answer.Answer.{Answer}
use Rattle.office_model.specs.declared.answer.Answer.TheVariants as A
use Rattle.office_model.specs.declared.event.Event.{Event}
use Rattle.office_model.specs.declared.event.Event.TheVariants as E
use Rattle.office_model.specs.declared.refusal.Refusal.{Refusal}
use Rattle.office_model.specs.declared.refusal.Refusal.TheVariants as R
use Rattle.office_model.specs.Office.{Office, Durable, Host, Names}
use Rattle.office_model.specs.Places.{Differ}
use Rattle.office_model.specs.Meaning.{Meaning, Carried, Judged, Reply, Touch, Nothing, Reads, Stages, Removes, Commits, ReadsAndCommits, Reopens}
use Rattle.office_model.specs.events.Hosts as HostsEvent
use Rattle.office_model.specs.events.Migrate as MigrateEvent
use Rattle.office_model.specs.Parts.{host_at}
use Rattle.office_model.specs.Step.{Call, State, Running, Halted, IsMade, IsStep, IsReply, MayHalt, meaning_of}
use Rattle.office_model.specs.History.{Entry, IsHistory, last_state, calls_of}
use Rattle.office_model.specs.OldTables.{is_old}
use Rattle.office_model.specs.laws.Judging.{bound}
use Rattle.office_model.specs.laws.Lookups.{host_index-at}
use Rattle.office_model.specs.laws.OldTableLaws.{none_joins_later, migrated_is_none}
use Rattle.call_scripts.specs.Scripts.{FollowsAfter, each_of, events_of, AreAnswered}
use Rattle.call_scripts.specs.ScriptLaws.{events_of-append, AreAnswered-append}
use Rattle.migrate_work.specs.declared.ends.MigrationEnd.{MigrationEnd}
use Rattle.migrate_work.specs.declared.ends.MigrationEnd.TheVariants.{Done, Refused, Memory}
use Rattle.migrate_work.specs.Script.{events_after, migration_script}
use Rattle.migrate_work.specs.Ends.{Ends}
use Rattle.migrate_work.specs.Keeping.{KeepsOffice, IsOfMigration, AreOfMigration}

-- ---- its calls

any_name : (names : List (List ℕ)) → All (λ (name : List ℕ). Unit {0}) names
any_name [] = All-nil (λ (name : List ℕ). Unit {0})
any_name (name ∷ names) = All-cons (λ (name : List ℕ). Unit {0}) name names tt (any_name names)

each_migrates : (events : List Event) (done : List Call) (event : Event) → All IsOfMigration events → each_of events done ≡ Some event
    → IsOfMigration event
each_migrates [] done event all is = let no : ⊥ = cc (is) in absurd no
each_migrates (next ∷ events) [] event all is =
    let e : next ≡ event = cc (is) in subst IsOfMigration e (All-head IsOfMigration next events all)
each_migrates (next ∷ events) ((asked, Ok answer) ∷ done) event all is =
    each_migrates events done event (All-tail IsOfMigration next events all) is
each_migrates (next ∷ events) ((asked, Err refusal) ∷ done) event all is = let no : ⊥ = cc (is) in absurd no

called : (made : List Call) (event : Event) → migration_script made ≡ Some event → IsOfMigration event
called [] event is = let e : E.Hosts ≡ event = cc (is) in subst IsOfMigration e tt
called ((asked, Ok (A.Hosts hosts)) ∷ made) event is =
    each_migrates (events_after hosts) made event (All-map IsOfMigration E.Migrate hosts (any_name hosts)) is
called (call ∷ made) event is = let no : ⊥ = cc (is) in absurd no

all_called : (made calls : List Call) → FollowsAfter migration_script made calls → AreOfMigration calls
all_called made [] follows = tt
all_called made (call ∷ calls) follows = (called made call.0 follows.0, all_called (made ++ call ∷ []) calls follows.1)

pub of_migration : (end : MigrationEnd) (calls : List Call) → Ends end calls → AreOfMigration calls
of_migration (Done count) calls ends = all_called [] calls ends.0
of_migration (Refused refusal) calls ends = all_called [] calls ends.0
of_migration Memory calls ends = subst AreOfMigration (sym ends.1) (tt, tt)

-- ---- the office

-- a halt leaves both offices as the one before, if the event changes none
halts : (touch : Touch) (names : Names) (office : Office) (judged : Judged Carried) (before next : Durable) → (touch ≡ Reopens → ⊥)
    → ((c : Carried) → judged ≡ Ok c → c.after ≡ office) → MayHalt touch false names office judged before next
    → (before ≡ office.durable) × (next ≡ office.durable)
halts Nothing names office judged before next never stays may = absurd may
halts Reads names office judged before next never stays may = absurd may
halts Stages names office judged before next never stays may = absurd may
halts Removes names office judged before next never stays may = absurd may
halts Commits names office (Ok c) before next never stays may = (may.0, may.1 ∙ ap (λ (o : Office). o.durable) (stays c refl))
halts Commits names office (Err rule) before next never stays may = absurd may
halts ReadsAndCommits names office (Ok c) before next never stays may = (may.0, may.1 ∙ ap (λ (o : Office). o.durable) (stays c refl))
halts ReadsAndCommits names office (Err rule) before next never stays may = absurd may
halts Reopens names office judged before next never stays may = absurd (never refl)

kept_by : (meaning : Meaning) (office : Office) (names : Names) (reply : Reply) (next : State) → (meaning.touches office names ≡ Reopens → ⊥)
    → meaning.pools ≡ false → meaning.faulted office ≡ office → ((c : Carried) → meaning.carried office names ≡ Ok c → c.after ≡ office)
    → IsReply office names meaning reply next → KeepsOffice office next
kept_by meaning office names (Ok answer) (Running new names') never plain faulted stays is =
    stays (record { answer = answer; after = new }) (subst (λ (pools : Bool). IsMade pools names office (meaning.carried office names) answer new) plain is)
kept_by meaning office names (Ok answer) (Halted before next names') never plain faulted stays is = absurd is
kept_by meaning office names (Err (R.Broken rule)) (Running new names') never plain faulted stays is = is.1
kept_by meaning office names (Err (R.Broken rule)) (Halted before next names') never plain faulted stays is = absurd is
kept_by meaning office names (Err R.Halted) next never plain faulted stays is = absurd is
kept_by meaning office names (Err R.DiskFault) (Running new names') never plain faulted stays is = is.2 ∙ faulted
kept_by meaning office names (Err R.DiskFault) (Halted before next names') never plain faulted stays is =
    halts (meaning.touches office names) names office (meaning.carried office names) before next never stays
    (subst (λ (pools : Bool). MayHalt (meaning.touches office names) pools names office (meaning.carried office names) before next) plain is)
kept_by meaning office names (Err (R.Damaged file found)) (Running new names') never plain faulted stays is = is.2
kept_by meaning office names (Err (R.Damaged file found)) (Halted before next names') never plain faulted stays is = absurd (never is.0)
kept_by meaning office names (Err R.Memory) (Running new names') never plain faulted stays is = is
kept_by meaning office names (Err R.Memory) (Halted before next names') never plain faulted stays is = absurd is

-- what a listing of the hosts carried out
hosts_carried : (office after : Office) (answer : Answer) → HostsEvent.carried office ≡ Ok (record { answer = answer; after = after })
    → (office ≡ after) × (A.Hosts (HostsEvent.names office.hosts) ≡ answer)
hosts_carried office after answer e =
    let same : (record { answer = A.Hosts (HostsEvent.names office.hosts); after = office }) ≡ (record { answer = answer; after = after }) = cc in
    (ap (λ (c : Carried). c.after) same, ap (λ (c : Carried). c.answer) same)

hosts_stays : (office : Office) (c : Carried) → HostsEvent.carried office ≡ Ok c → c.after ≡ office
hosts_stays office c e = cc

migrate_stays : (name : List ℕ) (office : Office) (c : Carried) → MigrateEvent.carried name office ≡ Ok c → c.after ≡ office
migrate_stays name office c e = let a = bound (host_at office.hosts name) _ c e in let f = a.2 in cc

kept_running : (event : Event) (office : Office) (names : Names) (reply : Reply) (next : State) → IsOfMigration event
    → IsStep (Running office names) event reply next → KeepsOffice office next
kept_running E.Hosts office names reply next of step =
    kept_by (meaning_of E.Hosts) office names reply next (λ e. let no : ⊥ = cc (e) in no) refl refl (λ c e. hosts_stays office c e) step.0
kept_running (E.Migrate name) office names reply next of step =
    kept_by (meaning_of (E.Migrate name)) office names reply next (λ e. let no : ⊥ = cc (e) in no) refl refl (λ c e. migrate_stays name office c e) step.0
kept_running event office names reply next of step = absurd of

stays_halted : (event : Event) (a b : Durable) (names : Names) (reply : Reply) (next : State) → IsOfMigration event
    → IsStep (Halted a b names) event reply next → (before : Durable) → a ≡ before → b ≡ before → (office : Office) → before ≡ office.durable
    → KeepsOffice office next
stays_halted E.Hosts a b names reply (Running new names') of step before first second office is = absurd step.0
stays_halted E.Hosts a b names reply (Halted a' b' names') of step before first second office is =
    (step.0.1 ∙ first ∙ is, step.0.2 ∙ second ∙ is)
stays_halted (E.Migrate name) a b names reply (Running new names') of step before first second office is = absurd step.0
stays_halted (E.Migrate name) a b names reply (Halted a' b' names') of step before first second office is =
    (step.0.1 ∙ first ∙ is, step.0.2 ∙ second ∙ is)
stays_halted event a b names reply next of step before first second office is = absurd of

pub office_kept : (office : Office) (state : State) (faults : ℕ) (entries : List Entry) → KeepsOffice office state
    → IsHistory state faults entries → AreOfMigration (calls_of entries) → KeepsOffice office (last_state state entries)
office_kept office state faults [] kept legal of = kept
office_kept office (Running now names) faults (entry ∷ entries) kept legal of =
    office_kept office entry.state entry.faults entries
    (subst (λ (o : Office). KeepsOffice o entry.state) kept (kept_running entry.event now names entry.reply entry.state of.0 legal.0.step))
    legal.1 of.1
office_kept office (Halted a b names) faults (entry ∷ entries) kept legal of =
    office_kept office entry.state entry.faults entries
    (stays_halted entry.event a b names entry.reply entry.state of.0 legal.0.step office.durable kept.0 kept.1 office refl) legal.1 of.1

-- ---- hosts with tables of the first layout

abbrev first : List Event → Option Event
first [] = None
first (event ∷ events) = Some event

-- after answers comes the first of the events that are left
each_of-next : (calls : List Call) (left : List Event) → AreAnswered calls → each_of (events_of calls ++ left) calls ≡ first left
each_of-next [] [] answered = refl
each_of-next [] (event ∷ events) answered = refl
each_of-next ((asked, Ok answer) ∷ calls) left answered = each_of-next calls left answered
each_of-next ((asked, Err refusal) ∷ calls) left answered = absurd answered

-- calls that follow the script to its end, each of them answered, are those of the events that are left
all_left : (hosts : List (List ℕ)) (done calls : List Call) (left : List Event) → events_of done ++ left ≡ events_after hosts → AreAnswered done
    → AreAnswered calls → FollowsAfter migration_script ((E.Hosts, Ok (A.Hosts hosts)) ∷ done) calls → events_of calls ≡ left
all_left hosts done [] [] parts answered more follows = refl
all_left hosts done [] (event ∷ left) parts answered more follows =
    let next : each_of (events_after hosts) done ≡ Some event =
    subst (λ events. each_of events done ≡ Some event) parts (each_of-next done (event ∷ left) answered) in
    let no : ⊥ = cc (next, follows) in absurd no
all_left hosts done (call ∷ calls) [] parts answered more follows =
    let next : each_of (events_after hosts) done ≡ None =
    subst (λ events. each_of events done ≡ None) parts (each_of-next done [] answered) in
    let no : ⊥ = let f = follows.0 in cc (next, f) in absurd no
all_left hosts done ((asked, Ok answer) ∷ calls) (event ∷ left) parts answered more follows =
    let next : each_of (events_after hosts) done ≡ Some event =
    subst (λ events. each_of events done ≡ Some event) parts (each_of-next done (event ∷ left) answered) in
    let same : asked ≡ event = let f = follows.0 in cc (next, f) in
    λ i. same i ∷ all_left hosts (done ++ (asked, Ok answer) ∷ []) calls left
    (ap (λ events. events ++ left) (events_of-append done ((asked, Ok answer) ∷ [])) ∙ append_assoc (events_of done) (asked ∷ []) left
    ∙ ap (λ (e : Event). events_of done ++ e ∷ left) same ∙ parts)
    (AreAnswered-append done ((asked, Ok answer) ∷ []) answered tt) more follows.1 i
all_left hosts done ((asked, Err refusal) ∷ calls) (event ∷ left) parts answered more follows = absurd more

abbrev WasOk : Reply → Type 0
WasOk (Ok answer) = Unit {0}
WasOk (Err refusal) = ⊥

module _ (office : Office) (differ : Differ (λ (host : Host). host.name) office.hosts) (place : ℕ) (host : Host)
    (at : slice_get office.hosts place ≡ Some host) where
  -- a step that migrates this host, or another one
  migrated : (names : Names) (event : Event) (name : List ℕ) (reply : Reply) (next : State) → event ≡ E.Migrate name → WasOk reply
      → name ≡ host.name → IsStep (Running office names) event reply next → is_old next place ≡ false
  migrated names event name (Ok answer) next is ok named step =
      migrated_is_none office names name answer next place (subst (λ (e : Event). IsStep (Running office names) e (Ok answer) next) is step)
      (host_index-at office.hosts name place host differ at (sym named))
  migrated names event name (Err refusal) next is ok named step = absurd ok

  -- answered, it leaves the office at work
  goes_on : (names : Names) (event : Event) (reply : Reply) (next : State) → IsOfMigration event → WasOk reply
      → IsStep (Running office names) event reply next → (names' : Names) × (next ≡ Running office names')
  goes_on names event (Ok answer) (Running after names') of ok step =
      let kept : after ≡ office = kept_running event office names (Ok answer) (Running after names') of step in
      (names', λ i. Running (kept i) names')
  goes_on names event (Ok answer) (Halted a b names') of ok step = absurd step.0
  goes_on names event (Err refusal) next of ok step = absurd ok

  answered_ok : (event : Event) (reply : Reply) (rest : List Call) → AreAnswered ((event, reply) ∷ rest) → WasOk reply × AreAnswered rest
  answered_ok event (Ok answer) rest answered = (tt, answered)
  answered_ok event (Err refusal) rest answered = absurd answered

  gone : (left : List (List ℕ)) (k : ℕ) → slice_get left k ≡ Some host.name → (names : Names) (faults : ℕ) (entries : List Entry)
      → IsHistory (Running office names) faults entries → events_of (calls_of entries) ≡ map E.Migrate left → AreAnswered (calls_of entries)
      → is_old (last_state (Running office names) entries) place ≡ false
  gone [] k named names faults entries legal events answered = let no : ⊥ = cc (named) in absurd no
  gone (name ∷ left) k named names faults [] legal events answered = let no : ⊥ = cc (events) in absurd no
  gone (name ∷ left) zero named names faults (entry ∷ entries) legal events answered =
      let same : entry.event ≡ E.Migrate name = cc (events) in
      let is : name ≡ host.name = cc (named) in
      let ok = answered_ok entry.event entry.reply (calls_of entries) answered in
      none_joins_later entry.state entry.faults entries legal.1 place
      (migrated names entry.event name entry.reply entry.state same ok.0 is legal.0.step)
  gone (name ∷ left) (suc k) named names faults (entry ∷ entries) legal events answered =
      let same : entry.event ≡ E.Migrate name = cc (events) in
      let ok = answered_ok entry.event entry.reply (calls_of entries) answered in
      let next = goes_on names entry.event entry.reply entry.state (subst IsOfMigration (sym same) tt) ok.0 legal.0.step in
      subst (λ (s : State). is_old (last_state s entries) place ≡ false) (sym next.1)
      (gone left k named next.0 entry.faults entries (subst (λ (s : State). IsHistory s entry.faults entries) next.1 legal.1) (cc (events)) ok.1)

  -- the names of the hosts have that of this one
  named_at : (hosts : List Host) (k : ℕ) → slice_get hosts k ≡ Some host → slice_get (HostsEvent.names hosts) k ≡ Some host.name
  named_at [] k is = let no : ⊥ = cc (is) in absurd no
  named_at (h ∷ hosts) zero is = let same : h ≡ host = cc (is) in ap (λ (x : Host). Some x.name) same
  named_at (h ∷ hosts) (suc k) is = named_at hosts k is

  -- by the calls of a migration that was done
  pub none_left : (names : Names) (faults : ℕ) (entries : List Entry) (count : ℕ) → IsHistory (Running office names) faults entries
      → Ends (Done count) (calls_of entries) → is_old (last_state (Running office names) entries) place ≡ false
  none_left names faults [] count legal ends = let no : ⊥ = let f = ends.0 in cc (f) in absurd no
  none_left names faults (entry ∷ entries) count legal ends =
      by entry.event entry.reply entry.state legal.0.step legal.1 ends.0.0 ends.1 ends.0.1
    where
      by : (event : Event) (reply : Reply) (next : State) → IsStep (Running office names) event reply next
          → IsHistory next entry.faults entries → Some E.Hosts ≡ Some event → AreAnswered ((event, reply) ∷ calls_of entries)
          → FollowsAfter migration_script ((event, reply) ∷ []) (calls_of entries) → is_old (last_state next entries) place ≡ false
      by event (Err refusal) next step rest asked answered follows = absurd answered
      by event (Ok answer) (Halted a b names') step rest asked answered follows = absurd step.0
      by event (Ok answer) (Running after names') step rest asked answered follows =
          let is : E.Hosts ≡ event = cc (asked) in
          let carried : HostsEvent.carried office ≡ Ok (record { answer = answer; after = after }) =
          subst (λ (e : Event). IsMade (meaning_of e).pools names office ((meaning_of e).carried office names) answer after) (sym is) step.0 in
          let both = hosts_carried office after answer carried in
          let same = both.0 in
          let named = both.1 in
          subst (λ (o : Office). is_old (last_state (Running o names') entries) place ≡ false) same
          (gone (HostsEvent.names office.hosts) place (named_at office.hosts place at) names' entry.faults entries
          (subst (λ (o : Office). IsHistory (Running o names') entry.faults entries) (sym same) rest)
          (all_left (HostsEvent.names office.hosts) [] (calls_of entries) (events_after (HostsEvent.names office.hosts)) refl tt answered
          (subst (λ (call : Call). FollowsAfter migration_script (call ∷ []) (calls_of entries)) (λ i. (sym is i, Ok (sym named i))) follows))
          answered)
