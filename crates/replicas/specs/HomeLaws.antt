-- What the calls of a pull make of the home office, one by one.
use Rattle.std.specs.Prelude.{◌≡◌, ◌≢◌, bytes_eq, cond, ℕ, ◌+◌, ◌-◌, ◌==◌, nat_le, Bool, true, false, List, [], ◌∷◌, ◌++◌, length, take, Option, Some, None, Ok, Err, slice_get, is_some, if◌then◌else◌}
use Rattle.std.specs.Option.{option_map, option_map_or, option_and_then}
use Rattle.std.specs.List.{list_any, position_from}
use Rattle.std.proofs.Common.{refl, sym, ap, ◌∙◌, subst, arith, length-append}
use Rattle.std.proofs.lemmas.List.{append-nil}
use Rattle.std.proofs.lemmas.Bool.Decides.{Decides-eqb}
use Rattle.std.proofs.lemmas.Slice.Eq.{bytes_eq-Decides}
use Rattle.backup_rules.specs.declared.lines.Kind.{Kind}
use Rattle.backup_rules.specs.declared.lines.Kind.TheVariants.{Full, Incr}
use Rattle.backup_rules.specs.declared.lines.Line.{Line}
use Rattle.backup_rules.specs.Values.{RuleSet}
use Rattle.receipts.specs.declared.session.SessionName.{SessionName}
use Rattle.office_model.specs.declared.event.Event.{Event}
use Rattle.office_model.specs.declared.event.Event.TheVariants as E
use Rattle.office_model.specs.declared.answer.Answer.{Answer}
use Rattle.office_model.specs.declared.answer.Answer.TheVariants as A
use Rattle.office_model.specs.declared.refusal.Refusal.{Refusal}
use Rattle.office_model.specs.declared.refusal.Refusal.TheVariants.{Broken, Halted as HaltedReply, DiskFault, Damaged, Memory}
use Rattle.office_model.specs.declared.refusal.BrokenRule.TheVariants.{HostExists, HostsFull, NoHost}
use Rattle.office_model.specs.PlacesLaws.{slice_get-longer}
use Rattle.office_model.specs.UsedNames.{Among}
use Rattle.office_model.specs.Office.{Office, Durable, Host, Backup, Names, AreHosts, AreNumbered, IsSound, host_index, host_limit, with_hosts}
use Rattle.office_model.specs.Meaning.{Carried, Judged, Reply, Commits}
use Rattle.office_model.specs.Parts.{host_at, backup_of, lines_of, newest}
use Rattle.office_model.specs.Step.{Call, State, Running, Halted, MayHalt, IsReply, IsStep, IsSoundState, meaning_of}
use Rattle.office_model.specs.History.{Entry, IsUndamaged, Leads}
use Rattle.office_model.specs.events
use Rattle.office_model.specs.events.AddHost as AddHostEvent
use Rattle.office_model.specs.laws.AddHostLaws.{is_none, IsSound-with_host}
use Rattle.office_model.specs.laws.Judging.{bound, passed, at_is}
use Rattle.office_model.specs.laws.HistoryLaws.{Leads-one}
use Rattle.office_model.specs.laws.Lawful.{judged}
use Rattle.office_model.specs.laws.Lookups.{host_index-at, host_index-found}
use Rattle.office_model.specs.laws.RepeatLaws.{given_as}
use Rattle.call_scripts.specs.FirstCalls.{answered}
use Rattle.restore_histories.specs.ListedLaws.{found_backup, same_numbered}
use Rattle.restore_histories.specs.Listed.{Shown, shown_of}
use Rattle.adopted_dumps.specs.Adopted.{shows_of, host_named, Gains, AdoptsNone, IsUnchanged}
use Rattle.adopted_dumps.specs.SplitLaws.{first_call}
use Rattle.adopted_dumps.specs.PartLaws.{parts_change_nothing}
use Rattle.adopted_dumps.specs.GainLaws.{host_there}
use Rattle.folder_laws.specs.OfficeLaws.{some_is}
use Rattle.pull_work.specs.Compared.{is_same_kind, is_same_backup, newest_of, base_in}
use Rattle.replicas.specs.Replicas.{shown_in, next_in, IsReplica, OthersStay, Brings}
use Rattle.replicas.specs.ListLaws.{both, last_there, take_front, map_at, map_long, made_of, any_there}

-- ---- what is shown of a host that is there

pub shown_there : (hosts : List Host) (name : List ℕ) (host : Host) → host_named hosts name ≡ Some host
    → shown_in hosts name ≡ shows_of host.backups
shown_there hosts name host is = ap (λ (o : Option Host). option_map_or (λ (h : Host). shows_of h.backups) o []) is

pub next_there : (hosts : List Host) (name : List ℕ) (host : Host) → host_named hosts name ≡ Some host → next_in hosts name ≡ host.next
next_there hosts name host is = ap (λ (o : Option Host). option_map_or (λ (h : Host). h.next) o 0) is

-- a host gained a backup
pub gained : (old new : List Host) (name : List ℕ) (shown : Shown) → Gains old new name shown → shown_in new name ≡ shown_in old name ++ shown ∷ []
gained old new name shown g =
    shown_there new name g.after g.is ∙ g.shows ∙ ap (λ shows. shows ++ shown ∷ []) (sym (shown_there old name g.before g.was))

-- the newest of backups of which this one is shown last
pub newest_shown : (backups : List Backup) (before : List Shown) (shown : Shown) → shows_of backups ≡ before ++ shown ∷ []
    → (own : Backup) × (newest backups ≡ Some own) × (shown_of own ≡ shown)
newest_shown backups before shown are =
    let w = made_of shown_of backups (length before) shown (ap (λ (xs : List Shown). slice_get xs (length before)) are ∙ last_there before shown) in
    let long : length backups ≡ length before + 1 =
    sym (map_long shown_of backups) ∙ ap length are ∙ length-append before (shown ∷ []) in
    let place : length backups - 1 ≡ length before = omega (arith, long) in
    (w.0, ap (slice_get backups) place ∙ w.1, w.2)

-- ---- what was brought

-- hosts of which nothing else is shown
pub record Alike (old new : List Host) (name : List ℕ) : Type 0 where
  pub shown : shown_in new name ≡ shown_in old name
  pub next : next_in new name ≡ next_in old name
  pub others : OthersStay old new name

pub alike_itself : (hosts : List Host) (name : List ℕ) → Alike hosts hosts name
alike_itself hosts name = record { shown = refl; next = refl; others = λ other apart. refl }

pub alike_then : (old mid new : List Host) (name : List ℕ) → Alike old mid name → Alike mid new name → Alike old new name
alike_then old mid new name a b = record {
  shown = b.shown ∙ a.shown;
  next = b.next ∙ a.next;
  others = λ other apart. b.others other apart ∙ a.others other apart;
}

pub brought_is : (old : List Host) (wanted brought rest : List Shown) (host : List ℕ) (new : List Host) → wanted ≡ brought ++ rest
    → shown_in new host ≡ shown_in old host ++ brought → OthersStay old new host → Brings old wanted host new
brought_is old wanted brought rest host new are shown others = (
  length brought,
  shown ∙ ap (λ (xs : List Shown). shown_in old host ++ xs) (sym (ap (take (length brought)) are ∙ take_front brought rest)),
  others,
)

pub none_brought : (old : List Host) (wanted : List Shown) (host : List ℕ) (new : List Host) → Alike old new host → Brings old wanted host new
none_brought old wanted host new alike =
    brought_is old wanted [] wanted host new refl (alike.shown ∙ sym (append-nil (shown_in old host))) alike.others

-- ---- a listing

pub record IsListed (hosts : List Host) (name : List ℕ) (lines : List Line) (next : ℕ) : Type 0 where
  pub host : Host
  pub is_host : host_named hosts name ≡ Some host
  pub lines_are : lines_of host.backups ≡ lines
  pub next_is : host.next ≡ next

answer_lines : (a b : List Line) (m n : ℕ) (d e : Option SessionName) → A.Backups a m d ≡ A.Backups b n e → (a ≡ b) × (m ≡ n)
answer_lines a b m n d e same = (cc, cc)

pub listed : (office : Office) (name : List ℕ) (lines : List Line) (next : ℕ) (dump : Option SessionName) (after : Office)
    → events.Backups.carried name office ≡ Ok (record { answer = A.Backups lines next dump; after = after }) → IsListed office.hosts name lines next
listed office name lines next dump after e =
    let a = bound (events.Backups.overview name office.hosts office.dumps) _ _ e in
    let b = bound (host_at office.hosts name) _ a.0 a.1 in
    let there : (host_index office.hosts name ≡ Some b.0.index) × (slice_get office.hosts b.0.index ≡ Some b.0.value) =
    at_is NoHost office.hosts (host_index office.hosts name) b.0 b.1 in
    let done : Carried = given_as (A.Backups a.0.lines a.0.next a.0.dump) office in
    let done_is : done ≡ given_as (A.Backups lines next dump) after =
    let f : judged done ≡ judged (given_as (A.Backups lines next dump) after) = a.2 in cc in
    let seen : (lines_of b.0.value.backups ≡ a.0.lines) × (b.0.value.next ≡ a.0.next) = let f = b.2 in (cc, cc) in
    let same = answer_lines a.0.lines lines a.0.next next a.0.dump dump (ap (λ (x : Carried). x.answer) done_is) in
    record {
      host = b.0.value;
      is_host = host_there office.hosts name b.0.index b.0.value there.0 there.1;
      lines_are = seen.0 ∙ same.0;
      next_is = seen.1 ∙ same.1;
    }

-- ---- a part, whatever its reply

pub record PartDone (office : Office) (more : List Call) (state' : State) (faults' : ℕ) : Type 0 where
  pub after : Office
  pub names : Names
  pub faults : ℕ
  pub sound : IsSound after
  pub kept : after.durable ≡ office.durable
  pub rest : Leads (Running after names) faults more state' faults'

pub part_done : (office : Office) (names : Names) (faults : ℕ) (call : Call) (more : List Call) (state' : State) (faults' : ℕ)
    → AdoptsNone call.0 call.1 → Leads (Running office names) faults (call ∷ more) state' faults' → PartDone office more state' faults'
part_done office names faults call more state' faults' none leads =
    let f = first_call (Running office names) faults call more state' faults' leads in
    step f.entry f.goes.sound
    (parts_change_nothing (Running office names) faults (call ∷ []) f.entry.state f.entry.faults
    (subst (λ (c : Call). Leads (Running office names) faults (c ∷ []) f.entry.state f.entry.faults) (λ i. (f.event_is i, f.reply_is i))
    (Leads-one (Running office names) faults f.entry f.goes)) (none, tt)) f.rest
  where
    by : (state : State) (count : ℕ) → IsSoundState state → IsUnchanged (Running office names) state → Leads state count more state' faults'
        → PartDone office more state' faults'
    by (Running after n) count sound same rest = record { after = after; names = n; faults = count; sound = sound.office; kept = same; rest = rest }
    by (Halted before next n) count sound same rest = absurd same

    step : (entry : Entry) → IsSoundState entry.state → IsUnchanged (Running office names) entry.state
        → Leads entry.state entry.faults more state' faults' → PartDone office more state' faults'
    step entry sound same rest = by entry.state entry.faults sound same rest

-- ---- a host is added

position_longer : (p : Host → Bool) (n : ℕ) (xs : List Host) (last : Host) → p last ≡ false
    → position_from p n (xs ++ last ∷ []) ≡ position_from p n xs
position_longer p n [] last other = ap (λ (b : Bool). cond b (Some n) None) other
position_longer p n (x ∷ xs) last other = ap (λ (r : Option ℕ). cond (p x) (Some n) r) (position_longer p (n + 1) xs last other)

apart_is : (a b : List ℕ) → b ≢ a → bytes_eq a b ≡ false
apart_is a b apart = by (bytes_eq a b) refl
  where
    by : (same : Bool) → bytes_eq a b ≡ same → same ≡ false
    by true e = absurd (apart (sym ((bytes_eq-Decides a b).0 e)))
    by false e = refl

others_longer : (hosts : List Host) (last : Host) → OthersStay hosts (hosts ++ last ∷ []) last.name
others_longer hosts last other apart =
    ap (option_and_then (slice_get (hosts ++ last ∷ [])))
    (position_longer (λ (host : Host). bytes_eq host.name other) 0 hosts last (apart_is last.name other apart))
    ∙ by (host_index hosts other) refl
  where
    by : (place : Option ℕ) → host_index hosts other ≡ place
        → option_and_then (slice_get (hosts ++ last ∷ [])) place ≡ option_and_then (slice_get hosts) place
    by None e = refl
    by (Some i) e =
        let w = host_index-found hosts other i e in slice_get-longer hosts last i w.0 w.1 ∙ sym w.1

added_hosts : (office : Office) (name : List ℕ) (rules : RuleSet) (c : Carried) → AreHosts c.after.hosts → AddHostEvent.carried name rules office ≡ Ok c
    → Alike office.hosts c.after.hosts name
added_hosts office name rules c are e =
    let a = bound (AddHostEvent.with_host name rules office.hosts) _ c e in
    let b = passed HostExists (is_some (host_index office.hosts name)) _ a.0 a.1 in
    let d = passed HostsFull (nat_le host_limit (length office.hosts)) (Ok (office.hosts ++ AddHostEvent.new_host name rules ∷ [])) a.0 b.1 in
    let none : host_index office.hosts name ≡ None = is_none (host_index office.hosts name) b.0 in
    let hosts_are : office.hosts ++ AddHostEvent.new_host name rules ∷ [] ≡ a.0 =
    let f : judged_hosts (office.hosts ++ AddHostEvent.new_host name rules ∷ []) ≡ judged_hosts a.0 = d.1 in cc in
    let after_is : a.0 ≡ c.after.hosts =
    let f : judged (given_as A.Done (with_hosts office a.0)) ≡ judged c = a.2 in
    let g : given_as A.Done (with_hosts office a.0) ≡ c = cc in ap (λ (x : Carried). x.after.hosts) g in
    let all : office.hosts ++ AddHostEvent.new_host name rules ∷ [] ≡ c.after.hosts = hosts_are ∙ after_is in
    let there : slice_get c.after.hosts (length office.hosts) ≡ Some (AddHostEvent.new_host name rules) =
    ap (λ (hs : List Host). slice_get hs (length office.hosts)) (sym all) ∙ last_there office.hosts (AddHostEvent.new_host name rules) in
    let is : host_named c.after.hosts name ≡ Some (AddHostEvent.new_host name rules) =
    host_there c.after.hosts name (length office.hosts) (AddHostEvent.new_host name rules)
    (host_index-at c.after.hosts name (length office.hosts) (AddHostEvent.new_host name rules) are.differ there refl) there in
    let was : host_named office.hosts name ≡ None = ap (option_and_then (slice_get office.hosts)) none in
    record {
      shown = shown_there c.after.hosts name (AddHostEvent.new_host name rules) is
          ∙ sym (ap (λ (o : Option Host). option_map_or (λ (h : Host). shows_of h.backups) o []) was);
      next = next_there c.after.hosts name (AddHostEvent.new_host name rules) is ∙ sym (ap (λ (o : Option Host). option_map_or (λ (h : Host). h.next) o 0) was);
      others = subst (λ (hosts : List Host). OthersStay office.hosts hosts name) all (others_longer office.hosts (AddHostEvent.new_host name rules));
    }
  where
    judged_hosts : List Host → Judged (List Host)
    judged_hosts hosts = Ok hosts

pub record IsAdded (office : Office) (name : List ℕ) (more : List Call) (state' : State) (faults' : ℕ) : Type 0 where
  pub after : Office
  pub names : Names
  pub faults : ℕ
  pub sound : IsSound after
  pub alike : Alike office.hosts after.hosts name
  pub rest : Leads (Running after names) faults more state' faults'

pub added : (office : Office) (names : Names) (faults : ℕ) (name : List ℕ) (rules : RuleSet) (answer : Answer) (more : List Call)
    (state' : State) (faults' : ℕ) → Leads (Running office names) faults ((E.AddHost name rules, Ok answer) ∷ more) state' faults'
    → IsAdded office name more state' faults'
added office names faults name rules answer more state' faults' leads =
    let a = answered office names faults (E.AddHost name rules) answer more state' faults' leads in
    record {
      after = a.after;
      names = a.after_names;
      faults = a.faults;
      sound = a.sound;
      alike = added_hosts office name rules (record { answer = answer; after = a.after }) a.sound.hosts a.carried;
      rest = a.rest;
    }

-- a state that shows what this office shows
abbrev pub ShowsAs : Office → List ℕ → State → Type 0
ShowsAs old name (Running new names) = Alike old.hosts new.hosts name
ShowsAs old name (Halted before next names) = Alike old.hosts before.hosts name × Alike old.hosts next.hosts name

same_shows : (old new : Office) (name : List ℕ) → new ≡ old → Alike old.hosts new.hosts name
same_shows old new name is = subst (λ (o : Office). Alike old.hosts o.hosts name) (sym is) (alike_itself old.hosts name)

unadded : (office : Office) (names : Names) (name : List ℕ) (rules : RuleSet) (refusal : Refusal) (new : State)
    → ((c : Carried) → AddHostEvent.carried name rules office ≡ Ok c → AreHosts c.after.hosts)
    → IsUndamaged (Err refusal) → IsReply office names (meaning_of (E.AddHost name rules)) (Err refusal) new → ShowsAs office name new
unadded office names name rules (Broken rule) (Running new n) are fine is = same_shows office new name is.1
unadded office names name rules (Broken rule) (Halted before next n) are fine is = absurd is
unadded office names name rules HaltedReply new are fine is = absurd is
unadded office names name rules DiskFault (Running new n) are fine is = same_shows office new name is.2
unadded office names name rules DiskFault (Halted before next n) are fine is = step (AddHostEvent.carried name rules office) refl is
  where
    step : (judged : Judged Carried) → AddHostEvent.carried name rules office ≡ judged → MayHalt Commits false names office judged before next
        → Alike office.hosts before.hosts name × Alike office.hosts next.hosts name
    step (Ok c) e may = (
      subst (λ (kept : Durable). Alike office.hosts kept.hosts name) (sym may.0) (alike_itself office.hosts name),
      subst (λ (kept : Durable). Alike office.hosts kept.hosts name) (sym may.1) (added_hosts office name rules c (are c e) e),
    )
    step (Err rule) e may = absurd may
unadded office names name rules (Damaged file found) new are fine is = absurd fine
unadded office names name rules Memory (Running new n) are fine is = same_shows office new name is
unadded office names name rules Memory (Halted before next n) are fine is = absurd is

pub record IsUnadded (office : Office) (name : List ℕ) (more : List Call) (state' : State) (faults' : ℕ) : Type 0 where
  pub state : State
  pub faults : ℕ
  pub shows : ShowsAs office name state
  pub rest : Leads state faults more state' faults'

pub add_refused : (office : Office) (names : Names) (faults : ℕ) (name : List ℕ) (rules : RuleSet) (refusal : Refusal) (more : List Call)
    (state' : State) (faults' : ℕ) → IsSound office
    → Leads (Running office names) faults ((E.AddHost name rules, Err refusal) ∷ more) state' faults' → IsUnadded office name more state' faults'
add_refused office names faults name rules refusal more state' faults' sound leads =
    let f = first_call (Running office names) faults (E.AddHost name rules, Err refusal) more state' faults' leads in
    let step : IsStep (Running office names) (E.AddHost name rules) (Err refusal) f.entry.state =
    subst (λ (reply : Reply). IsStep (Running office names) (E.AddHost name rules) reply f.entry.state) f.reply_is
    (subst (λ (event : Event). IsStep (Running office names) event f.entry.reply f.entry.state) f.event_is f.goes.step) in
    record {
      state = f.entry.state;
      faults = f.entry.faults;
      shows = unadded office names name rules refusal f.entry.state
          (λ c e. let a = bound (AddHostEvent.with_host name rules office.hosts) _ c e in
          let g : judged (given_as A.Done (with_hosts office a.0)) ≡ judged c = a.2 in
          let h : given_as A.Done (with_hosts office a.0) ≡ c = cc in
          subst (λ (x : Carried). AreHosts x.after.hosts) h
          (IsSound-with_host office name rules a.0 sound a.1).hosts)
          (subst IsUndamaged f.reply_is f.goes.undamaged) step.0;
      rest = f.rest;
    }

-- ---- backups of one host

pub one_backup : (next : ℕ) (backups : List Backup) (a b : Backup) → AreNumbered next backups → Among backups a → Among backups b
    → a.line.number ≡ b.line.number → a ≡ b
one_backup next backups a b are at_a at_b same =
    let place : at_a.0 ≡ at_b.0 = same_numbered next backups are at_a.0 at_b.0 a b at_a.1 at_b.1 same in
    some_is a b (sym at_a.1 ∙ ap (slice_get backups) place ∙ at_b.1)

pub record IsAmong (host : Host) (number : ℕ) (backup : Backup) : Type 0 where
  pub among : Among host.backups backup
  pub numbered : backup.line.number ≡ number

pub among_host : (hosts : List Host) (name : List ℕ) (number : ℕ) (host : Host) (backup : Backup) → AreHosts hosts
    → host_named hosts name ≡ Some host → backup_of hosts name number ≡ Ok backup → IsAmong host number backup
among_host hosts name number host backup are is e =
    let f = found_backup hosts name number backup e in
    let there : host_named hosts name ≡ Some f.host =
    host_there hosts name f.place f.host (host_index-at hosts name f.place f.host are.differ f.is_host f.named) f.is_host in
    let same : f.host ≡ host = some_is f.host host (sym there ∙ is) in
    record { among = (f.index, ap (λ (h : Host). slice_get h.backups f.index) (sym same) ∙ f.is_backup); numbered = f.numbered }

-- ---- the base of the next one

-- the newest backup of home is one that the other server has, too, of this number, with the same tree
pub record IsCommon (number : ℕ) (home there : List Backup) : Type 0 where
  pub own : Backup
  pub other : Backup
  pub is_newest : newest home ≡ Some own
  pub among : Among there other
  pub numbered : other.line.number ≡ number
  pub same : own.tree ≡ other.tree

abbrev pub IsBase : Option ℕ → (home there : List Backup) → Type 0
IsBase None home there = Unit {0}
IsBase (Some number) home there = IsCommon number home there

same_kind : (a b : Kind) → is_same_kind a b ≡ true → a ≡ b
same_kind Full Full e = refl
same_kind Full Incr e = absurd (cc)
same_kind Incr Full e = absurd (cc)
same_kind Incr Incr e = refl

record IsSameLine (own there : Line) : Type 0 where
  pub number : own.number ≡ there.number
  pub start : own.start ≡ there.start
  pub end : own.end ≡ there.end
  pub kind : own.kind ≡ there.kind

same_line : (own there : Line) → is_same_backup own there ≡ true → IsSameLine own there
same_line own there e =
    let a = both (own.number == there.number) _ e in
    let b = both (own.start == there.start) _ a.1 in
    let c = both (own.end == there.end) _ b.1 in
    record {
      number = (Decides-eqb own.number there.number).0 a.0;
      start = (Decides-eqb own.start there.start).0 b.0;
      end = (Decides-eqb own.end there.end).0 c.0;
      kind = same_kind own.kind there.kind c.1;
    }

shown_at : (backups : List Backup) (i : ℕ) (backup : Backup) → slice_get backups i ≡ Some backup → slice_get (shows_of backups) i ≡ Some (shown_of backup)
shown_at backups i backup e = map_at shown_of backups i ∙ ap (option_map shown_of) e

pub among_shown : (hosts : List Host) (name : List ℕ) (host : Host) (backup : Backup) → host_named hosts name ≡ Some host → Among host.backups backup
    → Among (shown_in hosts name) (shown_of backup)
among_shown hosts name host backup is among =
    (among.0, ap (λ (xs : List Shown). slice_get xs among.0) (shown_there hosts name host is) ∙ shown_at host.backups among.0 backup among.1)

pub base_common : (home first : List Host) (name : List ℕ) (own there : Host) → host_named home name ≡ Some own → host_named first name ≡ Some there
    → IsReplica home first name → IsBase (base_in (lines_of own.backups) (lines_of there.backups)) own.backups there.backups
base_common home first name own there own_is there_is replica =
    subst (λ (o : Option Line). IsBase (option_and_then g o) own.backups there.backups) (sym newest_is) (by (newest own.backups) refl)
  where
    g : Line → Option ℕ
    g line = if list_any (is_same_backup line) (lines_of there.backups) then Some line.number else None

    newest_is : newest_of (lines_of own.backups) ≡ option_map (λ (b : Backup). b.line) (newest own.backups)
    newest_is =
        ap (λ (n : ℕ). slice_get (lines_of own.backups) (n - 1)) (map_long (λ (b : Backup). b.line) own.backups)
        ∙ map_at (λ (b : Backup). b.line) own.backups (length own.backups - 1)

    found : (backup : Backup) → newest own.backups ≡ Some backup → list_any (is_same_backup backup.line) (lines_of there.backups) ≡ true
        → IsCommon backup.line.number own.backups there.backups
    found backup at any =
        let w = any_there (is_same_backup backup.line) (lines_of there.backups) any in
        let v = made_of (λ (b : Backup). b.line) there.backups w.0 w.1 w.2 in
        let same = same_line backup.line v.0.line (ap (is_same_backup backup.line) v.2 ∙ w.3) in
        record {
          own = backup;
          other = v.0;
          is_newest = at;
          among = (w.0, v.1);
          numbered = sym same.number;
          same = replica (shown_of backup) (shown_of v.0) (among_shown home name own backup own_is (length own.backups - 1, at))
              (among_shown first name there v.0 there_is (w.0, v.1)) same.number same.start same.end same.kind;
        }

    if_any : (backup : Backup) → newest own.backups ≡ Some backup → (b : Bool) → list_any (is_same_backup backup.line) (lines_of there.backups) ≡ b
        → IsBase (if b then Some backup.line.number else None) own.backups there.backups
    if_any backup at true any = found backup at any
    if_any backup at false any = tt

    by : (o : Option Backup) → newest own.backups ≡ o → IsBase (option_and_then g (option_map (λ (b : Backup). b.line) o)) own.backups there.backups
    by None at = tt
    by (Some backup) at = if_any backup at (list_any (is_same_backup backup.line) (lines_of there.backups)) refl
