-- What the adoption of a dump makes of the hosts: its host gains a backup.
use Rattle.std.specs.Prelude.{◌≡◌, ◌≢◌, ℕ, zero, suc, ◌+◌, ◌-◌, cond, not, List, [], ◌∷◌, ◌++◌, length, Option, Some, None, Ok, slice_get, slice_set, is_some, if◌then◌else◌, bytes_eq, ◌⊎◌}
use Rattle.std.specs.Option.{option_map, option_map_or, option_and_then}
use Rattle.std.specs.List.{position_from, remove}
use Rattle.std.proofs.Common.{refl, sym, ap, ◌∙◌, subst, inl, inr, arith, length-append}
use Rattle.std.proofs.lemmas.Option.{slice_get_within}
use Rattle.attr_records.specs.Items.{Tree}
use Rattle.backup_rules.specs.declared.lines.Line.{Line}
use Rattle.backup_rules.specs.Values.{RuleSet}
use Rattle.backup_rules.specs.Fill.{stays_filled}
use Rattle.receipts.specs.declared.session.SessionName.{SessionName}
use Rattle.receipts.specs.declared.receipt.Receipt.{Receipt}
use Rattle.office_model.specs.declared.answer.Answer.{Answer}
use Rattle.office_model.specs.declared.answer.Answer.TheVariants as A
use Rattle.office_model.specs.declared.refusal.BrokenRule.TheVariants.{NoSession, NumberBehind}
use Rattle.office_model.specs.Places.{Differ}
use Rattle.office_model.specs.PlacesLaws.{slice_get-set_same, slice_get-set_other}
use Rattle.office_model.specs.Pool.{with_tree}
use Rattle.office_model.specs.Office.{Office, Host, Backup, Dump, IsSound, host_index, dump_index}
use Rattle.office_model.specs.Meaning.{Carried, found}
use Rattle.office_model.specs.Repeats.{again, receipt_named}
use Rattle.office_model.specs.Parts.{dump_at, newest, with_last, with_newest, filled_as}
use Rattle.office_model.specs.events.Commit as CommitEvent
use Rattle.office_model.specs.events.Adopt as AdoptEvent
use Rattle.office_model.specs.laws.Judging.{bound, passed, at_is, found_is}
use Rattle.office_model.specs.laws.Lawful.{judged}
use Rattle.office_model.specs.laws.Lookups.{named, dump_index-at, host_index-at, host_index-found}
use Rattle.office_model.specs.laws.RepeatLaws.{given_as, again_is}
use Rattle.folder_laws.specs.OfficeLaws.{HasDump, some_is, at_end, asked_dump}
use Rattle.restore_histories.specs.Listed.{Shown, shown_as, shown_of}
use Rattle.adopted_dumps.specs.Adopted.{shows_of, host_named, Gains, MayGainAny}

ok_is : {A : Type 0} (x y : A) → judged x ≡ judged y → x ≡ y
ok_is x y e = cc

-- ---- backups as they are shown

shows_set : (backups : List Backup) (i : ℕ) (change : Backup → Backup) → ((backup : Backup) → shown_of (change backup) ≡ shown_of backup)
    → (was : Backup) → slice_get backups i ≡ Some was → shows_of (slice_set backups i (change was)) ≡ shows_of backups
shows_set [] i change same was e = refl
shows_set (backup ∷ backups) zero change same was e = ap (λ shown. shown ∷ shows_of backups) (same was ∙ ap shown_of (sym (some_is backup was e)))
shows_set (backup ∷ backups) (suc i) change same was e = ap (λ shows. shown_of backup ∷ shows) (shows_set backups i change same was e)

shows_last : (change : Backup → Backup) → ((backup : Backup) → shown_of (change backup) ≡ shown_of backup) → (backups : List Backup)
    → shows_of (with_last change backups) ≡ shows_of backups
shows_last change same backups = step (slice_get backups (length backups - 1)) refl
  where
    step : (last : Option Backup) → slice_get backups (length backups - 1) ≡ last
        → shows_of (option_map_or (λ (x : Backup). slice_set backups (length backups - 1) (change x)) last backups) ≡ shows_of backups
    step None e = refl
    step (Some was) e = shows_set backups (length backups - 1) change same was e

shows_longer : (backups : List Backup) (backup : Backup) → shows_of (backups ++ backup ∷ []) ≡ shows_of backups ++ shown_of backup ∷ []
shows_longer [] backup = refl
shows_longer (first ∷ backups) backup = ap (λ shows. shown_of first ∷ shows) (shows_longer backups backup)

shows_newest : (rules : RuleSet) (backups : List Backup) (backup : Backup)
    → shows_of (with_newest rules backups backup) ≡ shows_of backups ++ shown_of backup ∷ []
shows_newest rules backups backup =
    shows_longer (with_last (λ (last : Backup). filled_as (stays_filled rules last.line) last) backups) backup
    ∙ ap (λ shows. shows ++ shown_of backup ∷ []) (shows_last (λ (last : Backup). filled_as (stays_filled rules last.line) last) (λ last. refl) backups)

length-shows : (backups : List Backup) → length (shows_of backups) ≡ length backups
length-shows [] = refl
length-shows (backup ∷ backups) = ap suc (length-shows backups)

shown_at : (backups : List Backup) (i : ℕ) → slice_get (shows_of backups) i ≡ option_map shown_of (slice_get backups i)
shown_at [] i = none i
  where
    none : (i : ℕ) → slice_get (shows_of []) i ≡ option_map shown_of (slice_get [] i)
    none zero = refl
    none (suc i) = refl
shown_at (backup ∷ backups) zero = refl
shown_at (backup ∷ backups) (suc i) = shown_at backups i

-- the tree of the newest backup is that of the last one shown
pub newest_shown : (backups : List Backup) (shows : List Shown) (shown : Shown) → shows_of backups ≡ shows ++ shown ∷ []
    → option_map (λ (backup : Backup). backup.tree) (newest backups) ≡ Some shown.tree
newest_shown backups shows shown e = tree_of_last (slice_get backups (length backups - 1)) last
  where
    tree_of_last : (found : Option Backup) → option_map shown_of found ≡ Some shown
        → option_map (λ (backup : Backup). backup.tree) found ≡ Some shown.tree
    tree_of_last None is = absurd (cc)
    tree_of_last (Some backup) is = ap (λ (s : Shown). Some s.tree) (shown_is (shown_of backup) shown is)
      where
        shown_is : (x y : Shown) → Some x ≡ Some y → x ≡ y
        shown_is x y e = cc

    place : length backups - 1 ≡ length shows
    place =
        let more : length (shows ++ shown ∷ []) ≡ length shows + 1 = length-append shows (shown ∷ []) in
        let same : length (shows ++ shown ∷ []) ≡ length backups = ap length (sym e) ∙ length-shows backups in
        omega (arith, more, same)

    last : option_map shown_of (slice_get backups (length backups - 1)) ≡ Some shown
    last =
        sym (shown_at backups (length backups - 1)) ∙ ap (λ xs. slice_get xs (length backups - 1)) e
        ∙ ap (slice_get (shows ++ shown ∷ [])) place ∙ at_end shows shown

-- ---- hosts of which one is another

-- each name is found at its place
index_set : (n : ℕ) (hosts : List Host) (p : ℕ) (old new : Host) (name : List ℕ) → slice_get hosts p ≡ Some old → new.name ≡ old.name
    → position_from (λ (h : Host). bytes_eq h.name name) n (slice_set hosts p new) ≡ position_from (λ (h : Host). bytes_eq h.name name) n hosts
index_set n [] p old new name e same = absurd (cc)
index_set n (host ∷ hosts) zero old new name e same =
    let is : host ≡ old = some_is host old e in
    ap (λ b. cond b (Some n) (position_from (λ (h : Host). bytes_eq h.name name) (n + 1) hosts))
    (ap (λ text. bytes_eq text name) (same ∙ ap (λ (h : Host). h.name) (sym is)))
index_set n (host ∷ hosts) (suc p) old new name e same =
    ap (λ r. cond (bytes_eq host.name name) (Some n) r) (index_set (n + 1) hosts p old new name e same)

pub host_there : (hosts : List Host) (name : List ℕ) (place : ℕ) (host : Host) → host_index hosts name ≡ Some place
    → slice_get hosts place ≡ Some host → host_named hosts name ≡ Some host
host_there hosts name place host at is = ap (option_and_then (slice_get hosts)) at ∙ is

other_host : (hosts : List Host) (place : ℕ) (old new : Host) (name : List ℕ) → slice_get hosts place ≡ Some old → old.name ≡ name
    → new.name ≡ old.name → (other : List ℕ) → other ≢ name → host_named (slice_set hosts place new) other ≡ host_named hosts other
other_host hosts place old new name is named same other apart =
    ap (option_and_then (slice_get (slice_set hosts place new))) (index_set 0 hosts place old new other is same) ∙ step (host_index hosts other) refl
  where
    elsewhere : (i : ℕ) → host_index hosts other ≡ Some i → i ≢ place
    elsewhere i e here =
        let w = host_index-found hosts other i e in
        let one : w.0 ≡ old = some_is w.0 old (sym w.1 ∙ ap (slice_get hosts) here ∙ is) in
        apart (sym w.2 ∙ ap (λ (h : Host). h.name) one ∙ named)

    step : (at : Option ℕ) → host_index hosts other ≡ at
        → option_and_then (slice_get (slice_set hosts place new)) at ≡ option_and_then (slice_get hosts) at
    step None e = refl
    step (Some i) e = slice_get-set_other hosts place i new (elsewhere i e)

gains_set : (hosts : List Host) (place : ℕ) (old new : Host) (name : List ℕ) (shown : Shown) → Differ (λ (host : Host). host.name) hosts
    → slice_get hosts place ≡ Some old → old.name ≡ name → new.name ≡ old.name → shows_of new.backups ≡ shows_of old.backups ++ shown ∷ []
    → new.next ≡ shown.number + 1 → new.rules ≡ old.rules → Gains hosts (slice_set hosts place new) name shown
gains_set hosts place old new name shown differ is named same shows next rules =
    let at : host_index hosts name ≡ Some place = host_index-at hosts name place old differ is named in
    record {
      before = old;
      after = new;
      was = host_there hosts name place old at is;
      is = host_there (slice_set hosts place new) name place new (index_set 0 hosts place old new name is same ∙ at)
          (slice_get-set_same hosts place new (slice_get_within hosts place old is));
      shows = shows;
      next_is = next;
      rules_stay = rules;
      others = other_host hosts place old new name is named same;
    }

-- ---- an adoption

-- that of an open dump repeats none
pub unrepeated : (session : SessionName) (ending : CommitEvent.Ending) (i : ℕ) (office : Office) → dump_index office.dumps session ≡ Some i
    → CommitEvent.carried session ending office ≡ CommitEvent.ended session ending office
unrepeated session ending i office is = ap (λ (place : Option ℕ). again office
    (if is_some place then None else option_map (λ (receipt : Receipt). A.Committed receipt.number) (receipt_named office.hosts session))
    (CommitEvent.ended session ending office)) is

-- the line that an adoption is asked for
abbrev there : Line → Line
there line = AdoptEvent.adopted_line line.number line.start line.end line.kind

-- what it changes, and what it carries out
abbrev made_of : Office → ℕ → Dump → Host → Line → CommitEvent.Committing
made_of office index dump host line = record {
  number = line.number;
  hosts = slice_set office.hosts dump.host (CommitEvent.with_commit host dump line);
  pool = with_tree office.pool dump.tree;
  dumps = remove office.dumps index;
}

abbrev ended_as : SessionName → Office → CommitEvent.Committing → Carried
ended_as session office parts = record { answer = A.Committed parts.number; after = CommitEvent.after session office parts }

made_hosts : (session : SessionName) (office : Office) (made parts : CommitEvent.Committing) (c : Carried) → judged made ≡ judged parts
    → judged (ended_as session office parts) ≡ judged c → made.hosts ≡ c.after.hosts
made_hosts session office made parts c e f =
    ap (λ (m : CommitEvent.Committing). m.hosts) (ok_is made parts e) ∙ ap (λ (x : Carried). x.after.hosts) (ok_is (ended_as session office parts) c f)

-- the host of an open dump
its_host : (office : Office) (session : SessionName) (name : List ℕ) (tree : Tree) (has : HasDump office session name tree) (dump : Dump) (host : Host)
    → dump ≡ has.dump → slice_get office.hosts dump.host ≡ Some host → host.name ≡ name
its_host office session name tree has dump host same is =
    ap (λ (h : Host). h.name) (some_is host has.host (sym is ∙ ap (λ (d : Dump). slice_get office.hosts d.host) same ∙ has.is_host)) ∙ has.host_name

its_tree : (office : Office) (session : SessionName) (name : List ℕ) (tree : Tree) (has : HasDump office session name tree) (dump : Dump)
    → dump ≡ has.dump → dump.tree ≡ tree
its_tree office session name tree has dump same = ap (λ (d : Dump). d.tree) same ∙ has.tree_is

gains_of : (office : Office) (name : List ℕ) (tree : Tree) (line l : Line) (dump : Dump) (host : Host) (hosts : List Host) → IsSound office
    → dump.tree ≡ tree → slice_get office.hosts dump.host ≡ Some host → host.name ≡ name → judged (there line) ≡ judged l
    → slice_set office.hosts dump.host (CommitEvent.with_commit host dump l) ≡ hosts → Gains office.hosts hosts name (shown_as line tree)
gains_of office name tree line l dump host hosts sound tree_is is_host named line_is hosts_are =
    let same : there line ≡ l = ok_is (there line) l line_is in
    let gains : Gains office.hosts (slice_set office.hosts dump.host (CommitEvent.with_commit host dump l)) name (shown_as l dump.tree) =
    gains_set office.hosts dump.host host (CommitEvent.with_commit host dump l) name (shown_as l dump.tree) sound.hosts.differ is_host named refl
    (shows_newest host.rules host.backups (CommitEvent.new_backup dump l)) refl refl in
    subst (λ hs. Gains office.hosts hs name (shown_as line tree)) hosts_are
    (subst (Gains office.hosts (slice_set office.hosts dump.host (CommitEvent.with_commit host dump l)) name)
    (λ i. shown_as (sym same i) (tree_is i)) gains)

pub adopt_gains : (office : Office) (session : SessionName) (name : List ℕ) (tree : Tree) (line : Line) (c : Carried) → IsSound office
    → HasDump office session name tree
    → CommitEvent.carried session (AdoptEvent.as_there (AdoptEvent.adopted_line line.number line.start line.end line.kind)) office ≡ Ok c
    → Gains office.hosts c.after.hosts name (shown_as line tree)
adopt_gains office session name tree line c sound has e =
    let at_index = dump_index-at office.dumps session has.index has.dump sound.sessions.dumps_differ has.is_dump has.name_is in
    let w = bound (CommitEvent.committed session (AdoptEvent.as_there (there line)) office.hosts office.pool office.dumps)
    (λ parts. Ok (ended_as session office parts)) c
    (sym (unrepeated session (AdoptEvent.as_there (there line)) has.index office at_index) ∙ e) in
    let a = bound (dump_at office.dumps session) _ w.0 w.1 in
    let same = asked_dump office session name tree sound has a.0 a.1 in
    let b = bound (found NoSession (slice_get office.hosts a.0.value.host)) _ w.0 a.2 in
    let is_host : slice_get office.hosts a.0.value.host ≡ Some b.0 = found_is NoSession (slice_get office.hosts a.0.value.host) b.0 b.1 in
    let l = bound (AdoptEvent.as_there (there line) b.0 a.0.value) _ w.0 b.2 in
    let p = passed NumberBehind (not (AdoptEvent.is_free b.0.next (there line).number)) (Ok (there line)) l.0 l.1 in
    gains_of office name tree line l.0 a.0.value b.0 c.after.hosts sound (its_tree office session name tree has a.0.value same.1) is_host
    (its_host office session name tree has a.0.value b.0 same.1 is_host) p.1
    (made_hosts session office (made_of office a.0.index a.0.value b.0 l.0) w.0 c l.2 w.2)

-- an adoption of any dump: it is repeated, or some host gains some backup
pub adopts_some : (office : Office) (session : SessionName) (line : Line) (c : Carried) → IsSound office
    → CommitEvent.carried session (AdoptEvent.as_there (AdoptEvent.adopted_line line.number line.start line.end line.kind)) office ≡ Ok c
    → MayGainAny office.durable c.after.durable
adopts_some office session line c sound e =
    step (again_is office (CommitEvent.repeated session office.hosts office.dumps) (CommitEvent.ended session (AdoptEvent.as_there (there line)) office) c e)
  where
    gained : CommitEvent.ended session (AdoptEvent.as_there (there line)) office ≡ Ok c → MayGainAny office.durable c.after.durable
    gained f =
        let w = bound (CommitEvent.committed session (AdoptEvent.as_there (there line)) office.hosts office.pool office.dumps)
        (λ parts. Ok (ended_as session office parts)) c f in
        let a = bound (dump_at office.dumps session) _ w.0 w.1 in
        let at = at_is NoSession office.dumps (dump_index office.dumps session) a.0 a.1 in
        let b = bound (found NoSession (slice_get office.hosts a.0.value.host)) _ w.0 a.2 in
        inr (
          b.0.name,
          shown_as line a.0.value.tree,
          adopt_gains office session b.0.name a.0.value.tree line c sound (record {
            index = a.0.index;
            dump = a.0.value;
            is_dump = at.1;
            name_is = named office.dumps session a.0.index a.0.value at.0 at.1;
            tree_is = refl;
            host = b.0;
            is_host = found_is NoSession (slice_get office.hosts a.0.value.host) b.0 b.1;
            host_name = refl;
          }) e,
        )

    step : ((answer : Answer) × (CommitEvent.repeated session office.hosts office.dumps ≡ Some answer) × (judged (given_as answer office) ≡ judged c))
        ⊎ ((CommitEvent.repeated session office.hosts office.dumps ≡ None) × (CommitEvent.ended session (AdoptEvent.as_there (there line)) office ≡ Ok c))
        → MayGainAny office.durable c.after.durable
    step (inl f) = inl (ap (λ (x : Carried). x.after.durable) (sym (ok_is (given_as f.0 office) c f.2)))
    step (inr f) = gained f.1
