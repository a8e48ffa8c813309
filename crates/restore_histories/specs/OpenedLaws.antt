-- A restore that is opened behind a listing gives the backups that were listed.
use Rattle.std.specs.Prelude.{◌≡◌, ◌==◌, ℕ, zero, suc, List, [], ◌∷◌, ◌++◌, map, Option, Some, None, IfSome, Ok, slice_get}
use Rattle.std.proofs.Common.{refl, sym, ap, ◌∙◌, subst}
use Rattle.std.proofs.lemmas.Bool.Decides.{Decides-eqb}
use Rattle.attr_records.specs.Items.{Tree}
use Rattle.backup_rules.specs.declared.lines.Line.{Line}
use Rattle.receipts.specs.declared.session.SessionName.{SessionName}
use Rattle.tree_frames.specs.Frames.{frames_since}
use Rattle.office_model.specs.declared.event.Event.{Event}
use Rattle.office_model.specs.declared.event.Event.TheVariants.{OpenRead, Backups}
use Rattle.office_model.specs.declared.answer.Answer.{Answer}
use Rattle.office_model.specs.declared.answer.Answer.TheVariants.{Restore as Opened, Backups as Listing}
use Rattle.office_model.specs.declared.refusal.BrokenRule.TheVariants.{NoBackup}
use Rattle.office_model.specs.PlacesLaws.{position-found, position-some}
use Rattle.office_model.specs.Office.{Office, Host, Backup, Durable, Names, backup_index, AreNumbered, IsSound}
use Rattle.office_model.specs.Meaning.{Carried, Judged, Reply, ◌>>=◌}
use Rattle.office_model.specs.Parts.{At, host_at, backup_at, backup_of, lines_of}
use Rattle.office_model.specs.Step.{State, Running, Halted, IsSoundState, IsStay, IsHaltedReply, meaning_of}
use Rattle.office_model.specs.History.{Entry, IsHistory, last_state, last_faults, calls_of}
use Rattle.office_model.specs.events
use Rattle.office_model.specs.events.OpenRead.{base_of}
use Rattle.office_model.specs.laws.HistoryLaws.{IsSoundState-last}
use Rattle.office_model.specs.laws.Judging.{bound, at_is, at_found}
use Rattle.office_model.specs.laws.Lawful.{judged}
use Rattle.office_model.specs.laws.RepeatLaws.{given_as}
use Rattle.restore_histories.specs.Listed.{StaysIn}
use Rattle.restore_histories.specs.ListedLaws.{same_numbered, given_at_first, GivenOutIn, listed_last, stays_in}
use Rattle.restore_histories.specs.Given.{given_in, IsRun, GivesBackup, Lists, OpenedIsListed}
use Rattle.restore_histories.specs.GivenLaws.{carried_out, restore_gives}

-- ---- a listing

-- what a list has at a place that another was made of
made_of : {A B : Type 0} (f : A → B) (xs : List A) (i : ℕ) (y : B) → slice_get (map f xs) i ≡ Some y
    → (x : A) × (slice_get xs i ≡ Some x) × (f x ≡ y)
made_of f [] i y e = absurd (cc)
made_of f (x ∷ xs) zero y e = (x, refl, cc)
made_of f (x ∷ xs) (suc i) y e = made_of f xs i y e

-- a backup is found by its number
number_found : (next : ℕ) (backups : List Backup) (i : ℕ) (backup : Backup) → AreNumbered next backups → slice_get backups i ≡ Some backup
    → backup_index backups backup.line.number ≡ Some i
number_found next backups i backup are at =
    let some = position-some (λ (b : Backup). b.line.number == backup.line.number) backups i backup at
    ((Decides-eqb backup.line.number backup.line.number).1 refl) in
    let there = position-found (λ (b : Backup). b.line.number == backup.line.number) backups some.0 some.1 in
    some.1 ∙ ap Some (same_numbered next backups are some.0 i there.0 backup there.1 at
    ((Decides-eqb there.0.line.number backup.line.number).0 there.2))

-- a line that was listed is that of a backup, which is found by its number
pub record IsListed (office : Office) (name : List ℕ) (line : Line) : Type 0 where
  pub backup : Backup
  pub is_backup : backup_of office.hosts name line.number ≡ Ok backup
  pub line_is : backup.line ≡ line

-- where all of a host's lines were listed
record AreListed (office : Office) (name : List ℕ) (lines : List Line) : Type 0 where
  pub host : At Host
  pub is_host : host_at office.hosts name ≡ Ok host
  pub lines_are : lines_of host.value.backups ≡ lines

lines_same : (a b : List Line) (m n : ℕ) (d e : Option SessionName) → Listing a m d ≡ Listing b n e → a ≡ b
lines_same a b m n d e same = cc

all_listed : (office : Office) (name : List ℕ) (lines : List Line) (next : ℕ) (dump : Option SessionName) (after : Office)
    → events.Backups.carried name office ≡ Ok (given_as (Listing lines next dump) after) → AreListed office name lines × (office ≡ after)
all_listed office name lines next dump after e =
    let a = bound (events.Backups.overview name office.hosts office.dumps) _ _ e in
    let b = bound (host_at office.hosts name) _ a.0 a.1 in
    let done : Carried = given_as (Listing a.0.lines a.0.next a.0.dump) office in
    let done_is : done ≡ given_as (Listing lines next dump) after = let f : judged done ≡ judged (given_as (Listing lines next dump) after) = a.2 in cc in
    let seen : lines_of b.0.value.backups ≡ a.0.lines = let f = b.2 in cc in (
      record {
        host = b.0;
        is_host = b.1;
        lines_are = seen ∙ lines_same a.0.lines lines a.0.next next a.0.dump dump (ap (λ (x : Carried). x.answer) done_is);
      },
      ap (λ (x : Carried). x.after) done_is,
    )

one_listed : (office : Office) (name : List ℕ) (lines : List Line) (place : ℕ) (line : Line) → IsSound office → AreListed office name lines
    → slice_get lines place ≡ Some line → IsListed office name line
one_listed office name lines place line sound are at =
    let backups : List Backup = are.host.value.backups in
    let w = made_of (λ (b : Backup). b.line) backups place line (ap (λ (ls : List Line). slice_get ls place) are.lines_are ∙ at) in
    let there = at_is _ office.hosts _ are.host are.is_host in
    let numbered = (sound.hosts.each are.host.index are.host.value there.1).backups.numbered in
    let found : backup_at are.host.value line.number ≡ Ok (record { index = place; value = w.0 }) =
    ap (λ (l : Line). backup_at are.host.value l.number) (sym w.2)
    ∙ at_found NoBackup backups (backup_index backups w.0.line.number) place w.0 (number_found are.host.value.next backups place w.0 numbered w.1) w.1 in
    record {
      backup = w.0;
      is_backup = ap (λ (r : Judged (At Host)). r >>= λ (h : At Host). backup_at h.value line.number >>= λ (b : At Backup). Ok b.value) are.is_host
          ∙ ap (λ (r : Judged (At Backup)). r >>= λ (b : At Backup). Ok b.value) found;
      line_is = w.2;
    }

-- ---- an opening behind it

-- a backup that was listed, and what a state has of it
record IsKept (listed : List Host) (state : State) (name : List ℕ) (number : ℕ) : Type 0 where
  pub backup : Backup
  pub is_backup : backup_of listed name number ≡ Ok backup
  pub stays : StaysIn state name number backup

-- the tree of the base is the one that was listed
base_kept : (listed : List Host) (office : Office) (names : Names) (name : List ℕ) (base : Option ℕ) (tree : Option Tree)
    → IfSome base (λ (number : ℕ). IsKept listed (Running office names) name number) → base_of office.hosts name base ≡ Ok tree
    → base_of listed name base ≡ Ok tree
base_kept listed office names name None tree kept e = e
base_kept listed office names name (Some number) tree kept e =
    let a = bound (backup_of office.hosts name number) _ tree e in
    let same : kept.backup.tree ≡ a.0.tree = ap (λ l. l.tree) (sym (kept.stays a.0 a.1)) in
    ap (λ (r : Judged Backup). r >>= λ (b : Backup). Ok (Some b.tree)) kept.is_backup ∙ ap (λ (t : Tree). judged (Some t)) same ∙ a.2

stay_fails : (before next : Durable) (reply : Reply) (new : State) (answer : Answer) → reply ≡ Ok answer → IsStay before next reply new → ⊥
stay_fails before next reply (Running new n) answer ok is = is
stay_fails before next reply (Halted before' next' n) answer ok is = let e = is.0 in cc

-- where the backups are as they were listed, or gone, a restore of one that is there gives it as it was listed
opened_in : (listed : List Host) (state : State) (faults : ℕ) (opening : Entry) (entries : List Entry) (name : List ℕ) (number : ℕ)
    (base : Option ℕ) (session : SessionName) → IsSoundState state → IsHistory state faults (opening ∷ entries)
    → opening.event ≡ OpenRead name number base → opening.reply ≡ Ok (Opened session) → (kept : IsKept listed state name number)
    → IfSome base (λ (number : ℕ). IsKept listed state name number)
    → (gives : GivesBackup listed name number base (given_in session (calls_of entries))) × (gives.backup ≡ kept.backup)
opened_in listed (Running office names) faults opening entries name number base session sound legal event_is reply_is kept base_is =
    let gives = restore_gives office names faults opening entries name number base session sound legal event_is reply_is in
    let same : gives.backup.tree ≡ kept.backup.tree = ap (λ l. l.tree) (kept.stays gives.backup gives.is_backup) in (
      record {
        backup = kept.backup;
        is_backup = kept.is_backup;
        base_tree = gives.base_tree;
        is_base = base_kept listed office names name base gives.base_tree base_is gives.is_base;
        run = subst (λ (tree : Tree). IsRun (frames_since gives.base_tree tree) (given_in session (calls_of entries))) same gives.run;
      },
      refl,
    )
opened_in listed (Halted before next names) faults opening entries name number base session sound legal event_is reply_is kept base_is =
    absurd (stay_fails before next opening.reply opening.state (Opened session) reply_is
    (subst (λ (event : Event). IsHaltedReply before next (meaning_of event).renames opening.reply opening.state) event_is legal.0.step.0))

-- ---- in one history

parted : (state : State) (faults : ℕ) (xs ys : List Entry) → IsHistory state faults (xs ++ ys)
    → IsHistory state faults xs × IsHistory (last_state state xs) (last_faults faults xs) ys
parted state faults [] ys legal = (tt, legal)
parted state faults (x ∷ xs) ys legal = let w = parted x.state x.faults xs ys legal.1 in ((legal.0, w.0), w.1)

-- a backup of the office that was asked stays through what came then
stays_behind : (office : Office) (asked : State) (faults : ℕ) (between : List Entry) (name : List ℕ) (number : ℕ) (was : Backup)
    → IsSoundState asked → GivenOutIn name number was asked → IsHistory asked faults between → StaysIn (last_state asked between) name number was
stays_behind office asked faults between name number was sound given legal =
    stays_in name number was (last_state asked between) (IsSoundState-last asked faults between sound legal)
    (listed_last name number was asked faults between given legal)

line_of : (a b : Backup) (line : Line) → a ≡ b → b.line ≡ line → a.line ≡ line
line_of a b line same is = ap (λ (x : Backup). x.line) same ∙ is

pub opened_is_listed : OpenedIsListed
opened_is_listed office names faults asking between opening entries name lines next dump place line base session sound legal asked_is answer_is at lists opened_is reply_is =
    let out = carried_out office names asking.event (Backups name) asking.reply (Listing lines next dump) asking.state asked_is answer_is legal.0.step in
    let all = all_listed office name lines next dump out.after out.carried in
    let parts = parted asking.state asking.faults between (opening ∷ entries) legal.1 in
    let then_state : State = last_state asking.state between in
    let stays : (number : ℕ) (was : Backup) → backup_of office.hosts name number ≡ Ok was → StaysIn then_state name number was =
    λ number was is. stays_behind office asking.state asking.faults between name number was legal.0.sound
    (subst (GivenOutIn name number was) (sym out.new_is)
    (subst (λ (o : Office). GivenOutIn name number was (Running o out.after_names)) all.1
    (given_at_first office.hosts name number was sound.office.hosts is))) parts.0 in
    let is : IsListed office name line = one_listed office name lines place line sound.office all.0 at in
    let gives = opened_in office.hosts then_state (last_faults asking.faults between) opening entries name line.number base session
    (IsSoundState-last asking.state asking.faults between legal.0.sound parts.0) parts.1 opened_is reply_is
    (record { backup = is.backup; is_backup = is.is_backup; stays = stays line.number is.backup is.is_backup })
    (base_of_lines then_state stays all.0 base lists) in
    (gives.0, line_of gives.0.backup is.backup line gives.1 is.line_is)
  where
    base_of_lines : (state : State) → ((number : ℕ) (was : Backup) → backup_of office.hosts name number ≡ Ok was → StaysIn state name number was)
        → AreListed office name lines → (base : Option ℕ) → IfSome base (Lists lines)
        → IfSome base (λ (number : ℕ). IsKept office.hosts state name number)
    base_of_lines state stays all None lists = tt
    base_of_lines state stays all (Some number) lists =
        let is : IsListed office name lists.1 = one_listed office name lines lists.0 lists.1 sound.office all lists.2 in
        subst (λ (n : ℕ). IsKept office.hosts state name n) lists.3
        (record { backup = is.backup; is_backup = is.is_backup; stays = stays lists.1.number is.backup is.is_backup })
