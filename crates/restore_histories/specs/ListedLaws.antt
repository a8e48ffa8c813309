-- A backup that a host had stays as it was, or is gone.
use Rattle.std.specs.Prelude.{◌≡◌, ◌<◌, ◌≤◌, ◌==◌, ℕ, List, [], ◌∷◌, Some, Ok, slice_get, ◌⊎◌}
use Rattle.std.proofs.Common.{sym, ap, ◌∙◌, subst, inl, inr, arith}
use Rattle.std.proofs.lemmas.Bool.Decides.{Decides-eqb}
use Rattle.office_model.specs.declared.event.Event.{Event}
use Rattle.office_model.specs.Places.{Differ}
use Rattle.office_model.specs.PlacesLaws.{position-found}
use Rattle.office_model.specs.Office.{Office, Host, Backup, Durable, raised, AreNumbered, AreHosts}
use Rattle.office_model.specs.Meaning.{Reply}
use Rattle.office_model.specs.Parts.{host_at, backup_at, backup_of}
use Rattle.office_model.specs.Step.{State, Running, Halted, IsSoundState, IsStep, meaning_of}
use Rattle.office_model.specs.History.{Entry, IsHistory, last_state}
use Rattle.office_model.specs.laws.Judging.{bound, at_is}
use Rattle.office_model.specs.laws.Lookups.{host_index-found}
use Rattle.office_model.specs.laws.HistoryLaws.{IsSoundState-last}
use Rattle.office_model.specs.laws.StepLaws.{faulted_is}
use Rattle.restore_histories.specs.HoldingLaws.{HoldsIn, holds_reply, holds_halted}
use Rattle.restore_histories.specs.EventLaws.{WasThere, FollowHosts, hosts_follow}
use Rattle.restore_histories.specs.Listed.{shown_of, IsStill, StaysIn, ListedStays}

-- ---- what a look-up finds

-- a backup that was found, with its host
pub record FoundBackup (hosts : List Host) (name : List ℕ) (number : ℕ) (backup : Backup) : Type 0 where
  pub place : ℕ
  pub host : Host
  pub is_host : slice_get hosts place ≡ Some host
  pub named : host.name ≡ name
  pub index : ℕ
  pub is_backup : slice_get host.backups index ≡ Some backup
  pub numbered : backup.line.number ≡ number

pub found_backup : (hosts : List Host) (name : List ℕ) (number : ℕ) (backup : Backup) → backup_of hosts name number ≡ Ok backup
    → FoundBackup hosts name number backup
found_backup hosts name number backup e =
    let a = bound (host_at hosts name) _ backup e in
    let b = bound (backup_at a.0.value number) _ backup a.2 in
    let there = at_is _ hosts _ a.0 a.1 in
    let here = at_is _ a.0.value.backups _ b.0 b.1 in
    let w = host_index-found hosts name a.0.index there.0 in
    let v = position-found (λ (x : Backup). x.line.number == number) a.0.value.backups b.0.index here.0 in
    let same_host : w.0 ≡ a.0.value = let f = w.1 in let g = there.1 in cc in
    let same : b.0.value ≡ backup = let f = b.2 in cc in
    let same_backup : v.0 ≡ backup = let f : v.0 ≡ b.0.value = let g = v.1 in let h = here.1 in cc in f ∙ same in
    record {
      place = a.0.index;
      host = a.0.value;
      is_host = there.1;
      named = ap (λ (h : Host). h.name) (sym same_host) ∙ w.2;
      index = b.0.index;
      is_backup = here.1 ∙ ap Some same;
      numbered = ap (λ (x : Backup). x.line.number) (sym same_backup) ∙ (Decides-eqb v.0.line.number number).0 v.2;
    }

-- places are one, if elements at two are in their order, and these are one
same_place : (i j m n : ℕ) → (i < j → m < n) → (j < i → n < m) → m ≡ n → i ≡ j
same_place i j m n rises falls same = grind arith

-- backups of one number are one
pub same_numbered : (next : ℕ) (backups : List Backup) → AreNumbered next backups → Differ (λ (backup : Backup). backup.line.number) backups
same_numbered next backups are i j a b at_i at_j same =
    same_place i j a.line.number b.line.number (λ less. are.rise i j a b less at_i at_j) (λ less. are.rise j i b a less at_j at_i) same

-- ---- what is kept of it

-- the host of this name has given this number, and what it has of it is this backup
pub record IsGivenOut (name : List ℕ) (number : ℕ) (was : Backup) (hosts : List Host) : Type 0 where
  pub place : ℕ
  pub host : Host
  pub is_host : slice_get hosts place ≡ Some host
  pub named : host.name ≡ name
  pub given : number < host.next
  pub still : (i : ℕ) (backup : Backup) → slice_get host.backups i ≡ Some backup → backup.line.number ≡ number → shown_of backup ≡ shown_of was

-- so it is in the office that has it
pub given_at_first : (hosts : List Host) (name : List ℕ) (number : ℕ) (was : Backup) → AreHosts hosts → backup_of hosts name number ≡ Ok was
    → IsGivenOut name number was hosts
given_at_first hosts name number was are e =
    let f = found_backup hosts name number was e in
    let sound = are.each f.place f.host f.is_host in
    record {
      place = f.place;
      host = f.host;
      is_host = f.is_host;
      named = f.named;
      given = subst (λ (n : ℕ). n < f.host.next) f.numbered (sound.backups.numbered.below f.index was f.is_backup);
      still = λ i backup at numbered.
          let same : i ≡ f.index =
          same_numbered f.host.next f.host.backups sound.backups.numbered i f.index backup was at f.is_backup (numbered ∙ sym f.numbered) in
          let one : backup ≡ was = let g = ap (slice_get f.host.backups) same in let h = f.is_backup in cc in
          ap shown_of one;
    }

-- and where hosts follow these
given_later : (name : List ℕ) (number : ℕ) (was : Backup) (old new : List Host) → FollowHosts old new → IsGivenOut name number was old
    → IsGivenOut name number was new
given_later name number was old new follow has =
    let at = follow has.place has.host has.is_host in
    record {
      place = has.place;
      host = at.host;
      is_host = at.is_host;
      named = at.follows.name ∙ has.named;
      given = let less = has.given in let more = at.follows.next in omega arith;
      still = λ i backup there numbered. step i backup numbered (at.follows.backups i backup there);
    }
  where
    step : (i : ℕ) (backup : Backup) → backup.line.number ≡ number → WasThere has.host.backups backup ⊎ (has.host.next ≤ backup.line.number)
        → shown_of backup ≡ shown_of was
    step i backup numbered (inl w) = w.same ∙ has.still w.place w.was w.is_was (ap (λ l. l.number) (sym w.same) ∙ numbered)
    step i backup numbered (inr above) = let less = has.given in absurd (omega arith)

-- what the host has of it then
pub is_still : (name : List ℕ) (number : ℕ) (was : Backup) (hosts : List Host) → AreHosts hosts → IsGivenOut name number was hosts
    → IsStill hosts name number was
is_still name number was hosts are has now e =
    let f = found_backup hosts name number now e in
    let same : f.place ≡ has.place = are.differ f.place has.place f.host has.host f.is_host has.is_host (f.named ∙ sym has.named) in
    let one : f.host ≡ has.host = let g = ap (slice_get hosts) same in let h = f.is_host in let k = has.is_host in cc in
    has.still f.index now (ap (λ (h : Host). slice_get h.backups f.index) (sym one) ∙ f.is_backup) f.numbered

-- ---- states

module _ (name : List ℕ) (number : ℕ) (was : Backup) where
  abbrev OfOffice : Office → Type 0
  OfOffice office = IsGivenOut name number was office.hosts

  abbrev OfKept : Durable → Type 0
  OfKept kept = IsGivenOut name number was kept.hosts

  -- of a state
  abbrev pub GivenOutIn : State → Type 0
  GivenOutIn state = HoldsIn OfOffice OfKept state

  raises : (kept : Durable) → OfKept kept → OfKept (raised kept)
  raises kept has = has

  listed_step : (state : State) (event : Event) (reply : Reply) (new : State) → IsStep state event reply new → GivenOutIn state → GivenOutIn new
  listed_step (Running old names) event reply new step has =
      let w = faulted_is event old in
      holds_reply OfOffice OfKept raises (λ office ids h. h) (λ kept ids h. h) old names (meaning_of event) reply new has
      (λ refusal is. (has, subst OfOffice (sym w.1) has))
      (λ c e is. given_later name number was old.hosts c.after.hosts (hosts_follow event old names c e) has)
      (λ c e. given_later name number was old.hosts c.after.hosts (hosts_follow event old names c e) has) step.0
  listed_step (Halted before next names) event reply new step has =
      holds_halted OfOffice OfKept raises (λ office ids h. h) (λ kept ids h. h) (λ kept h. h) before next (meaning_of event).renames reply new has.0 has.1 step.0

  pub listed_last : (state : State) (faults : ℕ) (entries : List Entry) → GivenOutIn state → IsHistory state faults entries
      → GivenOutIn (last_state state entries)
  listed_last state faults [] has legal = has
  listed_last state faults (entry ∷ entries) has legal =
      listed_last entry.state entry.faults entries (listed_step state entry.event entry.reply entry.state legal.0.step has) legal.1

  -- so it is still there, or gone
  pub stays_in : (state : State) → IsSoundState state → GivenOutIn state → StaysIn state name number was
  stays_in (Running office names) sound has = is_still name number was office.hosts sound.office.hosts has
  stays_in (Halted before next names) sound has =
      (is_still name number was before.hosts sound.0.sound.hosts has.0, is_still name number was next.hosts sound.1.sound.hosts has.1)

pub listed_stays : ListedStays
listed_stays office names faults entries name number backup sound legal has =
    stays_in name number backup (last_state (Running office names) entries)
    (IsSoundState-last (Running office names) faults entries sound legal)
    (listed_last name number backup (Running office names) faults entries (given_at_first office.hosts name number backup sound.office.hosts has) legal)
