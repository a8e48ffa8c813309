-- The hosts that have tables of the first layout, in files that stand for an office.
--     old_hosts_of hosts files      their indexes
--     are_old      no other host has one
--     older_of, older_raised      so it is told, and in the next epoch
use Rattle.std.specs.Prelude.{◌||◌, if◌then◌else◌, is_some, slice_get}
use Rattle.std.specs.List.{list_any, position_from}
use Rattle.std.proofs.Common.{◌≡◌, ℕ, zero, suc, ◌+◌, ◌==◌, Bool, true, false, List, [], ◌∷◌, Option, None, Some, refl, sym, ap, ◌∙◌, subst, inl, inr, arith}
use Rattle.std.proofs.lemmas.Bool.{false≢true, true≢false}
use Rattle.disk_trait.specs.declared.ids.FileId.{FileId}
use Rattle.disk_trait.specs.declared.ids.FileId.TheVariants as F
use Rattle.disk_trait.specs.declared.disk.Disk.{Ghosts as DiskGhosts}
use Rattle.disk_trait.specs.Files.{Files}
use Rattle.intent_journal.specs.declared.journal.Journal.{Journal}
use Rattle.intent_journal.specs.ChangesLaws.{either}
use Rattle.journal_view.specs.View.{told, FindsNow}
use Rattle.office_model.specs.Office.{Host, Backup}
use Rattle.office_files.specs.Owners.{has_backup, is_called_for}
use Rattle.office_files.specs.TableLayouts.{is_first_layout, is_among, AreOldHosts}
use Rattle.store_opening.specs.KeptTables.{HasTablesOf, AreOldIn}
use Rattle.store_opening.specs.KeptTablesLaws.{old_same, told_found}

-- ---- one host

same_number : (a b : ℕ) → (a == b) ≡ true → a ≡ b
same_number a b e = grind (arith)

number_itself : (a : ℕ) → (a == a) ≡ true
number_itself a = grind (arith)

left_of : (a b : Bool) → (a || b) ≡ false → a ≡ false
left_of true b e = absurd (true≢false e)
left_of false b e = refl

right_of : (a b : Bool) → (a || b) ≡ false → b ≡ false
right_of true b e = absurd (true≢false e)
right_of false b e = e

-- a table of a backup of the host is of the first layout
abbrev has_first : Files → ℕ → List Backup → Bool
has_first files host backups = list_any (λ backup. is_first_layout (files (F.Table host backup.line.number))) backups

first_there : (files : Files) (host : ℕ) (backups : List Backup) → has_first files host backups ≡ true
    → (number : ℕ) × (is_first_layout (files (F.Table host number)) ≡ true)
first_there files host [] e = absurd (false≢true e)
first_there files host (backup ∷ backups) e = elim (either (is_first_layout (files (F.Table host backup.line.number)))) [
  | inl here ↦ (backup.line.number, here)
  | inr out ↦ first_there files host backups (sym (rw out refl) ∙ e)
]

none_first : (files : Files) (host number k : ℕ) (backups : List Backup) → has_first files host backups ≡ false
    → is_some (position_from (λ (backup : Backup). backup.line.number == number) k backups) ≡ true
    → is_first_layout (files (F.Table host number)) ≡ false
none_first files host number k [] none there = absurd (false≢true there)
none_first files host number k (backup ∷ backups) none there = elim (either (backup.line.number == number)) [
  | inl same ↦
      subst (λ (n : ℕ). is_first_layout (files (F.Table host n)) ≡ false) (same_number backup.line.number number same)
      (left_of (is_first_layout (files (F.Table host backup.line.number))) (has_first files host backups) none)
  | inr other ↦
      none_first files host number (k + 1) backups
      (right_of (is_first_layout (files (F.Table host backup.line.number))) (has_first files host backups) none)
      (sym (rw other refl) ∙ there)
]

-- ---- all hosts

-- those of which a backup has such a table, from a number on
old_from : Files → ℕ → List Host → List ℕ
old_from files k [] = []
old_from files k (host ∷ hosts) = if has_first files k host.backups then k ∷ old_from files (suc k) hosts else old_from files (suc k) hosts

old_is : (files : Files) (k : ℕ) (host : Host) (hosts : List Host) → has_first files k host.backups ≡ true
    → old_from files k (host ∷ hosts) ≡ k ∷ old_from files (suc k) hosts
unfolding old_from
old_is files k host hosts has = rw has refl

old_not : (files : Files) (k : ℕ) (host : Host) (hosts : List Host) → has_first files k host.backups ≡ false
    → old_from files k (host ∷ hosts) ≡ old_from files (suc k) hosts
unfolding old_from
old_not files k host hosts none = rw none refl

old_each : (files : Files) (k : ℕ) (hosts : List Host) (host : ℕ) → is_among (old_from files k hosts) host ≡ true
    → (number : ℕ) × (is_first_layout (files (F.Table host number)) ≡ true)
unfolding old_from
old_each files k [] host among = absurd (false≢true among)
old_each files k (first ∷ hosts) host among = elim (either (has_first files k first.backups)) [
  | inr none ↦ old_each files (suc k) hosts host (sym (ap (λ (is : List ℕ). is_among is host) (old_not files k first hosts none)) ∙ among)
  | inl has ↦
      step has (old_each files (suc k) hosts host) (sym (ap (λ (is : List ℕ). is_among is host) (old_is files k first hosts has)) ∙ among)
]
  where
    step : has_first files k first.backups ≡ true
        → (is_among (old_from files (suc k) hosts) host ≡ true → (number : ℕ) × (is_first_layout (files (F.Table host number)) ≡ true))
        → is_among (k ∷ old_from files (suc k) hosts) host ≡ true
        → (number : ℕ) × (is_first_layout (files (F.Table host number)) ≡ true)
    step has rest there = elim (either (k == host)) [
      | inl same ↦
          subst (λ (h : ℕ). (number : ℕ) × (is_first_layout (files (F.Table h number)) ≡ true)) (same_number k host same)
          (first_there files k first.backups has)
      | inr other ↦ rest (sym (rw other refl) ∙ there)
    ]

-- the host at a place, where it is none of them
old_out : (files : Files) (k i : ℕ) (hosts : List Host) (host : Host) → slice_get hosts i ≡ Some host
    → is_among (old_from files k hosts) (k + i) ≡ false → has_first files (k + i) host.backups ≡ false
unfolding old_from
old_out files k i [] host at out = absurd cc
old_out files k zero (first ∷ hosts) host at out =
    let same : first ≡ host = cc in
    let here : k + 0 ≡ k = omega arith in
    subst (λ (n : ℕ). has_first files n host.backups ≡ false) (sym here)
    (subst (λ (h : Host). has_first files k h.backups ≡ false) same
    (elim (either (has_first files k first.backups)) [
      | inr none ↦ none
      | inl has ↦
          absurd (true≢false (sym (found k (old_from files (suc k) hosts))
          ∙ sym (ap (λ (is : List ℕ). is_among is k) (old_is files k first hosts has))
          ∙ subst (λ (n : ℕ). is_among (old_from files k (first ∷ hosts)) n ≡ false) here out))
    ]))
  where
    found : (n : ℕ) (rest : List ℕ) → is_among (n ∷ rest) n ≡ true
    found n rest = ap (λ (b : Bool). b || is_among rest n) (number_itself n)
old_out files k (suc i) (first ∷ hosts) host at out =
    let there : k + suc i ≡ suc k + i = omega arith in
    subst (λ (n : ℕ). has_first files n host.backups ≡ false) (sym there)
    (old_out files (suc k) i hosts host at
    (later (subst (λ (n : ℕ). is_among (old_from files k (first ∷ hosts)) n ≡ false) there out)))
  where
    later : is_among (old_from files k (first ∷ hosts)) (suc k + i) ≡ false → is_among (old_from files (suc k) hosts) (suc k + i) ≡ false
    later e = elim (either (has_first files k first.backups)) [
      | inr none ↦ sym (ap (λ (is : List ℕ). is_among is (suc k + i)) (old_not files k first hosts none)) ∙ e
      | inl has ↦
          right_of (k == suc k + i) (is_among (old_from files (suc k) hosts) (suc k + i))
          (sym (ap (λ (is : List ℕ). is_among is (suc k + i)) (old_is files k first hosts has)) ∙ e)
    ]

pub old_hosts_of : List Host → Files → List ℕ
old_hosts_of hosts files = old_from files 0 hosts

none_is : (bytes : Option (List ℕ)) → bytes ≡ None → is_first_layout bytes ≡ false
none_is bytes e = ap is_first_layout e

pub are_old : (hosts : List Host) (files : Files) → ((file : FileId) → is_called_for hosts file ≡ false → files file ≡ None)
    → AreOldHosts (old_hosts_of hosts files) files
unfolding old_hosts_of
are_old hosts files nothing_else = record {
  each = λ host among. old_each files 0 hosts host among;
  no_other = λ host number out. elim (either (is_called_for hosts (F.Table host number))) [
    | inr uncalled ↦ none_is (files (F.Table host number)) (nothing_else (F.Table host number) uncalled)
    | inl called ↦ step host number out (slice_get hosts host) refl called
  ];
}
  where
    step : (host number : ℕ) → is_among (old_from files 0 hosts) host ≡ false → (at : Option Host) → slice_get hosts host ≡ at
        → has_backup at number ≡ true → is_first_layout (files (F.Table host number)) ≡ false
    step host number out None is there = absurd (false≢true there)
    step host number out (Some of) is there =
        let here : 0 + host ≡ host = omega arith in
        none_first files host number 0 of.backups
        (subst (λ (n : ℕ). has_first files n of.backups ≡ false) here
        (old_out files 0 host hosts of is (subst (λ (n : ℕ). is_among (old_from files 0 hosts) n ≡ false) (sym here) out))) there

-- ---- what is told

pub older_of : (hosts : List ℕ) (files : Files) (told : Option Files) → told ≡ Some files → AreOldHosts hosts files → AreOldIn told hosts
older_of hosts files told is old = λ all now. let same : files ≡ all = cc (is, now) in subst (AreOldHosts hosts) same old

-- the tables are those that were told, and so are the hosts
pub older_raised : {D : Type 0} {d : DiskGhosts D} (old new : Journal D d) (before : Files) → told old ≡ Some before
    → new.halted ≡ false → FindsNow new (HasTablesOf before) → (hosts : List ℕ) → AreOldIn (told old) hosts → AreOldIn (told new) hosts
older_raised old new before is ready tables hosts older = λ all now_is.
    let w = told_found new all ready now_is (HasTablesOf before) tables in
    old_same hosts before all (λ host number. w.2 host number ∙ w.1 host number) (older before is)
