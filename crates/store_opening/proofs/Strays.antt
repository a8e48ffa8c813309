-- Strays among the files that are there.
use Rattle.std.specs.Prelude.{◌&&◌, ◌||◌, not, is_some, slice_get, if◌then◌else◌}
use Rattle.std.specs.List.{position_from}
use Rattle.std.proofs.Common.{◌≡◌, ℕ, ◌+◌, zero, suc, ◌==◌, Bool, true, false, List, [], ◌∷◌, Option, None, Some, refl, sym, ap, ◌∙◌, subst, inl, inr}
use Rattle.std.proofs.lemmas.Bool.{false≢true}
use Rattle.disk_trait.specs.declared.ids.FileId.{FileId}
use Rattle.disk_trait.specs.declared.ids.FileId.TheVariants as F
use Rattle.disk_trait.specs.Names.{is_same_file}
use Rattle.disk_trait.specs.NamesLaws.{same_file, is_same_file-itself}
use Rattle.disk_trait.specs.Files.{Files, lists}
use Rattle.backup_index.specs.Index.{Index}
use Rattle.backup_rules.specs.declared.lines.Line.{Line}
use Rattle.intent_journal.specs.ChangesLaws.{either}
use Rattle.journal_view.specs.Found.{ListsSeen, is_seen}
use Rattle.office_model.specs.Office.{Durable, Host, Backup}
use Rattle.office_model.specs.Parts.{lines_of}
use Rattle.office_files.specs.declared.owner.Owner.{Owner}
use Rattle.office_files.specs.declared.owner.Owner.TheVariants as O
use Rattle.office_files.specs.Owners.{owner_of, has_backup, is_there, is_called_for}
use Rattle.office_files.specs.Pooled.{HasNoIndex}
use Rattle.office_changes.specs.ChangeLaws.{is_of_index}
use Rattle.office_catalog.specs.Known.{Known}
use Rattle.office_catalog.specs.Held.{HoldsCatalog}
use Rattle.office_files.specs.Stands.{StandsFor}
use Rattle.store_parts.specs.KnownOffice.{indices_from, known_of_office, one_catalog}
use Rattle.store_opening.specs.Strays.{has_line, is_known, is_stray, first_stray, HasNoStray, IsNamedByByte, IsStray}

-- ---- the first stray of a list

pub first_listed : (hosts : List Index) (headed : Bool) (files : List FileId) (file : FileId) → first_stray hosts headed files ≡ Some file
    → (lists files file ≡ true) × (is_stray hosts headed file ≡ true)
first_listed hosts headed [] file e = absurd cc
first_listed hosts headed (other ∷ files) file e = elim (either (is_stray hosts headed other)) [
  | inl stray ↦
      let same : Some other ≡ Some file = sym (rw stray refl) ∙ e in
      let one : other ≡ file = cc same in (
        rw (subst (λ (f : FileId). is_same_file file f ≡ true) (sym one) (is_same_file-itself file)) refl,
        subst (λ
            (f : FileId). is_stray hosts headed f ≡ true) one stray,
      )
  | inr not_one ↦
      let rest : first_stray hosts headed files ≡ Some file = sym (rw not_one refl) ∙ e in
      let found = first_listed hosts headed files file rest in
      (more other files file found.0, found.1)
]
  where
    more : (other : FileId) (files : List FileId) (file : FileId) → lists files file ≡ true → lists (other ∷ files) file ≡ true
    more other files file there = elim (either (is_same_file file other)) [
      | inl same ↦ rw same refl
      | inr differs ↦ rw differs there
    ]

pub none_listed : (hosts : List Index) (headed : Bool) (files : List FileId) → first_stray hosts headed files ≡ None → (file : FileId)
    → lists files file ≡ true → is_stray hosts headed file ≡ false
none_listed hosts headed [] e file there = absurd (false≢true there)
none_listed hosts headed (other ∷ files) e file there = elim (either (is_stray hosts headed other)) [
  | inl stray ↦ let clash : Some other ≡ None = sym (rw stray refl) ∙ e in absurd cc
  | inr calm ↦ elim (either (is_same_file file other)) [
    | inl same ↦ subst (λ (f : FileId). is_stray hosts headed f ≡ false) (sym (same_file file other same)) calm
    | inr differs ↦ none_listed hosts headed files (sym (rw calm refl) ∙ e) file (sym (rw differs refl) ∙ there)
  ]
]

-- a stray is a file that a store sees
pub stray_seen : (hosts : List Index) (headed : Bool) (file : FileId) → is_stray hosts headed file ≡ true → is_seen file ≡ true
stray_seen hosts headed F.Head e = refl
stray_seen hosts headed F.Intent e = absurd (false≢true e)
stray_seen hosts headed F.Gate e = absurd (false≢true e)
stray_seen hosts headed (F.Host host) e = refl
stray_seen hosts headed (F.Table host number) e = refl
stray_seen hosts headed (F.Counts host) e = refl
stray_seen hosts headed F.PoolIndex e = refl
stray_seen hosts headed (F.PoolBucket byte) e = refl
stray_seen hosts headed (F.Partial host) e = refl
stray_seen hosts headed (F.Pool id) e = refl
stray_seen hosts headed (F.Stage number) e = refl

pub first_seen : (hosts : List Index) (headed : Bool) (files : List FileId) (file : FileId) → first_stray hosts headed files ≡ Some file
    → is_seen file ≡ true
first_seen hosts headed files file e = stray_seen hosts headed file (first_listed hosts headed files file e).1

-- what isn't listed isn't there, or is no stray
unseen_calm : (hosts : List Index) (headed : Bool) (file : FileId) → is_seen file ≡ false → is_stray hosts headed file ≡ false
unseen_calm hosts headed file e = elim (either (is_stray hosts headed file)) [
  | inl stray ↦ absurd (false≢true (sym e ∙ stray_seen hosts headed file stray))
  | inr calm ↦ calm
]

module _ (all : Files) (list : List FileId) (known : Known) (headed : Bool) (files : List FileId) (is : ListsSeen list all)
    (headed_is : headed ≡ lists list F.Head) (files_are : files ≡ list) where
  head_there : headed ≡ is_some (all F.Head)
  head_there = headed_is ∙ is.each F.Head refl

  pub no_stray : first_stray known.hosts headed files ≡ None → HasNoStray known all
  no_stray none = λ file there. elim (either (is_seen file)) [
    | inl seen ↦ subst (λ (b : Bool). is_stray known.hosts b file ≡ false) head_there
        (none_listed known.hosts headed files none file (ap (λ (l : List FileId). lists l file) files_are ∙ is.each file seen ∙ there))
    | inr unseen ↦ unseen_calm known.hosts (is_some (all F.Head)) file unseen
  ]

  pub a_stray : (other file : FileId) (found : Option (List ℕ)) → first_stray known.hosts headed files ≡ Some other → file ≡ other
      → found ≡ all other → IsNamedByByte other → HoldsCatalog all known → IsStray all file found
  a_stray other file found first same there named holds =
      let f = first_listed known.hosts headed files other first in
      let seen = first_seen known.hosts headed files other first in
      record {
        known = known;
        holds = holds;
        is = there ∙ ap all (sym same);
        there = ap is_some there ∙ sym (is.each other seen) ∙ sym (ap (λ (l : List FileId). lists l other) files_are) ∙ f.0;
        named = subst IsNamedByByte (sym same) named;
        stray = subst (λ (b : Bool). is_stray known.hosts b file ≡ true) head_there
            (ap (is_stray known.hosts headed) same ∙ f.1);
      }

-- ---- the files of an office are no strays

lines_same : (number : ℕ) (k : ℕ) (backups : List Backup) → position_from (λ (line : Line). line.number == number) k (lines_of backups)
    ≡ position_from (λ (backup : Backup). backup.line.number == number) k backups
lines_same number k [] = refl
lines_same number k (backup ∷ backups) =
    ap (λ (o : Option ℕ). if backup.line.number == number then Some k else o) (lines_same number (k + 1) backups)

index_there : (first : ℕ) (hosts : List Host) (i : ℕ) → is_some (slice_get (indices_from first hosts) i) ≡ is_some (slice_get hosts i)
index_there first [] i = refl
index_there first (host ∷ hosts) zero = refl
index_there first (host ∷ hosts) (suc i) = index_there (suc first) hosts i

line_there : (first : ℕ) (hosts : List Host) (i number : ℕ)
    → has_line (slice_get (indices_from first hosts) i) number ≡ has_backup (slice_get hosts i) number
line_there first [] i number = refl
line_there first (host ∷ hosts) zero number = ap is_some (lines_same number 0 host.backups)
line_there first (host ∷ hosts) (suc i) number = line_there (suc first) hosts i number

pub known_there : (hosts : List Host) (owner : Owner) → is_known (indices_from 0 hosts) owner ≡ is_there hosts owner
known_there hosts O.Store = refl
known_there hosts (O.Host host) = index_there 0 hosts host
known_there hosts (O.Backup host number) = line_there 0 hosts host number

-- what an office calls for
calm_of : (hosts : List Host) (headed : Bool) (file : FileId) → is_called_for hosts file ≡ true → (is_of_index file && not headed) ≡ false
    → is_stray (indices_from 0 hosts) headed file ≡ false
calm_of hosts headed file called index =
    (λ i. not (known_there hosts (owner_of file) i) || (is_of_index file && not headed)) ∙ (λ i. not (called i) || index i)

headed_calm : (file : FileId) → (is_of_index file && not true) ≡ false
headed_calm file = elim (either (is_of_index file)) [
  | inl e ↦ ap (λ (b : Bool). b && false) e
  | inr e ↦ ap (λ (b : Bool). b && false) e
]

headless_calm : (all : Files) → HasNoIndex all → (file : FileId) → IsNamedByByte file → is_some (all file) ≡ true → is_of_index file ≡ false
headless_calm all none F.Head named e = refl
headless_calm all none F.Intent named e = refl
headless_calm all none F.Gate named e = refl
headless_calm all none (F.Host host) named e = refl
headless_calm all none (F.Table host number) named e = refl
headless_calm all none (F.Counts host) named e = refl
headless_calm all none F.PoolIndex named e = absurd (false≢true (sym (ap is_some none.one) ∙ e))
headless_calm all none (F.PoolBucket byte) named e = absurd (false≢true (sym (ap is_some (none.each byte named)) ∙ e))
headless_calm all none (F.Partial host) named e = refl
headless_calm all none (F.Pool id) named e = refl
headless_calm all none (F.Stage number) named e = refl

-- no stray is there among files that stand for an office
pub never_stray : (digest_of : List ℕ → List ℕ) (all : Files) (office : Durable) (file : FileId) (found : Option (List ℕ))
    → StandsFor digest_of all office → IsStray all file found → ⊥
never_stray digest_of all office file found is stray =
    false≢true (sym calm ∙ subst (λ (k : Known). is_stray k.hosts (is_some (all F.Head)) file ≡ true) known stray.stray)
  where
    known : stray.known ≡ known_of_office office
    known = one_catalog digest_of is.index is.shown all office is.stands stray.known stray.holds

    there : is_some (all file) ≡ true
    there = ap is_some (sym stray.is) ∙ stray.there

    called : is_called_for office.hosts file ≡ true
    called = elim (either (is_called_for office.hosts file)) [
      | inl e ↦ e
      | inr e ↦ absurd (false≢true (sym (ap is_some (is.stands.nothing_else file e)) ∙ there))
    ]

    step : (head : Option (List ℕ)) → all F.Head ≡ head → (is_of_index file && not (is_some head)) ≡ false
    step (Some bytes) e = headed_calm file
    step None e = ap (λ (b : Bool). b && true) (headless_calm all (is.stands.no_index e) file stray.named there)

    calm : is_stray (indices_from 0 office.hosts) (is_some (all F.Head)) file ≡ false
    calm = calm_of office.hosts (is_some (all F.Head)) file called (step (all F.Head) refl)
