-- Look-ups in a catalog are those of the office that it is of.
--     index_there, host_of_index      the index at a host's place, and the host of an index
--     backup_there, no_backup      the backup of a number
--     backup_of_there      the backup of a name and a number
--     one_backup      numbers of backups differ
use Rattle.std.specs.Prelude.{◌≡◌, ◌⊎◌, ◌==◌, ℕ, zero, suc, ◌+◌, ◌<◌, List, [], ◌∷◌, cond, Option, Some, None, Ok, Err, slice_get}
use Rattle.std.specs.List.{position_from}
use Rattle.std.proofs.Common.{refl, sym, ap, ◌∙◌, inl, inr, arith}
use Rattle.std.proofs.lemmas.Bool.Decides.{Decides-eqb}
use Rattle.backup_rules.specs.declared.lines.Line.{Line}
use Rattle.backup_index.specs.Index.{Index}
use Rattle.office_catalog.specs.Known.{Known, line_numbered}
use Rattle.office_files.specs.Hosts.{index_of_host}
use Rattle.store_parts.specs.KnownOffice.{index_there as known_there, known_of_office, index_at}
use Rattle.office_model.specs.declared.refusal.BrokenRule.{BrokenRule}
use Rattle.office_model.specs.declared.refusal.BrokenRule.TheVariants.{NoBackup}
use Rattle.office_model.specs.Office.{Durable, Host, Backup, AreNumbered, backup_index}
use Rattle.office_model.specs.Meaning.{Judged, ◌>>=◌, found}
use Rattle.office_model.specs.Parts.{At, at, host_at, backup_at, backup_of, lines_of}
use Rattle.office_model.specs.PlacesLaws.{position-found}

-- ---- places

line_place : (from : ℕ) (backups : List Backup) (number : ℕ)
    → position_from (λ line. line.number == number) from (lines_of backups)
    ≡ position_from (λ backup. backup.line.number == number) from backups
line_place from [] number = refl
line_place from (backup ∷ backups) number =
    ap (λ (rest : Option ℕ). cond (backup.line.number == number) (Some from) rest) (line_place (from + 1) backups number)

-- the line at the place of a backup
pub line_there : (backups : List Backup) (i : ℕ) (line : Line) → slice_get (lines_of backups) i ≡ Some line
    → (backup : Backup) × (slice_get backups i ≡ Some backup) × (backup.line ≡ line)
line_there [] i line e = absurd cc
line_there (backup ∷ backups) zero line e = (backup, refl, cc)
line_there (backup ∷ backups) (suc i) line e = line_there backups i line e

pub line_at_backup : (backups : List Backup) (i : ℕ) (backup : Backup) → slice_get backups i ≡ Some backup
    → slice_get (lines_of backups) i ≡ Some backup.line
line_at_backup [] i backup e = absurd cc
line_at_backup (first ∷ backups) zero backup e =
    let same : first ≡ backup = cc in ap (λ (b : Backup). Some b.line) same
line_at_backup (first ∷ backups) (suc i) backup e = line_at_backup backups i backup e

-- ---- an element at a place

at_some : {A : Type 0} (rule : BrokenRule) (xs : List A) (place : Option ℕ) (i : ℕ) (x : A) → place ≡ Some i → slice_get xs i ≡ Some x
    → at rule xs place ≡ Ok (record { index = i; value = x })
at_some rule xs place i x e f =
    ap (at rule xs) e ∙ ap (λ o. found rule o >>= λ value. Ok (record { index = i; value = value })) f

at_none : {A : Type 0} (rule : BrokenRule) (xs : List A) (place : Option ℕ) → place ≡ None → at rule xs place ≡ Err rule
at_none rule xs place e = ap (at rule xs) e

-- ---- hosts

-- what is found among the lines of the host at this place
abbrev pub IsLineFound : Known → ℕ → ℕ → Option ℕ → Type 0
IsLineFound known place number line =
    (index : Index) → slice_get known.hosts place ≡ Some index → line ≡ line_numbered index.lines number

module _ (known : Known) (office : Durable) (known_is : known ≡ known_of_office office) where
  pub index_there : (place : ℕ) (host : Host) → slice_get office.hosts place ≡ Some host
      → slice_get known.hosts place ≡ Some (index_of_host place host)
  index_there place host e = ap (λ (k : Known). slice_get k.hosts place) known_is ∙ known_there office.hosts place host e

  pub host_of_index : (place : ℕ) (index : Index) → slice_get known.hosts place ≡ Some index
      → (host : Host) × (slice_get office.hosts place ≡ Some host) × (index ≡ index_of_host place host)
  host_of_index place index e =
      let w = index_at 0 office.hosts place index (ap (λ (k : Known). slice_get k.hosts place) (sym known_is) ∙ e) in
      let n : 0 + place ≡ place = omega arith in
      (w.0, w.1, w.2 ∙ ap (λ (n : ℕ). index_of_host n w.0) n)

  module _ (place : ℕ) (host : Host) (there : slice_get office.hosts place ≡ Some host) (number : ℕ) where
    line_found : (line : Option ℕ) → IsLineFound known place number line → backup_index host.backups number ≡ line
    line_found line found = sym (found (index_of_host place host) (index_there place host there) ∙ line_place 0 host.backups number)

    pub no_backup : IsLineFound known place number None → backup_at host number ≡ Err NoBackup
    no_backup found = at_none NoBackup host.backups (backup_index host.backups number) (line_found None found)

-- a backup of this number stands at this place
pub record IsBackupAt (backups : List Backup) (number place : ℕ) : Type 0 where
  pub backup : Backup
  pub there : slice_get backups place ≡ Some backup
  pub number_is : backup.line.number ≡ number

module _ (known : Known) (office : Durable) (known_is : known ≡ known_of_office office) where
  module _ (place : ℕ) (host : Host) (there : slice_get office.hosts place ≡ Some host) (number line : ℕ)
      (found_line : IsLineFound known place number (Some line)) where
    is_line : backup_index host.backups number ≡ Some line
    is_line = line_found known office known_is place host there number (Some line) found_line

    pub backup_there : IsBackupAt host.backups number line
    backup_there =
        let w = position-found (λ (backup : Backup). backup.line.number == number) host.backups line is_line in
        record { backup = w.0; there = w.1; number_is = (Decides-eqb w.0.line.number number).0 w.2 }

    pub backup_at_there : backup_at host number ≡ Ok (record { index = line; value = backup_there.backup })
    backup_at_there = at_some NoBackup host.backups (backup_index host.backups number) line backup_there.backup is_line backup_there.there

-- ---- a name and a number

abbrev value_at : Host → ℕ → Judged Backup
value_at host number = backup_at host number >>= λ backup. Ok backup.value

pub backup_of_at : (hosts : List Host) (name : List ℕ) (place number : ℕ) (host : Host)
    → host_at hosts name ≡ Ok (record { index = place; value = host })
    → backup_of hosts name number ≡ (backup_at host number >>= λ backup. Ok backup.value)
backup_of_at hosts name place number host e = ap (λ (j : Judged (At Host)). j >>= λ h. value_at h.value number) e

pub backup_of_none : (hosts : List Host) (name : List ℕ) (number : ℕ) (rule : BrokenRule) → host_at hosts name ≡ Err rule
    → backup_of hosts name number ≡ Err rule
backup_of_none hosts name number rule e = ap (λ (j : Judged (At Host)). j >>= λ h. value_at h.value number) e

-- ---- numbers that differ

pub one_backup : (next : ℕ) (backups : List Backup) (i j : ℕ) (a b : Backup) → AreNumbered next backups → slice_get backups i ≡ Some a
    → slice_get backups j ≡ Some b → a.line.number ≡ b.line.number → i ≡ j
one_backup next backups i j a b are e f same = step (order i j)
  where
    order : (i j : ℕ) → (i < j) ⊎ ((j < i) ⊎ (i ≡ j))
    order i j = grind arith

    step : (i < j) ⊎ ((j < i) ⊎ (i ≡ j)) → i ≡ j
    step (inl less) = absurd (let rise = are.rise i j a b less e f in omega (arith, same))
    step (inr (inl more)) = absurd (let rise = are.rise j i b a more f e in omega (arith, same))
    step (inr (inr equal)) = equal
