-- Laws on the tables that an opening leaves.
--     old_same      which hosts have a table of the first layout depends on the tables alone
--     tables_told, told_found      what is found of a journal at work has the tables that are told
--     tables_can, tables_then      the tables are those of what might be found before
--     second_found, second_told      no other host has a table of the first layout than before
--     old_found      the hosts that have one had it in files that might have been found before
use Rattle.std.specs.Prelude.{◌≡◌, ℕ, false, List, Option, Some}
use Rattle.std.proofs.Common.{refl, sym, ap, ◌∙◌, subst}
use Rattle.disk_trait.specs.declared.disk.Disk.{Ghosts as DiskGhosts}
use Rattle.disk_trait.specs.declared.ids.FileId.TheVariants.{Table}
use Rattle.disk_trait.specs.Files.{Files}
use Rattle.disk_trait.specs.Images.{FileSet}
use Rattle.intent_journal.specs.declared.journal.Journal.{Journal}
use Rattle.journal_view.specs.Found.{CanFind, FindsAll, IsAlikeBut}
use Rattle.journal_view.specs.FoundLaws.{itself, told_raw, finds_each, finds_wider}
use Rattle.journal_view.specs.View.{told, uncertain, FindsNow}
use Rattle.journal_view.specs.ViewLaws.{working_finds}
use Rattle.office_files.specs.TableLayouts.{is_first_layout, AreSecondBut, AreOldHosts}
use Rattle.office_files.specs.TableLayoutLaws.{second_alike}
use Rattle.store_opening.specs.KeptTables.{HasTablesOf, HasTablesFound, AreOldIn}

pub old_same : (hosts : List ℕ) (all others : Files) → HasTablesOf all others → AreOldHosts hosts all → AreOldHosts hosts others
old_same hosts all others same old = record {
  each = λ host among. let w = old.each host among in (w.0, ap is_first_layout (same host w.0) ∙ w.1);
  no_other = second_alike hosts all others same old.no_other;
}

tables_back : (all others : Files) → HasTablesOf all others → HasTablesOf others all
tables_back all others same = λ host number. sym (same host number)

module _ {D : Type 0} {d : DiskGhosts D} (journal : Journal D d) (all : Files) (ready : journal.halted ≡ false)
    (is : told journal ≡ Some all) where
  -- what is found of a journal at work has the tables that are told
  pub tables_told : FindsNow journal (HasTablesOf all)
  tables_told = λ image left.
      finds_wider (IsAlikeBut all (uncertain journal)) (HasTablesOf all) image
      (λ found alike host number. alike.metadata (Table host number) refl)
      (working_finds journal all ready is image left)

  -- and what holds of all that is found, holds of what is told, but for contents and stages
  pub told_found : (P : Files → Type 0) → FindsNow journal P → (found : Files) × P found × HasTablesOf found all
  told_found P finds =
      let raw = told_raw (d.files journal.disk) all is in
      let left = itself (d.files journal.disk) (uncertain journal) raw.0 raw.1 in
      let here = finds raw.0 left in
      (here.found, here.has, tables_back all here.found (finds_each (HasTablesOf all) raw.0 here.found (tables_told raw.0 left) here.in_image))

module _ (told_before : Option Files) (before : FileSet) (told_now : Option Files) (now : FileSet) where
  pub tables_can : FindsAll told_now now (CanFind told_before before) → FindsAll told_now now (HasTablesFound told_before before)
  tables_can finds = λ image left.
      finds_wider (CanFind told_before before) (HasTablesFound told_before before) image
      (λ found may. record { before = found; may = may; same = λ host number. refl }) (finds image left)

  pub tables_then : (all : Files) → CanFind told_before before all → FindsAll told_now now (HasTablesOf all)
      → FindsAll told_now now (HasTablesFound told_before before)
  tables_then all may finds = λ image left.
      finds_wider (HasTablesOf all) (HasTablesFound told_before before) image
      (λ found same. record { before = all; may = may; same = same }) (finds image left)

pub second_found : (hosts : List ℕ) (told_before : Option Files) (before : FileSet) (told_now : Option Files) (now : FileSet)
    → FindsAll told_before before (AreSecondBut hosts) → FindsAll told_now now (HasTablesFound told_before before)
    → FindsAll told_now now (AreSecondBut hosts)
second_found hosts told_before before told_now now second tables = λ image left.
    finds_wider (HasTablesFound told_before before) (AreSecondBut hosts) image
    (λ found has. second_alike hosts has.before found has.same
    (finds_each (AreSecondBut hosts) has.may.image has.before (second has.may.image has.may.left) has.may.in_image))
    (tables image left)

-- the disk came back
pub tables_closed : {D : Type 0} {d : DiskGhosts D} (journal : Journal D d) (disk : D) → disk ≡ journal.disk → (all : Files)
    → FindsNow journal (HasTablesOf all) → FindsAll (d.files disk) (d.uncertain disk) (HasTablesOf all)
tables_closed {D} {d} journal disk same all tables =
    subst (λ (k : D). FindsAll (d.files k) (d.uncertain k) (HasTablesOf all)) (sym same) tables

pub second_told : {D : Type 0} {d : DiskGhosts D} (journal : Journal D d) (all : Files) → journal.halted ≡ false → told journal ≡ Some all
    → (hosts : List ℕ) → FindsNow journal (AreSecondBut hosts) → AreSecondBut hosts all
second_told journal all ready is hosts finds =
    let w = told_found journal all ready is (AreSecondBut hosts) finds in second_alike hosts w.0 all w.2 w.1

pub old_found : {D : Type 0} {d : DiskGhosts D} (journal : Journal D d) (all : Files) → journal.halted ≡ false → told journal ≡ Some all
    → (hosts : List ℕ) (told_before : Option Files) (before : FileSet) → AreOldIn (told journal) hosts
    → FindsNow journal (HasTablesFound told_before before)
    → (found : Files) × CanFind told_before before found × AreOldHosts hosts found
old_found journal all ready is hosts told_before before old finds =
    let w = told_found journal all ready is (HasTablesFound told_before before) finds in
    let has = w.1 in (
      has.before,
      has.may,
      old_same hosts all has.before
          (λ host number. sym (has.same host number) ∙ sym (w.2 host number))
          (old all is),
    )
