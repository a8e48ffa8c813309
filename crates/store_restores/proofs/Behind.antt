-- What a read says behind another one, of the parts before both, and the rows of a base.
--     looks_still, looks_then      nothing was read, and two reads
--     tells_since, damaged_since, loaded_since, refusal_since      what the second one says
--     base_none, base_loaded, base_refusal      no base, and one
--     refused_first, refused_second      how an opening is refused by a read
use Rattle.std.specs.Prelude.{◌≡◌, ◌⊎◌, ℕ, List, take, Option, Some, None, Err}
use Rattle.std.proofs.Common.{refl, sym, ◌∙◌, subst, inl, inr}
use Rattle.disk_trait.specs.declared.ids.FileId.{FileId}
use Rattle.disk_trait.specs.declared.disk.Disk.{Ghosts as DiskGhosts}
use Rattle.disk_trait.specs.Files.{Files}
use Rattle.pool_name.specs.declared.namer.Namer.{Ghosts as NamerGhosts}
use Rattle.journal_view.specs.View.{told}
use Rattle.journal_view.specs.ViewLaws.{Quiet-still, Quiet-then}
use Rattle.merge_view.specs.Views.{Rows}
use Rattle.pool_changes.specs.Kept.{slots_of}
use Rattle.pool_changes.specs.Listed.{index_of}
use Rattle.pool_store.specs.declared.pool.Pool.{Pool}
use Rattle.backup_views.specs.declared.kept.Views.{Views}
use Rattle.backup_views.specs.Faults.{IsDamaged}
use Rattle.backup_views.specs.Stored.{TellsTree, depth_of}
use Rattle.office_catalog.specs.Known.{Known}
use Rattle.office_model.specs.declared.refusal.BrokenRule.{BrokenRule}
use Rattle.office_model.specs.declared.refusal.Refusal.{Refusal}
use Rattle.office_model.specs.declared.refusal.Refusal.TheVariants.{Broken, Halted, DiskFault, Damaged, Memory}
use Rattle.office_model.specs.Meaning.{Judged, Reply}
use Rattle.office_model.specs.Office.{Office, Host, Names}
use Rattle.office_model.specs.Parts.{backup_of}
use Rattle.office_model.specs.events.OpenRead.{base_of}
use Rattle.office_model.specs.events.OpenRead as OpenReadEvent
use Rattle.office_files.specs.Pooled.{contents_of, IsListed}
use Rattle.store_parts.specs.declared.parts.StoreParts.{StoreParts}
use Rattle.store_parts.specs.Held.{IsKeptView}
use Rattle.store_parts.specs.States.{slots, IsRunning}
use Rattle.store_parts.specs.Runs.{Reads}
use Rattle.store_parts.specs.RunLaws.{running_reads}
use Rattle.store_reads.specs.Shown.{IsLoaded, IsRefusal, Looks}
use Rattle.store_reads.specs.Told.{IsPlaced, lines_of, TellsBackup, HasDamagedTable, IsBackupFault, IsReadReply}
use Rattle.store_restores.specs.Since.{TellsBase, HasDamagedBase, IsBaseFault, ShowsBase, IsBaseLoaded}

same_some : (a b : Files) → Some a ≡ Some b → a ≡ b
same_some a b e = cc

module _ {D N S : Type 0} {d : DiskGhosts D} {n : NamerGhosts N S} where
  pub looks_still : (parts : StoreParts D N S d n) → Looks parts parts
  looks_still parts = record {
    quiet = Quiet-still parts.journal;
    pool_same = refl;
    catalog_same = refl;
    counts_same = refl;
    partials_same = refl;
    sessions_same = refl;
    halted_same = refl;
    views_same = refl;
  }

  pub reads_of : (old mid : StoreParts D N S d n) → Looks old mid → Reads old mid
  reads_of old mid looks = record {
    quiet = looks.quiet;
    pool_same = looks.pool_same;
    catalog_same = looks.catalog_same;
    counts_same = looks.counts_same;
    partials_same = looks.partials_same;
    sessions_same = looks.sessions_same;
    halted_same = looks.halted_same;
    view = λ office names at.
        subst (λ (views : Views). IsKeptView views.kept office.hosts at.shown) (sym looks.views_same) at.view;
  }

  module _ (old mid : StoreParts D N S d n) (looks : Looks old mid) where
    pub looks_then : (new : StoreParts D N S d n) → Looks mid new → Looks old new
    looks_then new next = record {
      quiet = Quiet-then old.journal mid.journal new.journal looks.quiet next.quiet;
      pool_same = next.pool_same ∙ looks.pool_same;
      catalog_same = next.catalog_same ∙ looks.catalog_same;
      counts_same = next.counts_same ∙ looks.counts_same;
      partials_same = next.partials_same ∙ looks.partials_same;
      sessions_same = next.sessions_same ∙ looks.sessions_same;
      halted_same = next.halted_same ∙ looks.halted_same;
      views_same = next.views_same ∙ looks.views_same;
    }

    -- ---- what the files tell

    tells_since : (name : List ℕ) (number : ℕ) (rows : Rows) → TellsBackup mid name number rows → TellsBackup old name number rows
    tells_since name number rows tells =
        let back = subst
        (λ (known : Known). (placed : IsPlaced known name number)
        × ((all : Files) → told old.journal ≡ Some all → TellsTree all placed.place (lines_of placed) rows))
        looks.catalog_same (tells.placed, λ all told_is. tells.tells all (looks.quiet.told_same ∙ told_is)) in
        record { placed = back.0; tells = back.1 }

    damaged_since : (name : List ℕ) (number : ℕ) (file : FileId) (found : Option (List ℕ)) → HasDamagedTable mid name number file found
        → HasDamagedTable old name number file found
    damaged_since name number file found damaged =
        let back = subst
        (λ (known : Known). (placed : IsPlaced known name number)
        × IsDamaged (told old.journal) placed.place (take (depth_of (lines_of placed)) (lines_of placed)) file found)
        looks.catalog_same (
          damaged.placed,
          subst (λ (files : Option Files). IsDamaged files damaged.placed.place
              (take (depth_of (lines_of damaged.placed)) (lines_of damaged.placed)) file found) looks.quiet.told_same damaged.damaged,
        ) in
        record { placed = back.0; damaged = back.1 }

    pub tells_base : (name : List ℕ) (base : Option ℕ) (older : Option Rows) → TellsBase mid name base older → TellsBase old name base older
    tells_base name None None tells = tells
    tells_base name None (Some rows) tells = tells
    tells_base name (Some number) None tells = tells
    tells_base name (Some number) (Some rows) tells = tells_since name number rows tells

    pub base_fault : (name : List ℕ) (base : Option ℕ) (refusal : Refusal) → IsBaseFault mid name base refusal
        → IsBaseFault old name base refusal
    base_fault name None (Damaged file found) fault = fault
    base_fault name (Some number) (Damaged file found) fault = damaged_since name number file found fault
    base_fault name base (Broken rule) fault = tt
    base_fault name base Memory fault = tt
    base_fault name base DiskFault fault = tt
    base_fault name base Halted fault = tt

    -- ---- offices

    running_since : (office : Office) (names : Names) → IsRunning old office names → IsRunning mid office names
    running_since office names at = running_reads old mid office names at (reads_of old mid looks)

    same_files : (office : Office) (names : Names) (at : IsRunning old office names) → (running_since office names at).all ≡ at.all
    same_files office names at =
        same_some (running_since office names at).all at.all
        (sym (running_since office names at).told_is ∙ (looks.quiet.told_same ∙ at.told_is))

    pub loaded_since : (name : List ℕ) (base : Option ℕ) (older : Option Rows) → IsBaseLoaded mid name base older
        → IsBaseLoaded old name base older
    loaded_since name base older loaded = λ office names at.
        subst (λ (all : Files). ShowsBase (IsListed (index_of (slots old))) (contents_of all) office.hosts name base older)
        (same_files office names at)
        (subst (λ (p : Pool N S n). ShowsBase (IsListed (index_of (slots_of p.names))) (contents_of (running_since office names at).all)
        office.hosts name base older) looks.pool_same (loaded office names (running_since office names at)))

    pub refusal_since : {A : Type 0} (judged : Office → Judged A) (refusal : Refusal) → IsRefusal mid judged refusal
        → IsRefusal old judged refusal
    refusal_since judged (Broken rule) is = λ office names at. is office names (running_since office names at)
    refusal_since judged (Damaged file found) is = λ office names at. is office names (running_since office names at)
    refusal_since judged DiskFault is = tt
    refusal_since judged Memory is = tt
    refusal_since judged Halted is = is

  -- ---- a base

  module _ (old : StoreParts D N S d n) (name : List ℕ) where
    pub base_none : IsBaseLoaded old name None None
    base_none = λ office names at. record { tree = None; is = refl; rows = tt }

    pub base_loaded : (number : ℕ) (rows : Rows) → IsLoaded old name number rows → IsBaseLoaded old name (Some number) (Some rows)
    base_loaded number rows loaded = λ office names at.
        let shows = loaded office names at in
        record { tree = Some shows.backup.tree; is = rw shows.is refl; rows = (shows.tree, shows.whole, shows.told) }

    base_rule : (number : ℕ) (rule : BrokenRule) (hosts : List Host) → backup_of hosts name number ≡ Err rule
        → base_of hosts name (Some number) ≡ Err rule
    base_rule number rule hosts e = rw e refl

    pub base_refusal : (number : ℕ) (refusal : Refusal) → IsRefusal old (λ office. backup_of office.hosts name number) refusal
        → IsRefusal old (λ office. base_of office.hosts name (Some number)) refusal
    base_refusal number (Broken rule) is = λ office names at. base_rule number rule office.hosts (is office names at)
    base_refusal number (Damaged file found) is = is
    base_refusal number DiskFault is = tt
    base_refusal number Memory is = tt
    base_refusal number Halted is = is

    pub base_damaged : (number : ℕ) (refusal : Refusal) → IsBackupFault old name number refusal → IsBaseFault old name (Some number) refusal
    base_damaged number (Damaged file found) fault = fault
    base_damaged number (Broken rule) fault = tt
    base_damaged number DiskFault fault = tt
    base_damaged number Memory fault = tt
    base_damaged number Halted fault = tt

    -- ---- an opening that a read refuses

    module _ (number : ℕ) (base : Option ℕ) where
      first_rule : (rule : BrokenRule) (office : Office) → backup_of office.hosts name number ≡ Err rule
          → OpenReadEvent.carried name number base office ≡ Err rule
      first_rule rule office e = rw e refl

      pub refused_first : (refusal : Refusal) → IsRefusal old (λ office. backup_of office.hosts name number) refusal
          → IsRefusal old (λ office. OpenReadEvent.carried name number base office) refusal
      refused_first (Broken rule) is = λ office names at. first_rule rule office (is office names at)
      refused_first (Damaged file found) is = is
      refused_first DiskFault is = tt
      refused_first Memory is = tt
      refused_first Halted is = is

      pub refused_second : (rows : Rows) → IsLoaded old name number rows → (refusal : Refusal)
          → IsRefusal old (λ office. base_of office.hosts name base) refusal
          → IsRefusal old (λ office. OpenReadEvent.carried name number base office) refusal
      refused_second rows loaded (Broken rule) is = λ office names at. rw (loaded office names at).is (rw (is office names at) refl)
      refused_second rows loaded (Damaged file found) is = is
      refused_second rows loaded DiskFault is = tt
      refused_second rows loaded Memory is = tt
      refused_second rows loaded Halted is = is

      -- a damaged file is a table that one of the two calls for
      module _ (reads : Rows → Type 0) (says : Rows → Reply → Type 0) where
        abbrev pub damaged : FileId → Option (List ℕ) → Type 0
        damaged file found = HasDamagedTable old name number file found ⊎ HasDamagedBase old name base file found

        pub first_reply : (refusal : Refusal) → IsBackupFault old name number refusal → IsReadReply reads damaged says (Err refusal)
        first_reply (Damaged file found) fault = inl (inl fault)
        first_reply (Broken rule) fault = tt
        first_reply DiskFault fault = tt
        first_reply Memory fault = tt
        first_reply Halted fault = tt

        pub second_reply : (refusal : Refusal) → IsBaseFault old name base refusal → IsReadReply reads damaged says (Err refusal)
        second_reply (Damaged file found) fault = inl (inr fault)
        second_reply (Broken rule) fault = tt
        second_reply DiskFault fault = tt
        second_reply Memory fault = tt
        second_reply Halted fault = tt
