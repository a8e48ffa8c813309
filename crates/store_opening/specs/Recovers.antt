-- What an opening finds in the files that a journal tells.
--     Holds      files that stand for one of two offices, all of them durable
--     IsHeld      what is durable of an office, the counts of its hosts and what is known of their partials
--     Recovers      one of the two was found
--     IsWithoutCounts, IsWithoutPartial      a file of a host's counts that holds none, or that of its partial
--     IsForeign      a file that doesn't belong to a store;  IsForeignTo      or Intent, at an opening
use Rattle.std.specs.Prelude.{◌≡◌, ◌⊎◌, ℕ, List, length, Option, option_map, Some}
use Rattle.disk_trait.specs.declared.ids.FileId.{FileId}
use Rattle.disk_trait.specs.declared.ids.FileId.TheVariants.{Intent}
use Rattle.disk_trait.specs.declared.disk.Disk.{Ghosts as DiskGhosts}
use Rattle.disk_trait.specs.Files.{Files}
use Rattle.disk_trait.specs.Images.{IsWithin}
use Rattle.pool_name.specs.declared.namer.Namer.{Ghosts as NamerGhosts}
use Rattle.intent_journal.specs.declared.journal.Journal.{Journal}
use Rattle.intent_journal.specs.Overlay.{intent_alone, IsForeign as IsForeignIntent}
use Rattle.journal_view.specs.Found.{seen}
use Rattle.journal_view.specs.View.{told, uncertain, FindsOnly}
use Rattle.pool_changes.specs.Kept.{slots_of}
use Rattle.pool_store.specs.declared.pool.Pool.{Pool}
use Rattle.pool_store.specs.Opening.{AreFresh}
use Rattle.pool_store.specs.Opened.{IsForeign as IsForeignToPool}
use Rattle.ref_counts.specs.Numbers.{Items}
use Rattle.office_catalog.specs.Known.{Known}
use Rattle.office_catalog.specs.Held.{HoldsCatalog, IsForeign as IsForeignToCatalog}
use Rattle.host_counts.specs.Held.{IsForeign as IsForeignToCounts}
use Rattle.host_partials.specs.declared.held.PartialHead.{PartialHead}
use Rattle.host_partials.specs.Held.{IsForeign as IsForeignToPartials}
use Rattle.office_model.specs.Office.{Durable, Names}
use Rattle.office_model.specs.Step.{IsPicked}
use Rattle.store_parts.specs.Held.{AreCountsOf, heads_of, IsEither, IsStored, MayBe}
use Rattle.store_opening.specs.declared.found.Found.{Found}
use Rattle.store_opening.specs.declared.fault.OpenRefusal.{OpenRefusal}
use Rattle.store_opening.specs.declared.fault.OpenRefusal.TheVariants.{Foreign}
use Rattle.store_opening.specs.KeptTables.{AreOldIn}
use Rattle.store_opening.specs.Strays.{IsStray}
use Rattle.store_opening.specs.Unlisted.{IsUnlisting}
use Rattle.store_opening.specs.Tables.{IsMissingTable}

-- the file of the counts of a host that Head names, of which this was found, holds none
pub record IsWithoutCounts (files : Files) (file : FileId) (found : Option (List ℕ)) : Type 0 where
  pub known : Known
  pub holds : HoldsCatalog files known
  pub foreign : IsForeignToCounts (Some files) (length known.hosts) file found

-- the file of the partial of a host that Head names, of which this was found, is there and holds none of that host
pub record IsWithoutPartial (files : Files) (file : FileId) (found : Option (List ℕ)) : Type 0 where
  pub known : Known
  pub holds : HoldsCatalog files known
  pub bytes : List ℕ
  pub there : found ≡ Some bytes
  pub foreign : IsForeignToPartials (Some files) (length known.hosts) file bytes

-- the file is that of a host's counts, or of its partial, and holds none
abbrev pub IsForeignToHosts : Files → FileId → Option (List ℕ) → Type 0
IsForeignToHosts files file found = IsWithoutCounts files file found ⊎ IsWithoutPartial files file found

-- the file doesn't belong to the pool, to the catalog, to the counts and partials of hosts, or to any; or it doesn't list what the counts
-- have, or is a table that is missing
abbrev pub IsForeign : (told : Option Files) → FileId → Option (List ℕ) → Type 0
IsForeign told file found =
    IsForeignToPool told file found
    ⊎ (IsForeignToCatalog told file found
    ⊎ (((all : Files) → told ≡ Some all → IsForeignToHosts all file found)
    ⊎ (((all : Files) → told ≡ Some all → IsStray all file found)
    ⊎ (((all : Files) → told ≡ Some all → IsUnlisting all file found)
    ⊎ ((all : Files) → told ≡ Some all → IsMissingTable all file found)))))

-- what a refusal says of the files
abbrev pub SaysForeign : (told : Option Files) → OpenRefusal → Type 0
SaysForeign told refusal = (file : FileId) (found : Option (List ℕ)) → refusal ≡ Foreign file found → IsForeign told file found

-- of a disk whose files were these, and are those that are told now
abbrev pub IsForeignTo : (before now : Option Files) → FileId → Option (List ℕ) → Type 0
IsForeignTo before now file found = ((file ≡ Intent) × IsForeignIntent before found) ⊎ IsForeign (option_map seen now) file found

abbrev pub SaysWhy : (before now : Option Files) → OpenRefusal → Type 0
SaysWhy before now refusal =
    (file : FileId) (found : Option (List ℕ)) → refusal ≡ Foreign file found → IsForeignTo before now file found

module _ {D : Type 0} {d : DiskGhosts D} where
  -- the journal tells files that stand for one of two offices, and all of them are durable
  pub record Holds (digest_of : List ℕ → List ℕ) (journal : Journal D d) (a b : Durable) : Type 0 where
    pub all : Files
    pub told_is : told journal ≡ Some all
    pub either : IsEither digest_of a b all
    pub certain : IsWithin (uncertain journal) intent_alone

  -- a crash now leaves one of two offices, and so did one meanwhile
  pub record Looks (digest_of : List ℕ → List ℕ) (old new : Journal D d) (a b : Durable) : Type 0 where
    pub now : MayBe digest_of new a b
    pub crash : FindsOnly old new (IsEither digest_of a b)

module _ {D N S : Type 0} {d : DiskGhosts D} {n : NamerGhosts N S} where
  -- what is durable, how often what is stored of its hosts names each content, and what is known of their partials
  pub record IsHeld (journal : Journal D d) (pool : Pool N S n) (catalog : Known) (counts : List Items)
      (partials : List (Option PartialHead)) (office : Durable) (names : Names) : Type 0 where
    pub stored : IsStored journal pool catalog office names
    pub counted : AreCountsOf counts stored.shown
    pub parked : partials ≡ heads_of office.hosts

  -- one of the two offices was found, and the hosts that have tables of the first layout; nothing is staged or claimed
  pub record Recovers (journal : Journal D d) (found : Found N S n) (a b : Durable) : Type 0 where
    pub office : Durable
    pub is_one : IsPicked a b office
    pub names : Names
    pub held : IsHeld journal found.pool found.catalog found.counts found.partials office names
    pub open held use *
    pub older : AreOldIn (told journal) names.old_hosts
    pub fresh : AreFresh (slots_of found.pool.names)
