-- What a park or a drop of a partial answers for the file of the partial that it calls for, over whatever the disk tells.
--     AreThere told Calls      the file of each host that is called for has a partial of it, in its grammar
--     Heeds told Calls reply      after Ok they are there
--     IsHeededBy told Calls refusal      one that isn't there is named, with what was found of it
--     IsKnown head host, IsKnownOf parts session      a partial of the host is known; of the host of an open dump
--     IsKnownFor parts name, IsKnownNamed parts name      of the host of the open dump of a name; of the host of a name
--     HeedsPartial old Calls reply new      what an event answers for it; if it is damaged, nothing was done
use Rattle.std.specs.Prelude.{⊤, ◌≡◌, ◌<◌, ℕ, true, List, length, Option, Some, Result, Ok, Err, is_some, slice_get}
use Rattle.disk_trait.specs.declared.ids.FileId.{FileId}
use Rattle.disk_trait.specs.declared.ids.FileId.TheVariants.{Partial as PartialOf}
use Rattle.disk_trait.specs.declared.disk.Disk.{Ghosts as DiskGhosts}
use Rattle.disk_trait.specs.Files.{Files}
use Rattle.pool_name.specs.declared.namer.Namer.{Ghosts as NamerGhosts}
use Rattle.journal_view.specs.View.{told, Quiet}
use Rattle.partial_files.specs.declared.partial.PartialFile.{PartialFile}
use Rattle.host_partials.specs.declared.held.PartialHead.{PartialHead}
use Rattle.host_partials.specs.Held.{HasPartial, head_at}
use Rattle.office_catalog.specs.Known.{host_named, names_of}
use Rattle.open_sessions.specs.declared.sessions.OpenDump.{OpenDump}
use Rattle.receipts.specs.declared.session.SessionName.{SessionName}
use Rattle.office_model.specs.declared.refusal.Refusal.{Refusal}
use Rattle.office_model.specs.declared.refusal.Refusal.TheVariants as R
use Rattle.office_model.specs.Meaning.{Reply}
use Rattle.store_parts.specs.declared.parts.StoreParts.{StoreParts}
use Rattle.store_parts.specs.FoundLaws.{dump_place}
use Rattle.store_parts.specs.Parked.{IsNoPartial}

abbrev pub AreThere : Option Files → (ℕ → Type 0) → Type 0
AreThere told Calls = (all : Files) (host : ℕ) → told ≡ Some all → Calls host
    → (partial : PartialFile) × HasPartial host (Some partial) (all (PartialOf host))

-- what was found of the file of a host that is called for
pub record IsNamed (told : Option Files) (Calls : ℕ → Type 0) (file : FileId) (found : Option (List ℕ)) : Type 0 where
  pub host : ℕ
  pub calls : Calls host
  pub none : IsNoPartial told host file found

-- a rule is only broken if they are there, or none is called for
abbrev pub IsHeededBy : Option Files → (ℕ → Type 0) → Refusal → Type 0
IsHeededBy told Calls (R.Broken rule) = AreThere told Calls
IsHeededBy told Calls (R.Damaged file found) = IsNamed told Calls file found
IsHeededBy told Calls R.DiskFault = ⊤
IsHeededBy told Calls R.Memory = ⊤
IsHeededBy told Calls R.Halted = ⊥

abbrev pub Heeds : {T : Type 0} → Option Files → (ℕ → Type 0) → Result T Refusal → Type 0
Heeds told Calls (Ok done) = AreThere told Calls
Heeds told Calls (Err refusal) = IsHeededBy told Calls refusal

-- ---- which files are called for

-- that of this host, if a partial of it is known
abbrev pub IsKnown : Option PartialHead → ℕ → ℕ → Type 0
IsKnown head host asked = (asked ≡ host) × (is_some head ≡ true)

module _ {D N S : Type 0} {d : DiskGhosts D} {n : NamerGhosts N S} where
  -- that of an open dump's host, which is there
  pub record IsKnownOf (parts : StoreParts D N S d n) (session : OpenDump) (asked : ℕ) : Type 0 where
    pub here : session.host < length parts.catalog.hosts
    pub known : IsKnown (head_at parts.partials session.host) session.host asked

  -- of the open dump of a name
  pub record IsKnownFor (parts : StoreParts D N S d n) (name : SessionName) (asked : ℕ) : Type 0 where
    pub place : ℕ
    pub session : OpenDump
    pub found : Some place ≡ dump_place parts name
    pub there : slice_get parts.sessions.dumps.items place ≡ Some session
    pub calls : IsKnownOf parts session asked

  -- that of the host of a name
  pub record IsKnownNamed (parts : StoreParts D N S d n) (name : List ℕ) (asked : ℕ) : Type 0 where
    pub place : ℕ
    pub named : Some place ≡ host_named (names_of parts.catalog.hosts) name
    pub known : IsKnown (head_at parts.partials place) place asked

  pub record HeedsPartial (old : StoreParts D N S d n) (Calls : ℕ → Type 0) (reply : Reply) (new : StoreParts D N S d n) : Type 0 where
    pub partial : Heeds (told old.journal) Calls reply
    pub undone : (file : FileId) (found : Option (List ℕ)) → reply ≡ Err (R.Damaged file found)
        → Quiet old.journal new.journal × (new ≡ record old { journal = new.journal })
