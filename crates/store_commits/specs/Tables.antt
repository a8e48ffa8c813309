-- What a commit answers for the table and the partial that it calls for, over whatever the disk tells.
--     AreThere told Calls Parks      each file that is called for has a table, and each host's that is called for a partial of it, in their grammar
--     Heeds told Calls Parks reply      after Ok they are there
--     IsHeededBy told Calls Parks refusal      one that isn't there is named, with what was found of it
--     IsTableFor Takes parts session file      the table that the commit of an open dump calls for, if its host's next number goes with it
--     IsParkedFor Takes parts session host      the host whose partial it calls for
--     again_of      what the commit of a dump that isn't open answers, by its receipt
--     HeedsEnding Takes old name reply new      what it answers for these; if one is damaged, or the dump isn't open, nothing was done
--     HeedsTables old name reply new      of a commit, which takes the host's next number
--     HeedsAdopted number old name reply new      of one with a number of its own
use Rattle.std.specs.Prelude.{⊤, ◌≡◌, ◌⊎◌, ◌<◌, ℕ, List, Option, Some, None, Result, Ok, Err, slice_get}
use Rattle.std.specs.List.{position_from}
use Rattle.disk_trait.specs.declared.ids.FileId.{FileId}
use Rattle.disk_trait.specs.declared.ids.FileId.TheVariants.{Table as TableFile, Partial as PartialOf}
use Rattle.disk_trait.specs.declared.disk.Disk.{Ghosts as DiskGhosts}
use Rattle.disk_trait.specs.Files.{Files}
use Rattle.pool_name.specs.declared.namer.Namer.{Ghosts as NamerGhosts}
use Rattle.journal_view.specs.View.{told, Quiet}
use Rattle.backup_rules.specs.declared.lines.Line.{Line}
use Rattle.backup_index.specs.Index.{Index}
use Rattle.backup_views.specs.Stored.{IsTableFile}
use Rattle.backup_views.specs.Faults.{IsNoTable}
use Rattle.merge_view.specs.Views.{Rows}
use Rattle.partial_files.specs.declared.partial.PartialFile.{PartialFile}
use Rattle.host_partials.specs.declared.held.PartialHead.{PartialHead}
use Rattle.host_partials.specs.Held.{HasPartial, head_at}
use Rattle.open_sessions.specs.declared.sessions.OpenDump.{OpenDump}
use Rattle.receipts.specs.declared.session.SessionName.{SessionName}
use Rattle.receipts.specs.Session.{is_same_session}
use Rattle.receipts.specs.declared.receipt.Receipt.{Receipt}
use Rattle.office_catalog.specs.Known.{receipt_named}
use Rattle.office_model.specs.declared.answer.Answer.TheVariants.{Committed}
use Rattle.office_model.specs.declared.refusal.BrokenRule.TheVariants.{NoSession}
use Rattle.office_model.specs.declared.refusal.Refusal.{Refusal}
use Rattle.office_model.specs.declared.refusal.Refusal.TheVariants as R
use Rattle.office_model.specs.Meaning.{Reply}
use Rattle.store_parts.specs.declared.parts.StoreParts.{StoreParts}
use Rattle.store_parts.specs.Parked.{IsNoPartial}
use Rattle.store_commits.specs.Former.{dropped_of}
use Rattle.store_commits.specs.Judged.{IsFree}

pub record AreThere (told : Option Files) (Calls : FileId → Type 0) (Parks : ℕ → Type 0) : Type 0 where
  pub tables : (all : Files) (file : FileId) → told ≡ Some all → Calls file → (rows : Rows) × IsTableFile rows (all file)
  pub partial : (all : Files) (host : ℕ) → told ≡ Some all → Parks host
      → (file : PartialFile) × HasPartial host (Some file) (all (PartialOf host))

-- what was found of a file that is called for is no table, or no partial of its host
abbrev pub IsLost : Option Files → (FileId → Type 0) → (ℕ → Type 0) → FileId → Option (List ℕ) → Type 0
IsLost told Calls Parks file found = (Calls file × IsNoTable told file found) ⊎ ((host : ℕ) × Parks host × IsNoPartial told host file found)

-- a rule is only broken if they are there, or none is called for
abbrev pub IsHeededBy : Option Files → (FileId → Type 0) → (ℕ → Type 0) → Refusal → Type 0
IsHeededBy told Calls Parks (R.Broken rule) = AreThere told Calls Parks
IsHeededBy told Calls Parks (R.Damaged file found) = IsLost told Calls Parks file found
IsHeededBy told Calls Parks R.DiskFault = ⊤
IsHeededBy told Calls Parks R.Memory = ⊤
IsHeededBy told Calls Parks R.Halted = ⊥

abbrev pub Heeds : {T : Type 0} → Option Files → (FileId → Type 0) → (ℕ → Type 0) → Result T Refusal → Type 0
Heeds told Calls Parks (Ok done) = AreThere told Calls Parks
Heeds told Calls Parks (Err refusal) = IsHeededBy told Calls Parks refusal

-- the table of a backup's line that is dropped
abbrev pub IsTableOf : ℕ → Option Line → FileId → Type 0
IsTableOf host None file = ⊥
IsTableOf host (Some line) file = file ≡ TableFile host line.number

-- the host of this number, of which a partial is known
abbrev pub IsKnownOf : ℕ → Option PartialHead → ℕ → Type 0
IsKnownOf number None host = ⊥
IsKnownOf number (Some head) host = host ≡ number

-- where the open dump of a name is in memory
abbrev pub place_of : List OpenDump → SessionName → Option ℕ
place_of dumps name = position_from (λ dump. is_same_session dump.name name) 0 dumps

-- the number again, if there is a receipt
abbrev pub again_of : Option Receipt → Reply
again_of None = Err (R.Broken NoSession)
again_of (Some receipt) = Ok (Committed receipt.number)

-- the host has a number left
abbrev pub IsLeft : ℕ → Type 0
IsLeft next = next < 4294967296

module _ {D N S : Type 0} {d : DiskGhosts D} {n : NamerGhosts N S} where
  -- that of its host's newest backup, if it doesn't stay filled, and the host's next number goes with the commit
  pub record IsTableFor (Takes : ℕ → Type 0) (parts : StoreParts D N S d n) (session : OpenDump) (file : FileId) : Type 0 where
    pub index : Index
    pub here : slice_get parts.catalog.hosts session.host ≡ Some index
    pub takes : Takes index.next
    pub is : IsTableOf session.host (dropped_of index.rules index.lines) file

  -- its host, if a partial of it is known, and its next number goes with the commit
  pub record IsParkedFor (Takes : ℕ → Type 0) (parts : StoreParts D N S d n) (session : OpenDump) (host : ℕ) : Type 0 where
    pub index : Index
    pub here : slice_get parts.catalog.hosts session.host ≡ Some index
    pub takes : Takes index.next
    pub is : IsKnownOf session.host (head_at parts.partials session.host) host

  -- of the open dump of a name
  pub record IsTableForName (Takes : ℕ → Type 0) (parts : StoreParts D N S d n) (name : SessionName) (file : FileId) : Type 0 where
    pub place : ℕ
    pub session : OpenDump
    pub found : Some place ≡ place_of parts.sessions.dumps.items name
    pub there : slice_get parts.sessions.dumps.items place ≡ Some session
    pub calls : IsTableFor Takes parts session file

  pub record IsParkedForName (Takes : ℕ → Type 0) (parts : StoreParts D N S d n) (name : SessionName) (host : ℕ) : Type 0 where
    pub place : ℕ
    pub session : OpenDump
    pub found : Some place ≡ place_of parts.sessions.dumps.items name
    pub there : slice_get parts.sessions.dumps.items place ≡ Some session
    pub calls : IsParkedFor Takes parts session host

  pub record HeedsEnding (Takes : ℕ → Type 0) (old : StoreParts D N S d n) (name : SessionName) (reply : Reply)
      (new : StoreParts D N S d n) : Type 0 where
    pub tables : Heeds (told old.journal) (IsTableForName Takes old name) (IsParkedForName Takes old name) reply
    pub undone : (file : FileId) (found : Option (List ℕ)) → reply ≡ Err (R.Damaged file found)
        → Quiet old.journal new.journal × (new ≡ record old { journal = new.journal })
    pub again : None ≡ place_of old.sessions.dumps.items name
        → (reply ≡ again_of (receipt_named old.catalog.hosts name)) × (new ≡ old)

  abbrev pub HeedsTables : StoreParts D N S d n → SessionName → Reply → StoreParts D N S d n → Type 0
  HeedsTables old name reply new = HeedsEnding IsLeft old name reply new

  abbrev pub HeedsAdopted : ℕ → StoreParts D N S d n → SessionName → Reply → StoreParts D N S d n → Type 0
  HeedsAdopted number old name reply new = HeedsEnding (λ next. IsFree next number) old name reply new
