-- What a commit is planned to do, as the parts of a store tell it.
--     unparked      how often the backups' tables name a content, by how often all that is stored does
--     counted_of      how often the tables name it then
--     AreCounted      the host's counts then, by those in memory
--     IsBuilt, IsPlanned      the plan of a commit of an open dump
--     IsReadFault, IsGatherFault, IsPlanFault      why it was refused
use Rattle.std.specs.Prelude.{◌≡◌, ◌⊎◌, ℕ, ◌+◌, ◌-◌, ◌<◌, List, [], ◌∷◌, length, Option, Some, None, is_some, not, slice_get}
use Rattle.disk_trait.specs.declared.ids.PoolId.{PoolId}
use Rattle.disk_trait.specs.declared.ids.FileId.TheVariants.{Host as HostFile, Table as TableFile, Partial as PartialOf}
use Rattle.disk_trait.specs.declared.disk.Disk.{Ghosts as DiskGhosts}
use Rattle.disk_trait.specs.Files.{Files}
use Rattle.pool_name.specs.declared.namer.Namer.{Ghosts as NamerGhosts}
use Rattle.intent_journal.specs.declared.changes.Change.{Change}
use Rattle.journal_view.specs.View.{told}
use Rattle.attr_tables.specs.declared.layouts.TableLayout.TheVariants.{Second}
use Rattle.attr_tables.specs.Layout.{IsTable}
use Rattle.attr_tables.specs.Tables.{table_file}
use Rattle.backup_rules.specs.declared.lines.Line.{Line}
use Rattle.backup_index.specs.Index.{Index}
use Rattle.backup_views.specs.Stored.{IsTableFile}
use Rattle.merge_view.specs.Views.{Rows}
use Rattle.office_model.specs.declared.refusal.Refusal.{Refusal}
use Rattle.office_model.specs.declared.refusal.Refusal.TheVariants.{DiskFault, Memory}
use Rattle.partial_files.specs.declared.partial.PartialFile.{PartialFile}
use Rattle.host_partials.specs.declared.held.PartialHead.{PartialHead}
use Rattle.host_partials.specs.Held.{HasPartial, head_at}
use Rattle.stored_trees.specs.Occurrences.{occurrences}
use Rattle.ref_counts.specs.Numbers.{Items, number, capped}
use Rattle.ref_counts.specs.Layout.{IsCounts}
use Rattle.ref_counts.specs.CountsFile.{counts_file}
use Rattle.pool_changes.specs.Listed.{index_of}
use Rattle.pool_changes.specs.Indexed.{after as relisted_after, IsOf}
use Rattle.pool_changes.specs.Written.{LeadsIndex}
use Rattle.office_catalog.specs.Known.{with_change, with_line}
use Rattle.office_catalog.specs.Changed.{after, IsFor, Leads}
use Rattle.open_sessions.specs.declared.sessions.OpenDump.{OpenDump}
use Rattle.store_parts.specs.declared.parts.StoreParts.{StoreParts}
use Rattle.store_parts.specs.Parked.{IsParkedFault}
use Rattle.store_parts.specs.States.{slots}
use Rattle.store_commits.specs.declared.files.Former.{Former}
use Rattle.store_commits.specs.declared.files.HostFiles.{HostFiles}
use Rattle.store_commits.specs.declared.former.Folding.{Folding}
use Rattle.store_commits.specs.declared.judge.Lines.{Lines}
use Rattle.store_commits.specs.declared.plan.Plan.{Plan}
use Rattle.store_commits.specs.Judged.{IsJudged}
use Rattle.store_commits.specs.Ids.{given_in}
use Rattle.store_commits.specs.Written.{written}
use Rattle.store_commits.specs.Former.{dropped_of, IsFolded, IsFoldFaultOf}
use Rattle.store_commits.specs.Parked.{AreParked}

-- without the rows of the partial
abbrev pub unparked : ℕ → Option Rows → PoolId → ℕ
unparked n None id = n
unparked n (Some rows) id = n - capped (occurrences id rows)

-- by the number before
abbrev pub counted_of : ℕ → Option Folding → Rows → PoolId → ℕ
counted_of n None rows id = capped (n + capped (occurrences id rows))
counted_of n (Some folding) rows id =
    capped (capped ((n - capped (occurrences id folding.rows)) + capped (occurrences id folding.entries)) + capped (occurrences id rows))

-- the counts after it, by those before it
abbrev pub IsCountedBy : Items → Option Rows → Option Folding → Rows → Items → Type 0
IsCountedBy olds parked folding rows items =
    (id : PoolId) → number items id ≡ counted_of (unparked (number olds id) parked id) folding rows id

-- of a host, by those in memory
abbrev pub AreCounted : List Items → ℕ → Option Rows → Option Folding → Rows → Items → Type 0
AreCounted counts place parked folding rows items =
    (olds : Items) → slice_get counts place ≡ Some olds → IsCountedBy olds parked folding rows items

-- the former newest's new table
abbrev pub IsFormerFile : Option Folding → Option Former → Type 0
IsFormerFile None former = former ≡ None
IsFormerFile (Some folding) former = IsTable Second folding.entries
    × (former ≡ Some (record { number = folding.number; table = table_file Second folding.entries }))

-- why the former newest's table or the partial wasn't read
abbrev pub IsReadFault : Option Files → ℕ → Option PartialHead → Option Line → Refusal → Type 0
IsReadFault told host head dropped refusal = IsFoldFaultOf told host dropped refusal ⊎ IsParkedFault told head host refusal

-- What a fault of reading comes to: if the host's counts are in memory, and the files tell a table for the former newest, and the
-- partial that is known, it is one of the disk, or want of memory.
pub record IsTold (all : Files) (counts : List Items) (place host : ℕ) (head : Option PartialHead) (dropped : Option Line) : Type 0 where
  pub items : Items
  pub has : slice_get counts place ≡ Some items
  pub table : (line : Line) → dropped ≡ Some line → (rows : Rows) × IsTableFile rows (all (TableFile host line.number))
  pub parked : (known : PartialHead) → head ≡ Some known → (file : PartialFile) × HasPartial host (Some file) (all (PartialOf host))

abbrev pub IsGatherFault : Option Files → List Items → ℕ → ℕ → Option PartialHead → Option Line → Refusal → Type 0
IsGatherFault told counts place host head dropped refusal =
    (all : Files) → told ≡ Some all → IsTold all counts place host head dropped → (refusal ≡ DiskFault) ⊎ (refusal ≡ Memory)

module _ {D N S : Type 0} {d : DiskGhosts D} {n : NamerGhosts N S} where
  -- what is written, by what was judged and gathered
  pub record IsBuilt (parts : StoreParts D N S d n) (host : ℕ) (lines : Lines) (parked : Option Rows) (folding : Option Folding)
      (counts : Items) (rows : Rows) (plan : Plan) : Type 0 where
    pub number : plan.number ≡ lines.line.number
    pub host_is : plan.host ≡ host
    pub rows_are : plan.rows ≡ rows
    pub counts_are : plan.counts ≡ counts
    pub after_is : after plan.catalog parts.catalog
        ≡ with_change parts.catalog host (with_line lines.line (not (is_some lines.dropped)) lines.receipt)
    pub listed : List Change
    pub lists : Leads parts.catalog (with_change parts.catalog host (with_line lines.line (not (is_some lines.dropped)) lines.receipt))
        (HostFile host ∷ []) listed
    pub fits : IsFor parts.catalog plan.catalog
    pub pooled : List Change
    pub of_ids : IsOf plan.index (given_in (slots parts) rows) [] [] []
    pub leads : LeadsIndex parts.pool.in_one_file (index_of (slots parts)) (index_of (relisted_after plan.index (slots parts))) pooled
    pub files : HostFiles
    pub changes : plan.changes ≡ written pooled listed lines.file lines.line.number files
    pub table : IsTable Second rows × (files.table ≡ table_file Second rows)
    pub former : IsFormerFile folding files.former
    pub parked_is : files.parked ≡ is_some parked
    pub counted : IsCounts counts × (files.counts ≡ counts_file lines.file counts)

  -- the plan of a commit of an open dump as the backup of this line, by what is in memory and what the files tell
  pub record IsPlanned (parts : StoreParts D N S d n) (session : OpenDump) (line : Line) (plan : Plan) : Type 0 where
    pub lines : Lines
    pub judged : IsJudged parts.catalog.hosts session line lines
    pub folding : Option Folding
    pub parked : Option Rows
    pub counts : Items
    pub folded : IsFolded (told parts.journal) lines.file lines.dropped session.tree folding
    pub are_parked : AreParked (told parts.journal) (head_at parts.partials session.host) lines.file parked
    pub are_counted : AreCounted parts.counts session.host parked folding session.tree counts
    pub within : session.host < length parts.counts
    pub built : IsBuilt parts session.host lines parked folding counts session.tree plan

  -- What a refusal of a plan comes to: if the dump's host is there, and the files tell what is read, it is a fault of the disk, or
  -- want of memory.
  pub record IsReady (parts : StoreParts D N S d n) (session : OpenDump) (all : Files) : Type 0 where
    pub index : Index
    pub here : slice_get parts.catalog.hosts session.host ≡ Some index
    pub tells : IsTold all parts.counts session.host session.host (head_at parts.partials session.host) (dropped_of index.rules index.lines)

  abbrev pub IsPlanFault : StoreParts D N S d n → OpenDump → Refusal → Type 0
  IsPlanFault parts session refusal =
      (all : Files) → told parts.journal ≡ Some all → IsReady parts session all → (refusal ≡ DiskFault) ⊎ (refusal ≡ Memory)
