-- What a park of an open dump, or a drop of a partial, is planned to do.
--     dump_file session      what an open dump has so far, as a partial
--     number_then      how often what is counted of a host names a content, with other rows in the place of a partial's
--     IsRecounted told head host counts place rows items      the counts of a host with these rows parked, by those in memory
--     IsBytesFault rows refusal      why no file was made of rows
--     IsBuilt, IsPlanned      the plan of a park
--     IsDropBuilt, IsDropPlanned      that of a drop
--     IsGatherFault, IsPlanFault, IsDropFault      why it was refused
use Rattle.std.specs.Prelude.{⊤, ◌≡◌, ◌⊎◌, ℕ, ◌+◌, ◌-◌, ◌<◌, List, [], ◌++◌, length, Option, Some, None, slice_get}
use Rattle.disk_trait.specs.declared.ids.PoolId.{PoolId}
use Rattle.disk_trait.specs.declared.ids.FileId.TheVariants.{Partial as PartialOf}
use Rattle.disk_trait.specs.declared.disk.Disk.{Ghosts as DiskGhosts}
use Rattle.disk_trait.specs.Files.{Files}
use Rattle.pool_name.specs.declared.namer.Namer.{Ghosts as NamerGhosts}
use Rattle.intent_journal.specs.declared.changes.Change.{Change}
use Rattle.journal_view.specs.View.{told}
use Rattle.merge_view.specs.Views.{Rows}
use Rattle.stored_trees.specs.Occurrences.{occurrences}
use Rattle.partial_files.specs.declared.partial.PartialFile.{PartialFile}
use Rattle.partial_files.specs.Layout.{HasNoMark, IsPartial}
use Rattle.partial_files.specs.Partials.{partial_file}
use Rattle.pool_changes.specs.Listed.{index_of}
use Rattle.pool_changes.specs.Indexed.{after as relisted_after, IsOf}
use Rattle.pool_changes.specs.Written.{LeadsIndex}
use Rattle.ref_counts.specs.Numbers.{Items, number, capped}
use Rattle.ref_counts.specs.Layout.{IsCounts}
use Rattle.ref_counts.specs.CountsFile.{counts_file}
use Rattle.host_partials.specs.declared.held.PartialHead.{PartialHead}
use Rattle.host_partials.specs.Held.{HasPartial, head_at, head_of_file}
use Rattle.office_model.specs.declared.refusal.Refusal.{Refusal}
use Rattle.office_model.specs.declared.refusal.Refusal.TheVariants as R
use Rattle.open_sessions.specs.declared.sessions.OpenDump.{OpenDump}
use Rattle.store_parts.specs.declared.parts.StoreParts.{StoreParts}
use Rattle.store_parts.specs.States.{slots}
use Rattle.store_parts.specs.Parked.{IsParkedAs}
use Rattle.store_commits.specs.Ids.{given_in}
use Rattle.store_partials.specs.declared.plan.DropPlan.{DropPlan}
use Rattle.store_partials.specs.declared.plan.ParkPlan.{ParkPlan}
use Rattle.store_partials.specs.Written.{host_part}

-- its kind, its start and its tree
abbrev pub dump_file : OpenDump → PartialFile
dump_file session = record { kind = session.kind; start = session.start; rows = session.tree }

-- ---- counts

-- without those of a partial, if there is one
abbrev pub number_without : ℕ → Option PartialFile → PoolId → ℕ
number_without n None id = n
number_without n (Some partial) id = n - capped (occurrences id partial.rows)

-- with those of rows, if there are some
abbrev pub number_with : ℕ → Option Rows → PoolId → ℕ
number_with n None id = n
number_with n (Some rows) id = capped (n + capped (occurrences id rows))

abbrev pub number_then : ℕ → Option PartialFile → Option Rows → PoolId → ℕ
number_then n parked rows id = number_with (number_without n parked id) rows id

-- by the partial that was read
pub record IsRecounted (told : Option Files) (head : Option PartialHead) (host : ℕ) (counts : List Items) (place : ℕ) (rows : Option Rows)
    (items : Items) : Type 0 where
  pub parked : Option PartialFile
  pub is : (all : Files) → told ≡ Some all → IsParkedAs head host parked (all (PartialOf host))
  pub olds : Items
  pub has : slice_get counts place ≡ Some olds
  pub each : (id : PoolId) → number items id ≡ number_then (number olds id) parked rows id

-- ---- refusals

-- the file of a partial that is known is there
abbrev pub IsThere : Option PartialHead → ℕ → Option (List ℕ) → Type 0
IsThere None host found = ⊤
IsThere (Some head) host found = (partial : PartialFile) × HasPartial host (Some partial) found

-- What a fault of reading comes to: if the host's counts are in memory, and the partial that is known is there, it is one of the disk,
-- or want of memory.
pub record IsTold (all : Files) (head : Option PartialHead) (host : ℕ) (counts : List Items) (place : ℕ) : Type 0 where
  pub items : Items
  pub has : slice_get counts place ≡ Some items
  pub partial : IsThere head host (all (PartialOf host))

abbrev pub IsGatherFault : Option Files → Option PartialHead → ℕ → List Items → ℕ → Refusal → Type 0
IsGatherFault told head host counts place refusal =
    (all : Files) → told ≡ Some all → IsTold all head host counts place → (refusal ≡ R.DiskFault) ⊎ (refusal ≡ R.Memory)

-- a rule is only broken by a deletion mark
abbrev pub IsBytesFault : Rows → Refusal → Type 0
IsBytesFault rows (R.Broken rule) = HasNoMark rows → ⊥
IsBytesFault rows R.Memory = ⊤
IsBytesFault rows refusal = ⊥

-- ---- plans

-- a drop writes the host's counts without its partial, and no partial
pub record IsDropBuilt (host : ℕ) (counts : Items) (plan : DropPlan) : Type 0 where
  pub counts_are : plan.counts ≡ counts
  pub fits : IsCounts counts
  pub changes : plan.changes ≡ host_part host (counts_file host counts) None

module _ {D N S : Type 0} {d : DiskGhosts D} {n : NamerGhosts N S} where
  -- a park writes the pool's index with the contents of the rows that are live or staged, the host's counts and the partial's bytes
  pub record IsBuilt (parts : StoreParts D N S d n) (place host : ℕ) (partial : PartialFile) (bytes : List ℕ) (counts : Items)
      (plan : ParkPlan) : Type 0 where
    pub host_is : plan.host ≡ place
    pub head_is : plan.head ≡ head_of_file partial
    pub counts_are : plan.counts ≡ counts
    pub fits : IsCounts counts
    pub pooled : List Change
    pub of_ids : IsOf plan.index (given_in (slots parts) partial.rows) [] [] []
    pub leads : LeadsIndex parts.pool.in_one_file (index_of (slots parts)) (index_of (relisted_after plan.index (slots parts))) pooled
    pub changes : plan.changes ≡ pooled ++ host_part host (counts_file host counts) (Some bytes)

  -- the plan of a park of an open dump, by what is in memory and what the files tell
  pub record IsPlanned (parts : StoreParts D N S d n) (session : OpenDump) (plan : ParkPlan) : Type 0 where
    pub counts : Items
    pub recounted : IsRecounted (told parts.journal) (head_at parts.partials session.host) session.host parts.counts session.host
        (Some session.tree) counts
    pub within : session.host < length parts.counts
    pub held : session.host < length parts.partials
    pub fits : IsPartial (dump_file session)
    pub built : IsBuilt parts session.host session.host (dump_file session) (partial_file session.host (dump_file session)) counts plan

  -- that of a drop of a host's partial
  pub record IsDropPlanned (parts : StoreParts D N S d n) (host : ℕ) (plan : DropPlan) : Type 0 where
    pub counts : Items
    pub recounted : IsRecounted (told parts.journal) (head_at parts.partials host) host parts.counts host None counts
    pub within : host < length parts.counts
    pub built : IsDropBuilt host counts plan

  -- What a refusal of a plan comes to: if the dump's host is in memory, no row is a deletion mark, and the files tell what is read, it
  -- is a fault of the disk, or want of memory.
  pub record IsReady (parts : StoreParts D N S d n) (session : OpenDump) (all : Files) : Type 0 where
    pub here : session.host < length parts.catalog.hosts
    pub held : session.host < length parts.partials
    pub no_mark : HasNoMark session.tree
    pub tells : IsTold all (head_at parts.partials session.host) session.host parts.counts session.host

  abbrev pub IsPlanFault : StoreParts D N S d n → OpenDump → Refusal → Type 0
  IsPlanFault parts session refusal =
      (all : Files) → told parts.journal ≡ Some all → IsReady parts session all → (refusal ≡ R.DiskFault) ⊎ (refusal ≡ R.Memory)

  -- and of a plan of a drop
  abbrev pub IsDropFault : StoreParts D N S d n → ℕ → Refusal → Type 0
  IsDropFault parts host refusal = IsGatherFault (told parts.journal) (head_at parts.partials host) host parts.counts host refusal
