-- A dump of a host's partial.
--     IsPartialOf given contents partial file      a host's partial is what was read
--     ResumesWith parts place file      so it is of this host, in each office that the parts are at work with
--     TellsPartial told place file      the host's file holds it
--     ResumesDump old name reply new      an answer opened a dump of what the host's file holds; a damaged file is that one
use Rattle.std.specs.Prelude.{⊤, ◌≡◌, ℕ, List, Option, Some, None, Ok, Err, slice_get}
use Rattle.disk_trait.specs.declared.ids.PoolId.{PoolId}
use Rattle.disk_trait.specs.declared.ids.FileId.{FileId}
use Rattle.disk_trait.specs.declared.ids.FileId.TheVariants.{Partial as PartialOf}
use Rattle.disk_trait.specs.declared.disk.Disk.{Ghosts as DiskGhosts}
use Rattle.disk_trait.specs.Files.{Files}
use Rattle.pool_name.specs.declared.namer.Namer.{Ghosts as NamerGhosts}
use Rattle.journal_view.specs.View.{told}
use Rattle.partial_files.specs.declared.partial.PartialFile.{PartialFile}
use Rattle.host_partials.specs.Held.{HasPartial}
use Rattle.stored_trees.specs.Resolved.{resolved}
use Rattle.open_sessions.specs.Opened.{AreRowsOf}
use Rattle.office_model.specs.declared.answer.Answer.TheVariants.{Dump as DumpAnswer}
use Rattle.office_model.specs.declared.refusal.Refusal.TheVariants as R
use Rattle.receipts.specs.declared.session.SessionName.{SessionName}
use Rattle.office_model.specs.Meaning.{Reply}
use Rattle.office_model.specs.Office.{Office, Host, Partial, Names}
use Rattle.office_files.specs.Pooled.{contents_of}
use Rattle.store_parts.specs.declared.parts.StoreParts.{StoreParts}
use Rattle.store_parts.specs.Held.{given}
use Rattle.store_parts.specs.Parked.{IsNoPartial}
use Rattle.store_parts.specs.States.{slots, IsRunning}
use Rattle.store_dumps.specs.Opening.{IsHostPlaced, IsOpened}

-- of this kind and this start, and its tree that of these whole rows, which name given ids
pub record IsPartialOf (given : PoolId → Type 0) (contents : PoolId → List ℕ) (partial : Option Partial) (file : PartialFile) : Type 0 where
  pub is : partial ≡ Some (record { kind = file.kind; start = file.start; tree = resolved contents file.rows })
  pub rows_of : AreRowsOf given contents file.rows

-- whatever the files hold
abbrev pub TellsPartial : Option Files → ℕ → PartialFile → Type 0
TellsPartial told place file = (all : Files) → told ≡ Some all → HasPartial place (Some file) (all (PartialOf place))

module _ {D N S : Type 0} {d : DiskGhosts D} {n : NamerGhosts N S} where
  abbrev pub ResumesWith : StoreParts D N S d n → ℕ → PartialFile → Type 0
  ResumesWith parts place file =
      (office : Office) (names : Names) (at : IsRunning parts office names) (host : Host) → slice_get office.hosts place ≡ Some host
      → IsPartialOf (given (slots parts)) (contents_of at.all) host.partial file

  -- a dump of the kind and the start that the host's file has, whose base and tree are its rows; it has no token
  pub record ResumesTold (old : StoreParts D N S d n) (name : List ℕ) (session : SessionName) (new : StoreParts D N S d n) : Type 0 where
    pub host : IsHostPlaced old.catalog name
    pub file : PartialFile
    pub tells : TellsPartial (told old.journal) host.place file
    pub opened : IsOpened old.sessions old.catalog.epoch host.place file.kind file.start None file.rows session new.sessions

  -- the host's file is absent or holds no partial of it, and was found so
  pub record HasPartialDamaged (old : StoreParts D N S d n) (name : List ℕ) (file : FileId) (found : Option (List ℕ)) : Type 0 where
    pub host : IsHostPlaced old.catalog name
    pub damaged : IsNoPartial (told old.journal) host.place file found

  abbrev pub ResumesDump : StoreParts D N S d n → List ℕ → Reply → StoreParts D N S d n → Type 0
  ResumesDump old name (Ok answer) new = (session : SessionName) × (answer ≡ DumpAnswer session) × ResumesTold old name session new
  ResumesDump old name (Err (R.Damaged file found)) new = HasPartialDamaged old name file found
  ResumesDump old name (Err refusal) new = ⊤
