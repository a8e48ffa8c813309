-- What becomes of the former newest backup.
--     dropped_of rules lines      its line, if the rules don't keep it filled
--     IsFolded told host dropped rows folding      its rows, and the entries that are stored in their place
--     IsFoldFault told file refusal      why its table wasn't read
use Rattle.std.specs.Prelude.{⊤, ◌≡◌, ℕ, ◌-◌, List, length, Option, Some, None, slice_get, if◌then◌else◌}
use Rattle.disk_trait.specs.declared.ids.FileId.{FileId}
use Rattle.disk_trait.specs.declared.ids.FileId.TheVariants.{Table as TableFile}
use Rattle.disk_trait.specs.Files.{Files}
use Rattle.backup_rules.specs.declared.lines.Line.{Line}
use Rattle.backup_rules.specs.Fill.{stays_filled}
use Rattle.backup_rules.specs.Values.{RuleSet}
use Rattle.merge_view.specs.Views.{Rows, reverse}
use Rattle.backup_views.specs.Stored.{IsTableFile}
use Rattle.backup_views.specs.Faults.{IsNoTable}
use Rattle.office_model.specs.declared.refusal.Refusal.{Refusal}
use Rattle.office_model.specs.declared.refusal.Refusal.TheVariants as R
use Rattle.store_commits.specs.declared.former.Folding.{Folding}

abbrev pub last_line : List Line → Option Line
last_line lines = slice_get lines (length lines - 1)

abbrev pub if_dropped : RuleSet → Option Line → Option Line
if_dropped rules None = None
if_dropped rules (Some line) = if stays_filled rules line then None else Some line

abbrev pub dropped_of : RuleSet → List Line → Option Line
dropped_of rules lines = if_dropped rules (last_line lines)

-- its rows, which are its table's, whatever the files tell
pub record IsFoldedLine (told : Option Files) (host : ℕ) (line : Line) (rows : Rows) (folding : Folding) : Type 0 where
  pub number : folding.number ≡ line.number
  pub there : (all : Files) → told ≡ Some all → IsTableFile folding.rows (all (TableFile host line.number))
  pub entries : folding.entries ≡ reverse folding.rows rows
  pub only : (all : Files) (other : Rows) → told ≡ Some all → IsTableFile other (all (TableFile host line.number)) → other ≡ folding.rows

abbrev pub IsFolded : Option Files → ℕ → Option Line → Rows → Option Folding → Type 0
IsFolded told host None rows folding = folding ≡ None
IsFolded told host (Some line) rows None = ⊥
IsFolded told host (Some line) rows (Some folding) = IsFoldedLine told host line rows folding

-- Why a table wasn't read: the disk failed, memory was wanting, or its file has no table: what was found of it.
abbrev pub IsFoldFault : Option Files → FileId → Refusal → Type 0
IsFoldFault told file R.DiskFault = ⊤
IsFoldFault told file R.Memory = ⊤
IsFoldFault told file (R.Damaged other found) = (other ≡ file) × IsNoTable told other found
IsFoldFault told file refusal = ⊥

abbrev pub IsFoldFaultOf : Option Files → ℕ → Option Line → Refusal → Type 0
IsFoldFaultOf told host None refusal = ⊥
IsFoldFaultOf told host (Some line) refusal = IsFoldFault told (TableFile host line.number) refusal
