-- The one view that is kept: which backup it is of, and that its rows are those of the backup's tree.
use Rattle.std.specs.Prelude.{◌≡◌, ◌⊎◌, ℕ, List, [], Option, Some, None, slice_get}
use Rattle.disk_trait.specs.Files.{Files}
use Rattle.backup_rules.specs.declared.lines.Line.{Line}
use Rattle.merge_view.specs.Views.{Rows}
use Rattle.backup_views.specs.Stored.{TellsTree}
use Rattle.backup_views.specs.declared.kept.KeptView.{KeptView}
use Rattle.backup_views.specs.declared.kept.Views.{Views}

-- the tree of each backup by its host and number
abbrev pub Trees : Type 0
Trees = ℕ → ℕ → Rows

-- what is kept is the backup's tree
abbrev pub IsKept : Option KeptView → Trees → Type 0
IsKept None trees = Unit {0}
IsKept (Some kept) trees = kept.rows ≡ trees kept.host kept.number

-- the view of this backup is kept
pub record HasView (views : Views) (host number : ℕ) : Type 0 where
  pub kept : KeptView
  pub is : views.kept ≡ Some kept
  pub host_is : kept.host ≡ host
  pub number_is : kept.number ≡ number

-- the rows that are kept, none where none are
abbrev pub rows_of : Option KeptView → Rows
rows_of None = []
rows_of (Some kept) = kept.rows

-- rows of the first of these backups: those of its view if that was kept, else the tree that the files tell
abbrev pub AreRowsRead : Views → Files → ℕ → List Line → Rows → Type 0
AreRowsRead views all host lines rows = (line : Line) → slice_get lines 0 ≡ Some line
    → (HasView views host line.number × (rows ≡ rows_of views.kept)) ⊎ TellsTree all host lines rows
