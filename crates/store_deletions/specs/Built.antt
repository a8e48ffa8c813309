-- What a plan of a deletion was built of.
--     IsBuilt      the plan, by the host's counts and the tables of the backups in a window
use Rattle.std.specs.Prelude.{◌≡◌, ℕ, ◌+◌, ◌-◌, List, [], ◌∷◌, Some, slice_get}
use Rattle.disk_trait.specs.declared.ids.PoolId.{PoolId}
use Rattle.disk_trait.specs.declared.ids.FileId.TheVariants.{Host as HostFile}
use Rattle.intent_journal.specs.declared.changes.Change.{Change}
use Rattle.backup_index.specs.Index.{Index as HostIndex}
use Rattle.merge_view.specs.Views.{Rows}
use Rattle.ref_counts.specs.Numbers.{Items, number, total, capped}
use Rattle.ref_counts.specs.Layout.{IsCounts}
use Rattle.backup_delete.specs.Folds.{changes, added_tables, taken_tables}
use Rattle.backup_delete.specs.Windows.{part, IsWindow}
use Rattle.office_catalog.specs.Known.{Known, IsHost, with_change}
use Rattle.office_catalog.specs.Changed.{after, IsFor, Leads}
use Rattle.store_deletions.specs.declared.plan.DeletionPlan.{DeletionPlan}
use Rattle.store_deletions.specs.Planned.{left_index}
use Rattle.store_deletions.specs.Written.{written, AreFit}

pub record IsBuilt (catalog : Known) (host first end : ℕ) (tables : List Rows) (old : Items) (numbers : List ℕ) (plan : DeletionPlan) : Type 0 where
  pub index : HostIndex
  pub here : slice_get catalog.hosts host ≡ Some index
  pub is_host : IsHost host index
  pub window : IsWindow numbers index.lines first end
  pub fits : IsFor catalog plan.catalog
  pub known : after plan.catalog catalog ≡ with_change catalog host (left_index numbers)
  pub listed : List Change
  pub leads : Leads catalog (with_change catalog host (left_index numbers)) (HostFile host ∷ []) listed
  pub fit : AreFit (changes numbers (part first end index.lines) tables)
  pub counts_fit : IsCounts plan.counts
  pub changes_are : plan.changes ≡ written listed host (changes numbers (part first end index.lines) tables) plan.counts
  pub counted : (id : PoolId) → number plan.counts id
      ≡ capped ((number old id - capped (total id (taken_tables numbers (part first end index.lines) tables)))
      + capped (total id (added_tables (changes numbers (part first end index.lines) tables))))
