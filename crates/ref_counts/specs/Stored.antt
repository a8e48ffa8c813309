-- What a host is stored as: its backups, the oldest first, and its partial dump.
--     stored backups      a table for each: its tree, or its entries relative to the next newer one
--     counted host      these, and the rows of the partial: what the counts of a host are of
--     IsNamed id backups, IsHeld told content backups      some backup's tree names the id;  has the content
--     IsNamedIn id host, IsHeldIn told content host      some backup's tree, or the partial's
use Rattle.std.specs.Prelude.{ℕ, ◌<◌, ◌⊎◌, Bool, List, [], ◌∷◌, ◌++◌, Option, Some, None, IfSome, if◌then◌else◌}
use Rattle.disk_trait.specs.declared.ids.PoolId.{PoolId}
use Rattle.attr_records.specs.Items.{contents}
use Rattle.merge_view.specs.Views.{Rows, IsWhole, reverse}
use Rattle.stored_trees.specs.Occurrences.{occurrences, times}
use Rattle.stored_trees.specs.Resolved.{resolved, AreTold}

-- whether it is stored whole, and the rows of its tree
pub record Backup : Type 0 where
  pub filled : Bool
  pub rows : Rows

-- what is stored of a backup before the next newer one: its tree if it is filled, else where the two trees differ
abbrev pub stored_before : Backup → Rows → Rows
stored_before backup newer = if backup.filled then backup.rows else reverse backup.rows newer

-- the tables of backups, of which the newest is stored whole
abbrev pub stored : List Backup → List Rows
stored [] = []
stored (backup ∷ []) = backup.rows ∷ []
stored (backup ∷ next ∷ more) = stored_before backup next.rows ∷ stored (next ∷ more)

-- what is stored of a host
pub record StoredHost : Type 0 where
  pub backups : List Backup
  pub partial : Option Rows

-- the table of a partial, if there is one
abbrev pub of_partial : Option Rows → List Rows
of_partial None = []
of_partial (Some rows) = rows ∷ []

-- all tables that are counted of a host
abbrev pub counted : StoredHost → List Rows
counted host = stored host.backups ++ of_partial host.partial

-- the trees of all of them are whole
abbrev pub AreWhole : List Backup → Type 0
AreWhole [] = Unit {0}
AreWhole (backup ∷ backups) = IsWhole backup.rows × AreWhole backups

-- some backup's tree names the id
abbrev pub IsNamed : PoolId → List Backup → Type 0
IsNamed id [] = ⊥
IsNamed id (backup ∷ backups) = (0 < occurrences id backup.rows) ⊎ IsNamed id backups

-- some backup's tree has the content
abbrev pub IsHeld : (PoolId → List ℕ) → List ℕ → List Backup → Type 0
IsHeld told content [] = ⊥
IsHeld told content (backup ∷ backups) = (0 < times content (contents (resolved told backup.rows))) ⊎ IsHeld told content backups

-- the contents of all their ids are told
abbrev pub AreAllTold : (PoolId → Type 0) → (PoolId → List ℕ) → List Backup → Type 0
AreAllTold given told [] = Unit {0}
AreAllTold given told (backup ∷ backups) = AreTold given told backup.rows × AreAllTold given told backups

-- ---- a host

-- there is a partial, whose tree names the id
abbrev pub IsNamedParked : PoolId → Option Rows → Type 0
IsNamedParked id None = ⊥
IsNamedParked id (Some rows) = 0 < occurrences id rows

-- some backup's tree names the id, or the partial's
abbrev pub IsNamedIn : PoolId → StoredHost → Type 0
IsNamedIn id host = IsNamed id host.backups ⊎ IsNamedParked id host.partial

-- there is a partial, whose tree has the content
abbrev pub IsHeldParked : (PoolId → List ℕ) → List ℕ → Option Rows → Type 0
IsHeldParked told content None = ⊥
IsHeldParked told content (Some rows) = 0 < times content (contents (resolved told rows))

-- some backup's tree has the content, or the partial's
abbrev pub IsHeldIn : (PoolId → List ℕ) → List ℕ → StoredHost → Type 0
IsHeldIn told content host = IsHeld told content host.backups ⊎ IsHeldParked told content host.partial

-- the contents of all ids of its backups and of its partial are told
abbrev pub AreAllToldIn : (PoolId → Type 0) → (PoolId → List ℕ) → StoredHost → Type 0
AreAllToldIn given told host = AreAllTold given told host.backups × IfSome host.partial (AreTold given told)

-- ---- commits

-- backups after a commit: the former newest, filled or not, and a new one behind it
abbrev pub with_new : List Backup → Backup → Bool → Backup → List Backup
with_new older newest stays new = older ++ (record { filled = stays; rows = newest.rows }) ∷ new ∷ []

-- the tables of the backups that are older than this one
abbrev pub older_tables : List Backup → Backup → List Rows
older_tables [] newest = []
older_tables (backup ∷ []) newest = stored_before backup newest.rows ∷ []
older_tables (backup ∷ next ∷ more) newest = stored_before backup next.rows ∷ older_tables (next ∷ more) newest
