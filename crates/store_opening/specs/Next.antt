-- What an opening commits.
--     IsNext      a Head of the next epoch, behind the buckets of an index in one file, which takes no name and leaves none
use Rattle.std.specs.Prelude.{◌≡◌, ◌+◌, ◌++◌, ◌∷◌, List, []}
use Rattle.disk_trait.specs.declared.ids.FileId.TheVariants.{Head}
use Rattle.pool_name.specs.declared.namer.Namer.{Ghosts as NamerGhosts}
use Rattle.intent_journal.specs.declared.changes.Change.{Change}
use Rattle.pool_changes.specs.Kept.{slots_of}
use Rattle.pool_changes.specs.Listed.{index_of}
use Rattle.pool_changes.specs.Indexed.{IsOf}
use Rattle.pool_changes.specs.Written.{LeadsIndex}
use Rattle.pool_store.specs.declared.pool.Pool.{Pool}
use Rattle.office_catalog.specs.Known.{Known, with_epoch}
use Rattle.office_catalog.specs.Changed.{IsFor, Proposes}
use Rattle.store_opening.specs.declared.next.NextEpoch.{NextEpoch}

pub record IsNext {N S : Type 0} {n : NamerGhosts N S} (pool : Pool N S n) (catalog : Known) (next : NextEpoch) : Type 0 where
  pub proposes : Proposes catalog (with_epoch catalog (catalog.epoch + 1)) (Head ∷ []) next.catalog
  pub fits : IsFor catalog next.catalog
  pub index : IsOf next.index [] [] [] []
  pub pooled : List Change
  pub leads : LeadsIndex pool.in_one_file (index_of (slots_of pool.names)) (index_of (slots_of pool.names)) pooled
  pub changes_are : next.changes ≡ pooled ++ next.catalog.changes
