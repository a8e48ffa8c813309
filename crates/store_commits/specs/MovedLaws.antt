-- The ids of an office after its pool has the contents of rows.
--     ids_moved_by      what stays keeps its name, and each name is in use
--     ids_still      where pool and ids stay
use Rattle.std.specs.Prelude.{◌≡◌, ℕ, true, List, Option, Some, None, is_some}
use Rattle.std.proofs.Common.{refl, sym, ap, ◌∙◌, subst}
use Rattle.std.proofs.lemmas.Bool.{true≢false}
use Rattle.disk_trait.specs.declared.ids.PoolId.{PoolId}
use Rattle.disk_trait.specs.declared.disk.Disk.{Ghosts as DiskGhosts}
use Rattle.pool_name.specs.declared.namer.Namer.{Ghosts as NamerGhosts}
use Rattle.intent_journal.specs.declared.changes.Change.{Change}
use Rattle.intent_journal.specs.Changes.{applied, AreChanges}
use Rattle.journal_view.specs.View.{uncertain}
use Rattle.pool_index.specs.Index.{Index}
use Rattle.pool_changes.specs.declared.slot.Slot.{Slot}
use Rattle.pool_changes.specs.Listed.{item_of, index_of}
use Rattle.merge_view.specs.Views.{Rows}
use Rattle.stored_trees.specs.Resolved.{AreTold}
use Rattle.ref_counts.specs.Stored.{StoredHost}
use Rattle.office_model.specs.Ids.{AreIds}
use Rattle.office_model.specs.Office.{Office, Durable, Names}
use Rattle.office_model.specs.UsedNames.{Among, AreIdsAfter}
use Rattle.office_files.specs.Pooled.{contents_of, IsListed}
use Rattle.office_files.specs.Stands.{Stands}
use Rattle.office_changes.specs.IdLaws.{ids_moved}
use Rattle.office_changes.specs.PoolLaws.{listed_with}
use Rattle.store_parts.specs.declared.parts.StoreParts.{StoreParts}
use Rattle.store_parts.specs.Held.{given}
use Rattle.store_parts.specs.States.{slots, IsRunning}
use Rattle.store_parts.specs.StoredLaws.{contents_written}
use Rattle.store_commits.specs.Ids.{ids_in}
use Rattle.store_commits.specs.AcceptLaws.{with_added, used_added}
use Rattle.store_commits.specs.OfficeLaws.{listed_rows}

-- a listed name is there
listed_there : (id : PoolId) (slot : Option Slot) → is_some (item_of id slot) ≡ true → is_some slot ≡ true
listed_there id None listed = listed
listed_there id (Some slot) listed = refl

module _ {D N S : Type 0} {d : DiskGhosts D} {n : NamerGhosts N S} where
  module _ (parts : StoreParts D N S d n) (office : Office) (names : Names) (at : IsRunning parts office names) (rows : Rows)
      (told : AreTold (given (slots parts)) (contents_of at.all) rows) where
    abbrev next : Index
    next = index_of (with_added (ids_in rows) (slots parts))

    used : (id : PoolId) → IsListed next id → Among names.used id
    used id listed =
        at.used.among id (sym (used_added (ids_in rows) (slots parts) id) ∙ listed_there id (with_added (ids_in rows) (slots parts) id) listed)

    pub ids_moved_by : (changes : List Change) (shown : List StoredHost) (new : Durable) → AreChanges changes
        → Stands n.digest_of next shown (applied changes at.all) new → AreIdsAfter names office.durable new
    ids_moved_by changes shown new are stands =
        ids_moved names (index_of (slots parts)) next at.shown shown at.all (applied changes at.all) office.durable new
        (subst (λ (digest_of : List ℕ → List ℕ). Stands digest_of (index_of (slots parts)) at.shown at.all office.durable) (sym at.digest) at.stands)
        (subst (λ (digest_of : List ℕ → List ℕ). Stands digest_of next shown (applied changes at.all) new) (sym at.digest) stands)
        (λ id was is. sym (ap (λ (c : PoolId → List ℕ). c id) (contents_written changes at.all are)))
        (λ id was pooled. listed_with rows (contents_of at.all) (index_of (slots parts)) next
        (listed_rows n.digest_of (slots parts) (uncertain parts.journal) at.all at.fits rows told) id was)
        used

pub ids_still : (names : Names) (kept : Durable) → AreIds names.digest_of kept.pool kept.ids → AreIdsAfter names kept kept
ids_still names kept are = record {
  stay = λ id content at pooled. at;
  given = λ id content at fresh. absurd (true≢false (sym (are.pooled id content at) ∙ fresh));
  same = λ alike. refl;
  are = are;
}
