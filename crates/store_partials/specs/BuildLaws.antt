-- A plan is built of its parts.
--     built_of      that of a park
use Rattle.std.specs.Prelude.{◌≡◌, ℕ, Bool, List, [], ◌++◌, Some}
use Rattle.std.specs.Global.{Vec}
use Rattle.std.proofs.Common.{refl, sym, ap, ◌∙◌, subst}
use Rattle.disk_trait.specs.declared.ids.PoolId.{PoolId}
use Rattle.disk_trait.specs.declared.disk.Disk.{Ghosts as DiskGhosts}
use Rattle.pool_name.specs.declared.namer.Namer.{Ghosts as NamerGhosts}
use Rattle.intent_journal.specs.declared.changes.Change.{Change}
use Rattle.merge_view.specs.Views.{Rows}
use Rattle.partial_files.specs.declared.partial.PartialFile.{PartialFile}
use Rattle.pool_changes.specs.declared.index.IndexChange.{IndexChange}
use Rattle.pool_changes.specs.Listed.{index_of}
use Rattle.pool_changes.specs.Slots.{Slots}
use Rattle.pool_changes.specs.Indexed.{after as relisted_after, relisted_by, IsOf}
use Rattle.pool_changes.specs.Written.{LeadsIndex}
use Rattle.ref_counts.specs.Numbers.{Items}
use Rattle.ref_counts.specs.Layout.{IsCounts}
use Rattle.ref_counts.specs.CountsFile.{counts_file}
use Rattle.host_partials.specs.declared.held.PartialHead.{PartialHead}
use Rattle.host_partials.specs.Held.{head_of_file}
use Rattle.store_parts.specs.declared.parts.StoreParts.{StoreParts}
use Rattle.store_parts.specs.States.{slots}
use Rattle.store_commits.specs.Ids.{given_in}
use Rattle.store_partials.specs.Parked.{IsBuilt}
use Rattle.store_partials.specs.Written.{host_part}

-- an index's change whose files were taken out
pub record IsTaken (index new : IndexChange) (taken : List Change) : Type 0 where
  pub changes : taken ≡ index.changes
  pub added : new.added ≡ index.added
  pub marked : new.marked ≡ index.marked
  pub unmarked : new.unmarked ≡ index.unmarked
  pub removed : new.removed ≡ index.removed

-- it leads where it led
leads_taken : (slots : Slots) (in_one : Bool) (index new : IndexChange) (taken : List Change) → IsTaken index new taken
    → LeadsIndex in_one (index_of slots) (index_of (relisted_after index slots)) index.changes
    → LeadsIndex in_one (index_of slots) (index_of (relisted_after new slots)) taken
leads_taken slots in_one index new taken is leads =
    subst (λ (c : List Change). LeadsIndex in_one (index_of slots) (index_of (relisted_after new slots)) c) (sym is.changes)
    (subst (λ (s : Slots). LeadsIndex in_one (index_of slots) (index_of s) index.changes) relisted leads)
  where
    relisted : relisted_after index slots ≡ relisted_after new slots
    relisted = λ i. relisted_by (sym is.added i).items (sym is.marked i).items (sym is.unmarked i).items (sym is.removed i).items slots

module _ {D N S : Type 0} {d : DiskGhosts D} {n : NamerGhosts N S} where
  pub built_of : (parts : StoreParts D N S d n) (place host : ℕ) (partial : PartialFile) (bytes written : List ℕ) (counts : Items) (asked : Rows)
      (index new : IndexChange) (taken changes : List Change) (head : PartialHead) → asked ≡ partial.rows
      → IsOf index (given_in (slots parts) asked) [] [] []
      → LeadsIndex parts.pool.in_one_file (index_of (slots parts)) (index_of (relisted_after index (slots parts))) index.changes
      → IsTaken index new taken → IsCounts counts → written ≡ counts_file host counts → changes ≡ taken ++ host_part host written (Some bytes)
      → head ≡ head_of_file partial
      → IsBuilt parts place host partial bytes counts
      (record { host = place; index = new; head = head; counts = counts; changes = changes })
  built_of parts place host partial bytes written counts asked index new taken changes head same of leads is_taken fits written_is changes_are head_is =
      record {
        host_is = refl;
        head_is = head_is;
        counts_are = refl;
        fits = fits;
        pooled = taken;
        of_ids = subst (λ (r : Rows). IsOf new (given_in (slots parts) r) [] [] []) same (record {
          added_are = ap (λ (v : Vec PoolId). v.items) is_taken.added ∙ of.added_are;
          marked_are = ap (λ (v : Vec PoolId). v.items) is_taken.marked ∙ of.marked_are;
          unmarked_are = ap (λ (v : Vec PoolId). v.items) is_taken.unmarked ∙ of.unmarked_are;
          removed_are = ap (λ (v : Vec PoolId). v.items) is_taken.removed ∙ of.removed_are;
        });
        leads = leads_taken (slots parts) parts.pool.in_one_file index new taken is_taken leads;
        changes = changes_are ∙ ap (λ (c : List ℕ). taken ++ host_part host c (Some bytes)) written_is;
      }
