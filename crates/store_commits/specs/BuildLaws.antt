-- A plan is built of its parts.
use Rattle.std.specs.Prelude.{◌≡◌, ℕ, Bool, true, false, not, List, [], ◌∷◌, Option, is_some}
use Rattle.std.proofs.Common.{refl, sym, ap, ◌∙◌, subst}
use Rattle.std.specs.Global.{Vec}
use Rattle.disk_trait.specs.declared.ids.PoolId.{PoolId}
use Rattle.disk_trait.specs.declared.ids.FileId.TheVariants.{Host as HostFile}
use Rattle.disk_trait.specs.declared.disk.Disk.{Ghosts as DiskGhosts}
use Rattle.pool_name.specs.declared.namer.Namer.{Ghosts as NamerGhosts}
use Rattle.intent_journal.specs.declared.changes.Change.{Change}
use Rattle.attr_tables.specs.declared.layouts.TableLayout.TheVariants.{Second}
use Rattle.attr_tables.specs.Layout.{IsTable}
use Rattle.attr_tables.specs.Tables.{table_file}
use Rattle.merge_view.specs.Views.{Rows}
use Rattle.ref_counts.specs.Numbers.{Items}
use Rattle.ref_counts.specs.Layout.{IsCounts}
use Rattle.ref_counts.specs.CountsFile.{counts_file}
use Rattle.pool_changes.specs.declared.index.IndexChange.{IndexChange}
use Rattle.pool_changes.specs.Listed.{index_of}
use Rattle.pool_changes.specs.Slots.{Slots}
use Rattle.pool_changes.specs.Indexed.{after as relisted_after, relisted_by, IsOf}
use Rattle.pool_changes.specs.Written.{LeadsIndex}
use Rattle.office_catalog.specs.declared.edits.CatalogChange.{CatalogChange}
use Rattle.office_catalog.specs.Known.{Known, with_change, with_line}
use Rattle.office_catalog.specs.Changed.{IsFor, Leads, Proposes}
use Rattle.store_parts.specs.declared.parts.StoreParts.{StoreParts}
use Rattle.store_parts.specs.States.{slots}
use Rattle.store_commits.specs.declared.files.HostFiles.{HostFiles}
use Rattle.store_commits.specs.declared.former.Folding.{Folding}
use Rattle.store_commits.specs.declared.judge.Lines.{Lines}
use Rattle.store_commits.specs.Ids.{given_in}
use Rattle.store_commits.specs.Written.{written}
use Rattle.store_commits.specs.Planned.{IsFormerFile, IsBuilt}

turned : (a b : Bool) → a ≡ not b → b ≡ not a
turned true true e = e
turned true false e = refl
turned false true e = refl
turned false false e = e

-- an index's change whose files were taken out
pub record IsTaken (index new : IndexChange) (taken : List Change) : Type 0 where
  pub changes : taken ≡ index.changes
  pub added : new.added ≡ index.added
  pub marked : new.marked ≡ index.marked
  pub unmarked : new.unmarked ≡ index.unmarked
  pub removed : new.removed ≡ index.removed

-- it leads where it led
leads_taken : (slots : Slots) (in_one : Bool) (index new : IndexChange) (taken : List Change) → IsTaken index new taken
    → LeadsIndex in_one (index_of slots) (index_of (relisted_after index slots)) index.changes
    → LeadsIndex in_one (index_of slots) (index_of (relisted_after new slots)) taken
leads_taken slots in_one index new taken is leads =
    subst (λ (c : List Change). LeadsIndex in_one (index_of slots) (index_of (relisted_after new slots)) c) (sym is.changes)
    (subst (λ (s : Slots). LeadsIndex in_one (index_of slots) (index_of s) index.changes) relisted leads)
  where
    relisted : relisted_after index slots ≡ relisted_after new slots
    relisted = λ i. relisted_by (sym is.added i).items (sym is.marked i).items (sym is.unmarked i).items (sym is.removed i).items slots

module _ {D N S : Type 0} {d : DiskGhosts D} {n : NamerGhosts N S} where
  pub built_of : (parts : StoreParts D N S d n) (host : ℕ) (lines : Lines) (parked : Option Rows) (folding : Option Folding)
      (counts : Items) (rows : Rows) (filled : Bool) (catalog : CatalogChange) (index new : IndexChange) (taken listed changes : List Change) (files : HostFiles)
      → is_some lines.dropped ≡ not filled
      → Proposes parts.catalog (with_change parts.catalog host (with_line lines.line filled lines.receipt)) (HostFile host ∷ []) catalog
      → IsFor parts.catalog catalog → IsOf index (given_in (slots parts) rows) [] [] []
      → LeadsIndex parts.pool.in_one_file (index_of (slots parts)) (index_of (relisted_after index (slots parts))) index.changes
      → IsTaken index new taken → listed ≡ catalog.changes → IsTable Second rows × (files.table ≡ table_file Second rows)
      → IsFormerFile folding files.former → files.parked ≡ is_some parked → IsCounts counts × (files.counts ≡ counts_file lines.file counts)
      → changes ≡ written taken listed lines.file lines.line.number files
      → IsBuilt parts host lines parked folding counts rows
      (record { number = lines.line.number; host = host; catalog = catalog; index = new; rows = rows; counts = counts; changes = changes })
  built_of parts host lines parked folding counts rows filled catalog index new taken listed changes files is_filled proposes fits of leads
      is_taken listed_is table former parked_is counted changes_are = record {
        number = refl;
        host_is = refl;
        rows_are = refl;
        counts_are = refl;
        after_is = proposed.after_is;
        listed = listed;
        lists = subst (λ (c : List Change). Leads parts.catalog new_known (HostFile host ∷ []) c) (sym listed_is) proposed.leads;
        fits = fits;
        pooled = taken;
        of_ids = record {
          added_are = ap (λ (v : Vec PoolId). v.items) is_taken.added ∙ of.added_are;
          marked_are = ap (λ (v : Vec PoolId). v.items) is_taken.marked ∙ of.marked_are;
          unmarked_are = ap (λ (v : Vec PoolId). v.items) is_taken.unmarked ∙ of.unmarked_are;
          removed_are = ap (λ (v : Vec PoolId). v.items) is_taken.removed ∙ of.removed_are;
        };
        leads = leads_taken (slots parts) parts.pool.in_one_file index new taken is_taken leads;
        files = files;
        changes = changes_are;
        table = table;
        former = former;
        parked_is = parked_is;
        counted = counted;
      }
    where
      new_known : Known
      new_known = with_change parts.catalog host (with_line lines.line (not (is_some lines.dropped)) lines.receipt)

      proposed : Proposes parts.catalog new_known (HostFile host ∷ []) catalog
      proposed = subst (λ (b : Bool). Proposes parts.catalog (with_change parts.catalog host (with_line lines.line b lines.receipt)) (HostFile host ∷ []) catalog)
          (turned (is_some lines.dropped) filled is_filled) proposes
