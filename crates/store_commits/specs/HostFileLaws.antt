-- The files of a host that a commit writes, one by one.
--     index_after      the index, by the catalog's change
--     table_after      the new table
--     folding_of      what becomes of the former newest
--     former_after, others_after      its table, and those of the other backups
use Rattle.std.specs.Prelude.{◌≡◌, ◌≢◌, ℕ, zero, suc, Bool, true, false, List, [], ◌∷◌, ◌++◌, Option, Some, None, slice_get, if◌then◌else◌}
use Rattle.std.proofs.Common.{sym, ap, ◌∙◌, subst}
use Rattle.disk_trait.specs.declared.ids.FileId.TheVariants as F
use Rattle.disk_trait.specs.Files.{Files}
use Rattle.intent_journal.specs.declared.changes.Change.{Change}
use Rattle.intent_journal.specs.Changes.{applied}
use Rattle.attr_tables.specs.declared.layouts.TableLayout.TheVariants.{Second}
use Rattle.attr_tables.specs.Layout.{IsTable}
use Rattle.attr_tables.specs.Tables.{table_file}
use Rattle.backup_rules.specs.declared.lines.Line.{Line}
use Rattle.backup_index.specs.Index.{Index}
use Rattle.merge_view.specs.Views.{Rows, reverse}
use Rattle.backup_views.specs.Stored.{IsTableFile as TellsTable}
use Rattle.office_catalog.specs.Held.{HoldsCatalog}
use Rattle.office_catalog.specs.Known.{Known, with_change, changed_at}
use Rattle.office_catalog.specs.Changed.{Leads}
use Rattle.office_files.specs.Layouts.{IsHostFile, IsTableFile}
use Rattle.office_files.specs.KeptLaws.{IsTableFile-same}
use Rattle.store_parts.specs.KnownOffice.{host_of_catalog}
use Rattle.office_changes.specs.AppliedLaws.{applied_here}
use Rattle.store_commits.specs.declared.files.HostFiles.{HostFiles}
use Rattle.store_commits.specs.declared.former.Folding.{Folding}
use Rattle.store_commits.specs.Former.{IsFolded}
use Rattle.store_commits.specs.Planned.{IsFormerFile}
use Rattle.store_commits.specs.Written.{index_change, host_part}
use Rattle.store_commits.specs.WrittenLaws.{IsFormer, IsNotFormer, AreOfIndex, at_table, at_former, at_other_table}
use Rattle.store_commits.specs.CountsLaws.{IsFormerFolding}

-- ---- the index

changed_here : (f : Index → Index) (hosts : List Index) (host : ℕ) (index : Index) → slice_get hosts host ≡ Some index
    → slice_get (changed_at f host hosts) host ≡ Some (f index)
changed_here f [] host index e = absurd cc
changed_here f (h ∷ hosts) zero index e = let same : h ≡ index = cc in ap (λ (i : Index). Some (f i)) same
changed_here f (h ∷ hosts) (suc host) index e = changed_here f hosts host index e

-- the file that the catalog's change writes says the index as it is changed
pub index_after : (all : Files) (known : Known) (host : ℕ) (f : Index → Index) (index : Index) (changes : List Change) (bytes : Option (List ℕ))
    → HoldsCatalog all known → slice_get known.hosts host ≡ Some index
    → Leads known (with_change known host f) (F.Host host ∷ []) changes → changes ≡ index_change host bytes ∷ []
    → IsHostFile (f index) bytes
index_after all known host f index changes bytes holds here leads is =
    let first : slice_get changes 0 ≡ Some (index_change host bytes) = ap (λ (cs : List Change). slice_get cs 0) is in
    let found : applied changes all (F.Host host) ≡ bytes = applied_here changes all leads.are 0 (index_change host bytes) first in
    subst (IsHostFile (f index)) found
    (host_of_catalog (applied changes all) (with_change known host f) host (f index) (changed_here f known.hosts host index here)
    (leads.leads all holds))

-- ---- tables

-- what one crate says of a table's file is what the other says
pub told_table : (rows : Rows) (found : Option (List ℕ)) → IsTableFile rows found → TellsTable rows found
told_table rows found is = record { layout = is.layout; fits = is.fits; is = is.is }

-- the former newest's rows, and the entries in their place
pub folding_of : (told : Option Files) (all : Files) (host : ℕ) (line : Line) (stays : Bool) (last rows : Rows) (folding : Option Folding)
    → told ≡ Some all → IsTableFile last (all (F.Table host line.number))
    → IsFolded told host (if stays then None else Some line) rows folding → IsFormerFolding stays last rows folding
folding_of told all host line true last rows folding is table folded = folded
folding_of told all host line false last rows None is table folded = folded
folding_of told all host line false last rows (Some folding) is table folded =
    let same : last ≡ folding.rows = folded.only all last is (told_table last (all (F.Table host line.number)) table) in
    (sym same, folded.entries ∙ ap (λ (r : Rows). reverse r rows) (sym same))

-- its number
folding_named : (told : Option Files) (host : ℕ) (line : Line) (stays : Bool) (rows : Rows) (folding : Folding)
    → IsFolded told host (if stays then None else Some line) rows (Some folding) → folding.number ≡ line.number
folding_named told host line true rows folding folded = absurd cc
folding_named told host line false rows folding folded = folded.number

module _ (pooled : List Change) (host number : ℕ) (index : Option (List ℕ)) (files : HostFiles) (all : Files) (of_index : AreOfIndex pooled)
    (former : IsFormer number files.former) where
  abbrev image : Files
  image = applied (pooled ++ host_part host number index files) all

  pub table_after : (rows : Rows) → IsTable Second rows → files.table ≡ table_file Second rows → IsTableFile rows (image (F.Table host number))
  table_after rows fits bytes = record {
    layout = Second;
    fits = fits;
    is = at_table pooled host number index files all of_index former ∙ ap (λ (b : List ℕ). Some b) bytes;
  }

  none_former : (folding : Option Folding) → folding ≡ None → IsFormerFile folding files.former → files.former ≡ None
  none_former folding none file = subst (λ (f : Option Folding). IsFormerFile f files.former) none file

  -- the former newest's table
  pub former_after : (told : Option Files) (line : Line) (stays : Bool) (last rows : Rows) (folding : Option Folding)
      → IsTableFile last (all (F.Table host line.number)) → IsFormerFile folding files.former
      → IsFolded told host (if stays then None else Some line) rows folding → IsFormerFolding stays last rows folding → line.number ≢ number
      → IsTableFile (if stays then last else reverse last rows) (image (F.Table host line.number))
  former_after told line true last rows folding table file folded fold other =
      IsTableFile-same last (all (F.Table host line.number)) (image (F.Table host line.number))
      (at_other_table pooled host number index files all of_index former line.number other
      (subst (IsNotFormer line.number) (sym (none_former folding fold file)) tt)) table
  former_after told line false last rows None table file folded fold other = absurd fold
  former_after told line false last rows (Some folding) table file folded fold other = record {
    layout = Second;
    fits = subst (IsTable Second) fold.1 file.0;
    is = ap (λ (k : ℕ). image (F.Table host k)) (sym (folding_named told host line false rows folding folded))
        ∙ at_former pooled host number index files all of_index former
        (record { number = folding.number; table = table_file Second folding.entries }) file.1
        ∙ ap (λ (r : Rows). Some (table_file Second r)) fold.1;
  }

  not_former : (told : Option Files) (line : Line) (stays : Bool) (rows : Rows) (folding : Option Folding) (n : ℕ)
      → IsFormerFile folding files.former → IsFolded told host (if stays then None else Some line) rows folding → n ≢ line.number
      → IsNotFormer n files.former
  not_former told line true rows folding n file folded other = subst (IsNotFormer n) (sym (none_former folding folded file)) tt
  not_former told line false rows None n file folded other = absurd folded
  not_former told line false rows (Some folding) n file folded other =
      subst (IsNotFormer n) (sym file.1) (λ same. other (same ∙ folding_named told host line false rows folding folded))

  -- the tables of the others
  pub others_after : (told : Option Files) (line : Line) (stays : Bool) (rows : Rows) (folding : Option Folding) (n : ℕ)
      → IsFormerFile folding files.former → IsFolded told host (if stays then None else Some line) rows folding
      → n ≢ line.number → n ≢ number → image (F.Table host n) ≡ all (F.Table host n)
  others_after told line stays rows folding n file folded other apart =
      at_other_table pooled host number index files all of_index former n apart (not_former told line stays rows folding n file folded other)

  -- if there was no former newest
  pub others_first : (folding : Option Folding) (n : ℕ) → folding ≡ None → IsFormerFile folding files.former → n ≢ number
      → image (F.Table host n) ≡ all (F.Table host n)
  others_first folding n none file apart =
      at_other_table pooled host number index files all of_index former n apart
      (subst (IsNotFormer n) (sym (none_former folding none file)) tt)
