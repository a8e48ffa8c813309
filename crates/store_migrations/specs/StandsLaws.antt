-- Files whose tables tell the same rows stand for the same.
--     AreTablesAlike      the files are the same but for tables, each of which tells what it told
--     stands_alike      they stand for the same office
--     alike_migrated      so it is behind a migration
use Rattle.std.specs.Prelude.{◌≡◌, ℕ, false, List, Option, Some, None}
use Rattle.std.proofs.Common.{refl, sym, ap, ◌∙◌, subst, ⊎_elim}
use Rattle.disk_trait.specs.declared.ids.PoolId.{PoolId}
use Rattle.disk_trait.specs.declared.ids.FileId.{FileId}
use Rattle.disk_trait.specs.declared.ids.FileId.TheVariants as F
use Rattle.disk_trait.specs.Files.{Files, bytes_of}
use Rattle.intent_journal.specs.Changes.{applied}
use Rattle.intent_journal.specs.ChangesLaws.{applied_other}
use Rattle.attr_tables.specs.declared.file.TableFile.{TableFile}
use Rattle.attr_tables.specs.declared.layouts.TableLayout.TheVariants.{Second}
use Rattle.attr_tables.specs.Layout.{IsTable}
use Rattle.attr_tables.specs.Tables.{table_file}
use Rattle.backup_rules.specs.declared.lines.Line.{Line}
use Rattle.merge_view.specs.Views.{Rows}
use Rattle.pool_index.specs.Index.{Index}
use Rattle.ref_counts.specs.Numbers.{total}
use Rattle.ref_counts.specs.Stored.{StoredHost, stored, counted}
use Rattle.office_model.specs.Office.{Durable, Host}
use Rattle.office_files.specs.Layouts.{IsHeadFile, IsTableFile}
use Rattle.office_files.specs.Owners.{is_called_for}
use Rattle.office_model.specs.Pairs.{AtEachPair}
use Rattle.office_model.specs.PairsLaws.{pairs_each}
use Rattle.office_files.specs.Pooled.{contents_of, IsListed, HasNoIndex}
use Rattle.office_files.specs.Hosts.{index_of_host, IsShown, StandsHost}
use Rattle.office_files.specs.Stands.{names_of, Stands}
use Rattle.office_files.specs.TableLayouts.{is_table}
use Rattle.office_files.specs.KeptLaws.{IsHostFile-same, IsTableFile-same, IsCountsFile-same, partial_given, tells_kept, one_kept, pool_kept, ids_kept}
use Rattle.store_migrations.specs.Migrated.{AreRead, changes_of}
use Rattle.store_migrations.specs.LayoutLaws.{second_fits, only_rows}
use Rattle.store_migrations.specs.WrittenLaws.{other_file, IsRewritten, kept_or_rewritten}

pub record AreTablesAlike (files image : Files) : Type 0 where
  pub others : (file : FileId) → is_table file ≡ false → image file ≡ files file
  pub tables : (host number : ℕ) (rows : Rows) → IsTableFile rows (files (F.Table host number)) → IsTableFile rows (image (F.Table host number))
  pub absent : (host number : ℕ) → files (F.Table host number) ≡ None → image (F.Table host number) ≡ None

module _ (files image : Files) (alike : AreTablesAlike files image) (index : Index) where
  same : (id : PoolId) → IsListed index id → contents_of files id ≡ contents_of image id
  same id listed = ap bytes_of (sym (alike.others (F.Pool id) refl))

  contents : contents_of files ≡ contents_of image
  contents = λ i id. bytes_of (sym (alike.others (F.Pool id) refl) i)

  host_alike : (number : ℕ) (host : Host) (of : StoredHost) → StandsHost (IsListed index) (contents_of files) files number host of
      → StandsHost (IsListed index) (contents_of image) image number host of
  host_alike number host of is = record {
    index = IsHostFile-same (index_of_host number host) (files (F.Host number)) (image (F.Host number)) (alike.others (F.Host number) refl) is.index;
    shown = subst (λ (c : PoolId → List ℕ). AtEachPair (λ i. IsShown (IsListed index) c) host.backups of.backups) contents is.shown;
    tables = pairs_each (λ i backup rows. IsTableFile rows (files (F.Table number backup.line.number)))
        (λ i backup rows. IsTableFile rows (image (F.Table number backup.line.number))) host.backups (stored of.backups)
        (λ i backup rows e f. alike.tables number backup.line.number rows) is.tables;
    partial = partial_given (IsListed index) (IsListed index) (contents_of files) (contents_of image) (λ id g. (g, same id g)) number host.partial
        of.partial (files (F.Partial number)) (image (F.Partial number)) (alike.others (F.Partial number) refl) is.partial;
    counts = IsCountsFile-same number (λ id. total id (counted of)) (files (F.Counts number)) (image (F.Counts number))
        (alike.others (F.Counts number) refl) is.counts;
  }

  no_index : HasNoIndex files → HasNoIndex image
  no_index none = record {
    one = alike.others F.PoolIndex refl ∙ none.one;
    each = λ byte within. alike.others (F.PoolBucket byte) refl ∙ none.each byte within;
  }

  module _ (digest_of : List ℕ → List ℕ) (shown : List StoredHost) (office : Durable) (stands : Stands digest_of index shown files office) where
    uncalled : (file : FileId) → is_called_for office.hosts file ≡ false → image file ≡ None
    uncalled (F.Table host number) e = alike.absent host number (stands.nothing_else (F.Table host number) e)
    uncalled file e = alike.others file refl ∙ stands.nothing_else file e

    pub stands_alike : Stands digest_of index shown image office
    stands_alike = record {
      head = subst (IsHeadFile office.epoch (names_of office.hosts)) (sym (alike.others F.Head refl)) stands.head;
      index_told = tells_kept files image (alike.others F.PoolIndex refl) (λ byte. alike.others (F.PoolBucket byte) refl) index stands.index_told;
      no_index = λ none. no_index (stands.no_index (sym (alike.others F.Head refl) ∙ none));
      hosts = pairs_each (StandsHost (IsListed index) (contents_of files) files) (StandsHost (IsListed index) (contents_of image) image) office.hosts
          shown (λ number host of e f. host_alike number host of) stands.hosts;
      nothing_else = uncalled;
      one = one_kept index (contents_of files) (contents_of image) same stands.one;
      pool = pool_kept index (contents_of files) (contents_of image) same digest_of office.pool stands.pool;
      ids = ids_kept index (contents_of files) (contents_of image) same office.ids stands.ids;
      sound = stands.sound;
    }

-- ---- behind a migration

no_table : (host number : ℕ) (file : FileId) → is_table file ≡ false → file ≡ F.Table host number → ⊥
no_table host number file out same = absurd (let e = sym out ∙ ap is_table same in cc)

tells_again : (rows : Rows) (before after : Option (List ℕ)) → IsTableFile rows before → IsRewritten before after → IsTableFile rows after
tells_again rows before after is r =
    let one : rows ≡ r.rows = only_rows is.layout rows r.rows before is.fits is.is r.fits r.was in
    record {
      layout = Second;
      fits = subst (IsTable Second) (sym one) (second_fits r.rows r.fits);
      is = r.is ∙ ap (λ (rs : Rows). Some (table_file Second rs)) (sym one);
    }

still_absent : (before after : Option (List ℕ)) → before ≡ None → IsRewritten before after → after ≡ None
still_absent before after none r = absurd (let e = sym none ∙ r.was in cc)

pub alike_migrated : (all : Files) (host : ℕ) (lines : List Line) (files : List TableFile) → AreRead all host lines files
    → AreTablesAlike all (applied (changes_of host lines files) all)
alike_migrated all host lines files read = record {
  others = λ file out.
      applied_other (changes_of host lines files) all file (other_file host lines files file (λ i line there. no_table host line.number file out));
  tables = λ h number rows is. ⊎_elim
      (λ kept. IsTableFile-same rows (all (F.Table h number)) (applied (changes_of host lines files) all (F.Table h number)) kept is)
      (λ r. tells_again rows (all (F.Table h number)) (applied (changes_of host lines files) all (F.Table h number)) is r)
      (kept_or_rewritten all host lines files read all (F.Table h number));
  absent = λ h number none. ⊎_elim (λ kept. kept ∙ none)
      (λ r. still_absent (all (F.Table h number)) (applied (changes_of host lines files) all (F.Table h number)) none r)
      (kept_or_rewritten all host lines files read all (F.Table h number));
}
