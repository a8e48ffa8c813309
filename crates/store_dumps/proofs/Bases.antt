-- What a dump begins with is what the model says.
--     rows_given      rows name given ids
--     rows_listed      so do those that name listed ids
--     base_there, no_base      there is a base exactly if the kind wants none or the host has a backup
--     begins_full, begins_newest, begins_none      the rows that are read are those of the base
--     newest_fault      the newest backup's table isn't damaged
--     tells_none, tells_newest, newest_damaged      whatever the files hold
use Rattle.std.specs.Prelude.{◌≡◌, ◌<◌, ◌+◌, ◌-◌, ℕ, zero, suc, Bool, true, false, List, [], ◌∷◌, length, take, Option, Some, None, Ok, Err, is_some, option_map, slice_get, if◌then◌else◌}
use Rattle.std.proofs.Common.{refl, sym, ap, ◌∙◌, subst, arith}
use Rattle.std.proofs.lemmas.Bool.{false≢true}
use Rattle.std.proofs.lemmas.List.{length-map}
use Rattle.std.proofs.lemmas.Option.{slice_get-map}
use Rattle.disk_trait.specs.declared.ids.PoolId.{PoolId}
use Rattle.disk_trait.specs.declared.ids.FileId.TheVariants.{Table as TableOf}
use Rattle.disk_trait.specs.declared.disk.Disk.{Ghosts as DiskGhosts}
use Rattle.disk_trait.specs.Files.{Files}
use Rattle.pool_name.specs.declared.namer.Namer.{Ghosts as NamerGhosts}
use Rattle.attr_records.specs.Items.{Tree}
use Rattle.attr_tables.specs.declared.records.Record.{Record}
use Rattle.attr_tables.specs.declared.records.Record.TheVariants.{File, Dir, Link, Deleted}
use Rattle.attr_tables.specs.RecordLaws.{same_id}
use Rattle.backup_index.specs.Index.{Index}
use Rattle.backup_rules.specs.declared.lines.Kind.{Kind}
use Rattle.backup_rules.specs.declared.lines.Kind.TheVariants.{Full, Incr}
use Rattle.backup_rules.specs.declared.lines.Line.{Line}
use Rattle.backup_views.specs.declared.fault.ViewFault.{ViewFault}
use Rattle.backup_views.specs.declared.fault.ViewFault.TheVariants as V
use Rattle.backup_views.specs.FaultLaws.{first_damaged}
use Rattle.backup_views.specs.Faults.{SaysOneDamaged}
use Rattle.backup_views.specs.Stored.{IsTableFile, HasTable, AreTables, TellsTree, tree_from, depth_of}
use Rattle.journal_view.specs.View.{told}
use Rattle.merge_view.specs.Views.{Rows, IsWhole, view}
use Rattle.merge_view.specs.TableLaws.{view-nil}
use Rattle.pool_changes.specs.declared.slot.Slot.{Slot}
use Rattle.pool_changes.specs.declared.slot.Slot.TheVariants.{Live, Staged, Doomed}
use Rattle.pool_changes.specs.Slots.{is_live, is_given}
use Rattle.pool_changes.specs.Listed.{index_of}
use Rattle.ref_counts.specs.Stored.{Backup as StoredBackup, StoredHost, stored}
use Rattle.stored_trees.specs.Resolved.{IsTold, IsToldContent, AreTold}
use Rattle.stored_trees.specs.ResolvedLaws.{AreTold-kept}
use Rattle.stored_trees.specs.Occurrences.{is_content, names, occurrences}
use Rattle.open_sessions.specs.Opened.{AreRowsOf}
use Rattle.office_model.specs.declared.refusal.BrokenRule.TheVariants.{NoBackup}
use Rattle.office_model.specs.Meaning.{found}
use Rattle.office_model.specs.Office.{Office, Host, Backup, Names}
use Rattle.office_model.specs.Parts.{lines_of, newest}
use Rattle.office_model.specs.events.OpenDump.{base_of}
use Rattle.office_model.specs.PairsLaws.{pair_at}
use Rattle.office_files.specs.Pooled.{contents_of, IsListed}
use Rattle.office_files.specs.Hosts.{IsShown, StandsHost}
use Rattle.store_parts.specs.declared.parts.StoreParts.{StoreParts}
use Rattle.store_parts.specs.Held.{given}
use Rattle.store_parts.specs.Refusals.{IsReadFault, refusal_of_view}
use Rattle.store_parts.specs.States.{slots, IsRunning}
use Rattle.store_parts.specs.StoredLaws.{listed_live}
use Rattle.store_dumps.specs.Base.{newest_line, has_base, IsBase, BeginsWith, TellsNewest, TellsBase, IsBaseFault}
use Rattle.store_dumps.proofs.Hosts.{host_of, index_named}

-- ---- ids that rows name

module _ (given : PoolId → Type 0) (contents : PoolId → List ℕ) (id : PoolId) where
  content_given : (size : ℕ) (content : Option PoolId) → IsToldContent given contents size content → is_content id content ≡ true
      → given id
  content_given size None told e = absurd (false≢true e)
  content_given size (Some other) told e = subst given (same_id other id e) told.0

  node_given : (node : Record) → IsTold given contents node → names id node ≡ true → given id
  node_given (File file) told e = content_given file.size file.content told e
  node_given (Dir dir) told e = absurd (false≢true e)
  node_given (Link link) told e = absurd (false≢true e)
  node_given Deleted told e = absurd (false≢true e)

  pub rows_given : (rows : Rows) → AreTold given contents rows → 0 < occurrences id rows → given id
  rows_given [] told some = absurd (omega (arith, some))
  rows_given (row ∷ rows) told some = step (names id row.1) refl some (rows_given rows told.1)
    where
      step : (b : Bool) → names id row.1 ≡ b → 0 < (if b then 1 else 0) + occurrences id rows → (0 < occurrences id rows → given id)
          → given id
      step true e h rest = node_given row.1 told.0 e
      step false e h rest = rest (omega (arith, h))

pub no_rows : (given : PoolId → Type 0) (contents : PoolId → List ℕ) → AreRowsOf given contents []
no_rows given contents = record { whole = record { in_order = tt; no_marks = tt }; told = tt }

live_given : (slot : Option Slot) → is_live slot ≡ true → is_given slot ≡ true
live_given None e = e
live_given (Some (Live size mark claims)) e = refl
live_given (Some (Staged size claims)) e = refl
live_given (Some Doomed) e = e

-- ---- the model's base

abbrev line_of : Backup → Line
line_of backup = backup.line

newest_lines : (backups : List Backup) → newest_line (lines_of backups) ≡ option_map line_of (newest backups)
newest_lines backups =
    ap (λ (k : ℕ). slice_get (lines_of backups) (k - 1)) (length-map backups line_of)
    ∙ slice_get-map line_of backups (length backups - 1)

is_some-line : (backup : Option Backup) → is_some (option_map line_of backup) ≡ is_some backup
is_some-line None = refl
is_some-line (Some backup) = refl

has_newest : (backups : List Backup) → has_base Incr (lines_of backups) ≡ is_some (newest backups)
has_newest backups = ap is_some (newest_lines backups) ∙ is_some-line (newest backups)

pub base_there : (kind : Kind) (backups : List Backup) → has_base kind (lines_of backups) ≡ true
    → (base : Tree) × (base_of kind backups ≡ Ok base)
base_there Full backups e = ([], refl)
base_there Incr backups e = step (newest backups) refl (sym (has_newest backups) ∙ e)
  where
    step : (backup : Option Backup) → newest backups ≡ backup → is_some backup ≡ true
        → (base : Tree) × (found NoBackup (option_map (λ backup. backup.tree) (newest backups)) ≡ Ok base)
    step None f g = absurd (false≢true g)
    step (Some backup) f g =
        (backup.tree, ap (λ (o : Option Backup). found NoBackup (option_map (λ backup. backup.tree) o)) f)

pub no_base : (kind : Kind) (backups : List Backup) → has_base kind (lines_of backups) ≡ false → base_of kind backups ≡ Err NoBackup
no_base Full backups e = absurd (false≢true (sym e))
no_base Incr backups e = step (newest backups) refl (sym (has_newest backups) ∙ e)
  where
    step : (backup : Option Backup) → newest backups ≡ backup → is_some backup ≡ false
        → found NoBackup (option_map (λ backup. backup.tree) (newest backups)) ≡ Err NoBackup
    step None f g = ap (λ (o : Option Backup). found NoBackup (option_map (λ backup. backup.tree) o)) f
    step (Some backup) f g = absurd (false≢true (sym g))

-- ---- the newest backup's table

-- the last table is the newest backup's whole tree
last_stored : (shown : List StoredBackup) (k : ℕ) (backup : StoredBackup) → slice_get shown k ≡ Some backup → k ≡ length shown - 1
    → slice_get (stored shown) k ≡ Some backup.rows
last_stored [] k backup e last = absurd cc
last_stored (b ∷ []) zero backup e last = let same : b ≡ backup = cc in ap (λ (b : StoredBackup). Some b.rows) same
last_stored (b ∷ []) (suc k) backup e last = absurd cc
last_stored (b ∷ b' ∷ more) zero backup e last = absurd (omega (arith, last))
last_stored (b ∷ b' ∷ more) (suc k) backup e last = last_stored (b' ∷ more) k backup e (omega (arith, last))

viewed_alone : (filled : Bool) (rows : Rows) → IsWhole rows → (if filled then rows else view [] rows) ≡ rows
viewed_alone true rows whole = refl
viewed_alone false rows whole = view-nil rows whole

module _ (given : PoolId → Type 0) (contents : PoolId → List ℕ) (files : Files) (place : ℕ) where
  -- the newest backup of a host has this line, and its table is in its file
  record IsNewest (backups : List Backup) (line : Line) : Type 0 where
    pub backup : Backup
    pub shown : StoredBackup
    pub is : newest backups ≡ Some backup
    pub is_shown : IsShown given contents backup shown
    pub table : HasTable files place line shown.rows

  newest_stands : (host : Host) (of : StoredHost) → StandsHost given contents files place host of → (line : Line)
      → newest_line (lines_of host.backups) ≡ Some line → IsNewest host.backups line
  newest_stands host of stands line e = step (newest host.backups) refl (sym (newest_lines host.backups) ∙ e)
    where
      step : (backup : Option Backup) → newest host.backups ≡ backup → option_map line_of backup ≡ Some line
          → IsNewest host.backups line
      step None f g = absurd cc
      step (Some backup) f g =
          let pair = pair_at (λ i. IsShown given contents) host.backups of.backups stands.shown (length host.backups - 1) backup f in
          let last : length host.backups - 1 ≡ length of.backups - 1 = ap (λ (k : ℕ). k - 1) (sym stands.shown.counted) in
          let same : backup.line ≡ line = cc in
          let table = stands.tables.each (length host.backups - 1) backup pair.0.rows f
          (last_stored of.backups (length host.backups - 1) pair.0 pair.1 last) in
          record {
            backup = backup;
            shown = pair.0;
            is = f;
            is_shown = pair.2;
            table = subst (λ (l : Line). HasTable files place l pair.0.rows) same (record {
              file = record { layout = table.layout; fits = table.fits; is = table.is };
              whole = λ filled. pair.2.whole;
            });
          }

same_index : (o : Option Index) (a b : Index) → o ≡ Some a → o ≡ Some b → a ≡ b
same_index o a b e f = cc

only_line : (line other : Line) (i : ℕ) → slice_get (line ∷ []) i ≡ Some other → other ≡ line
only_line line other zero e = cc
only_line line other (suc i) e = absurd cc

module _ {D N S : Type 0} {d : DiskGhosts D} {n : NamerGhosts N S} where
  pub rows_listed : (parts : StoreParts D N S d n) (contents : PoolId → List ℕ) (rows : Rows)
      → AreRowsOf (IsListed (index_of (slots parts))) contents rows → AreRowsOf (given (slots parts)) contents rows
  rows_listed parts contents rows of = record {
    whole = of.whole;
    told = AreTold-kept (IsListed (index_of (slots parts))) (given (slots parts)) contents contents
        (λ id listed. (live_given (slots parts id) (listed_live (slots parts) id listed), refl)) rows of.told;
  }

  pub begins_full : (parts : StoreParts D N S d n) (place : ℕ) (rows : Rows) → rows ≡ [] → BeginsWith parts place Full rows
  begins_full parts place rows none office names at host is has =
      subst (IsBase (given (slots parts)) (contents_of at.all) Full host.backups) (sym none)
      (record { is = refl; rows_of = no_rows (given (slots parts)) (contents_of at.all) })

  module _ (parts : StoreParts D N S d n) (place : ℕ) (index : Index) (there : slice_get parts.catalog.hosts place ≡ Some index) where
    module _ (office : Office) (names : Names) (at : IsRunning parts office names) (host : Host)
        (is : slice_get office.hosts place ≡ Some host) where
      pub lines_are : index.lines ≡ lines_of host.backups
      lines_are = ap (λ (i : Index). i.lines) (index_named office.durable parts.catalog at.catalog_is place host index is there)

      abbrev Newest : Line → Type 0
      Newest line = IsNewest (IsListed (index_of (slots parts))) (contents_of at.all) at.all place host.backups line

      newest_there : (line : Line) → newest_line index.lines ≡ Some line → Newest line
      newest_there line e =
          let pair = pair_at (StandsHost (IsListed (index_of (slots parts))) (contents_of at.all) at.all) office.hosts at.shown
          at.stands.hosts place host is in
          newest_stands (IsListed (index_of (slots parts))) (contents_of at.all) at.all place host pair.0 pair.2 line
          (ap newest_line (sym lines_are) ∙ e)

    pub begins_none : newest_line index.lines ≡ None → (rows : Rows) → BeginsWith parts place Incr rows
    begins_none none rows office names at host is has =
        absurd (false≢true (sym (ap is_some (ap newest_line (sym (lines_are office names at host is)) ∙ none)) ∙ has))

    module _ (line : Line) (newest_is : newest_line index.lines ≡ Some line) where
      pub begins_newest : (told_then : Option Files) (rows : Rows) → told parts.journal ≡ told_then
          → ((all : Files) (tables : List Rows) → told_then ≡ Some all → AreTables all place (line ∷ []) tables
          → rows ≡ tree_from (line ∷ []) tables)
          → BeginsWith parts place Incr rows
      begins_newest told_then rows same reads office names at host is has =
          let w = newest_there office names at host is line newest_is in
          let rows_are : rows ≡ w.shown.rows =
          reads at.all (w.shown.rows ∷ []) (sym same ∙ at.told_is) (w.table, tt)
          ∙ viewed_alone line.filled w.shown.rows w.is_shown.whole in
          subst (IsBase (given (slots parts)) (contents_of at.all) Incr host.backups) (sym rows_are) (record {
            is = ap (λ (o : Option Backup). found NoBackup (option_map (λ backup. backup.tree) o)) w.is
                ∙ ap (λ (tree : Tree). Ok tree) w.is_shown.tree;
            rows_of = rows_listed parts (contents_of at.all) w.shown.rows (record { whole = w.is_shown.whole; told = w.is_shown.told });
          })

      -- of the one line
      abbrev SaysNewest : ViewFault → Type 0
      SaysNewest fault = SaysOneDamaged (told parts.journal) place (take (depth_of (line ∷ [])) (line ∷ [])) fault

      pub newest_fault : (fault : ViewFault) → SaysNewest fault
          → IsReadFault parts (refusal_of_view fault)
      newest_fault V.Disk says = tt
      newest_fault V.Memory says = tt
      newest_fault (V.Damaged file found) says = λ office names at.
          let said = first_damaged (told parts.journal) place (depth_of (line ∷ [])) (line ∷ []) (V.Damaged file found) says file found refl in
          let h = host_of office.durable parts.catalog at.catalog_is place index there in
          let w = newest_there office names at h.0 h.1 line newest_is in
          let same : said.line ≡ line = only_line line said.line said.index said.is_line in
          let there : found ≡ at.all (TableOf place line.number) =
          said.no_table.there at.all at.told_is ∙ ap at.all (said.file_is ∙ ap (λ (l : Line). TableOf place l.number) same) in
          said.no_table.none w.shown.rows
          (subst (λ (found : Option (List ℕ)). IsTableFile w.shown.rows found) (sym there) w.table.file)

      -- ---- whatever the files hold

      abbrev read_line : (other : Index) → slice_get parts.catalog.hosts place ≡ Some other → newest_line other.lines ≡ Some line
      read_line other e =
          ap (λ (i : Index). newest_line i.lines) (same_index (slice_get parts.catalog.hosts place) other index e there) ∙ newest_is

      pub tells_newest : (rows : Rows)
          → ((all : Files) → told parts.journal ≡ Some all → TellsTree all place (line ∷ []) rows)
          → (other : Index) → slice_get parts.catalog.hosts place ≡ Some other → TellsBase (told parts.journal) place Incr other.lines rows
      tells_newest rows tells other e =
          subst (λ (l : Option Line). TellsNewest (told parts.journal) place l rows) (sym (read_line other e)) tells

      pub newest_damaged : (fault : ViewFault) → SaysNewest fault → IsBaseFault parts place (refusal_of_view fault)
      newest_damaged V.Disk says = tt
      newest_damaged V.Memory says = tt
      newest_damaged (V.Damaged file found) says = λ other e. record {
        line = line;
        is_line = read_line other e;
        damaged = first_damaged (told parts.journal) place (depth_of (line ∷ [])) (line ∷ []) (V.Damaged file found) says file found refl;
      }

    pub tells_none : newest_line index.lines ≡ None → (rows : Rows) → rows ≡ [] → (other : Index)
        → slice_get parts.catalog.hosts place ≡ Some other → TellsBase (told parts.journal) place Incr other.lines rows
    tells_none none rows is other e =
        let same = same_index (slice_get parts.catalog.hosts place) other index e there in
        subst (λ (l : Option Line). TellsNewest (told parts.journal) place l rows)
        (sym (ap (λ (i : Index). newest_line i.lines) same ∙ none)) is
