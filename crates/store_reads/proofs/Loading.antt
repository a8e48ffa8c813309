-- Which backup's view is kept after a load, and that the tables that it reads aren't damaged.
use Rattle.std.specs.Prelude.{◌≡◌, ◌==◌, ◌&&◌, ◌<◌, ℕ, zero, suc, ◌-◌, take, get_or, Bool, true, false, List, [], ◌∷◌, drop, length, Option, Some, None, Result, Ok, Err, OnOk, IfOk, IfErr, slice_get, if◌then◌else◌}
use Rattle.std.specs.Cmp.{first_so, second_so}
use Rattle.std.proofs.Common.{refl, sym, ap, ◌∙◌, subst, arith}
use Rattle.std.proofs.lemmas.List.{take_rest}
use Rattle.std.proofs.lemmas.Option.{slice_get_read}
use borrow.Author.Tests.{eqb-true, eq-eqb}
use Rattle.disk_trait.specs.declared.disk.Disk.{Ghosts as DiskGhosts}
use Rattle.disk_trait.specs.Files.{Files}
use Rattle.pool_name.specs.declared.namer.Namer.{Ghosts as NamerGhosts}
use Rattle.backup_rules.specs.declared.lines.Line.{Line}
use Rattle.backup_index.specs.Index.{Index}
use Rattle.journal_view.specs.View.{told}
use Rattle.merge_view.specs.Views.{Rows}
use Rattle.backup_views.specs.declared.fault.ViewFault.{ViewFault}
use Rattle.backup_views.specs.declared.fault.ViewFault.TheVariants as V
use Rattle.backup_views.specs.declared.kept.KeptView.{KeptView}
use Rattle.backup_views.specs.declared.kept.Views.{Views}
use Rattle.backup_views.specs.FaultLaws.{first_damaged}
use Rattle.backup_views.specs.Faults.{IsDamaged, SaysOneDamaged}
use Rattle.backup_views.specs.Kept.{Trees, IsKept, HasView, AreRowsRead, rows_of}
use Rattle.backup_views.specs.Stored.{IsTableFile, AreTables, TellsTree, tree_from, depth_of}
use Rattle.backup_views.specs.StoredLaws.{table_at}
use Rattle.pool_changes.specs.Listed.{index_of}
use Rattle.ref_counts.specs.Stored.{Backup as StoredBackup, StoredHost, stored}
use Rattle.office_catalog.specs.Known.{host_named, names_of}
use Rattle.office_model.specs.Office.{Office, Host, Backup, Names}
use Rattle.office_model.specs.Meaning.{◌>>=◌}
use Rattle.office_model.specs.Parts.{lines_of, backup_of}
use Rattle.office_model.specs.declared.refusal.BrokenRule.TheVariants.{NoHost, NoBackup}
use Rattle.office_model.specs.PairsLaws.{pair_at}
use Rattle.office_files.specs.Pooled.{contents_of, IsListed}
use Rattle.office_files.specs.Hosts.{index_of_host, IsShown, StandsHost}
use Rattle.store_parts.specs.declared.parts.StoreParts.{StoreParts}
use Rattle.store_parts.specs.Held.{IsViewOf, IsKeptView}
use Rattle.store_parts.specs.States.{slots, IsRunning}
use Rattle.store_parts.specs.Runs.{Reads}
use Rattle.store_parts.specs.KnownOffice.{named_host, no_named}
use Rattle.store_reads.specs.CatalogLaws.{IsLineFound, index_there, host_of_index, line_there, line_at_backup, no_backup, backup_there, backup_at_there, backup_of_at, backup_of_none, one_backup}
use Rattle.store_reads.specs.TreeLaws.{tables_from, tree_from_at, first_dropped}
use Rattle.store_parts.specs.Refusals.{refusal_of_view, IsReadFault}
use Rattle.store_reads.specs.Shown.{ShowsBackup, IsLoaded, IsTreeAt}
use Rattle.store_reads.specs.Told.{IsPlaced, ReadsTree, TellsBackup, IsTableFault, IsBackupFault}
use Rattle.office_model.specs.declared.refusal.Refusal.{Refusal}
use Rattle.office_model.specs.declared.refusal.Refusal.TheVariants.{Broken, Halted, DiskFault, Damaged, Memory}

-- ---- the trees that are told of

-- these rows for one backup, and others for all others
trees_with : ℕ → ℕ → Rows → Rows → Trees
trees_with place number rows others h n = if (h == place) && (n == number) then rows else others

trees_there : (place number h n : ℕ) (rows others : Rows) → h ≡ place → n ≡ number → trees_with place number rows others h n ≡ rows
unfolding trees_with
trees_there place number h n rows others e f = λ i. if (eq-eqb h place e i) && (eq-eqb n number f i) then rows else others

-- what is kept is told of if its rows are these, where it is of this backup
trees_kept : (kept : Option KeptView) (place number : ℕ) (rows : Rows)
    → ((k : KeptView) → kept ≡ Some k → k.host ≡ place → k.number ≡ number → k.rows ≡ rows)
    → IsKept kept (trees_with place number rows (rows_of kept))
unfolding trees_with
trees_kept None place number rows same = tt
trees_kept (Some kept) place number rows same = step ((kept.host == place) && (kept.number == number)) refl
  where
    step : (b : Bool) → ((kept.host == place) && (kept.number == number)) ≡ b → kept.rows ≡ (if b then rows else kept.rows)
    step true e =
        same kept refl (eqb-true kept.host place (first_so (kept.host == place) (kept.number == number) e))
        (eqb-true kept.number number (second_so (kept.host == place) (kept.number == number) e))
    step false e = refl

same_line : {A : Type 0} {a b : A} (o : Option A) → o ≡ Some a → o ≡ Some b → a ≡ b
same_line o e f = cc

pub on_ok : {A E P Q : Type 0} (result : Result A E) → (P → Q) → OnOk result P → OnOk result Q
on_ok (Ok x) f p = f p
on_ok (Err e) f p = tt

pub if_ok : {A E : Type 0} {P Q : A → Type 0} (result : Result A E) → ((x : A) → P x → Q x) → IfOk result P → IfOk result Q
if_ok (Ok x) f p = f x p
if_ok (Err e) f p = tt

pub if_err : {A E : Type 0} {P Q : E → Type 0} (result : Result A E) → ((e : E) → P e → Q e) → IfErr result P → IfErr result Q
if_err (Ok x) f p = tt
if_err (Err e) f p = f e p

there : {A : Type 0} (xs : List A) (i : ℕ) → i < length xs → (x : A) × (slice_get xs i ≡ Some x)
there [] i h = absurd (omega arith)
there (x ∷ xs) zero h = (x, refl)
there (x ∷ xs) (suc i) h = there xs i (omega arith)

-- the index that was read
pub index_read : (hosts read : List Index) (place : ℕ) (index : Index) → read ≡ hosts → place < length hosts
    → index ≡ get_or read place index
    → slice_get hosts place ≡ Some index
index_read hosts read place index same inside is =
    slice_get_read hosts (length hosts) place index refl inside (is ∙ ap (λ (hs : List Index). get_or hs place index) same)

module _ {D N S : Type 0} {d : DiskGhosts D} {n : NamerGhosts N S} where
  -- the host of an index, in an office that the parts are at work with
  record IsHostOf (parts : StoreParts D N S d n) (office : Office) (names : Names) (at : IsRunning parts office names) (place : ℕ)
      (index : Index) : Type 0 where
    pub host : Host
    pub of : StoredHost
    pub is_host : slice_get office.hosts place ≡ Some host
    pub is_shown : slice_get at.shown place ≡ Some of
    pub stands : StandsHost (IsListed (index_of (slots parts))) (contents_of at.all) at.all place host of
    pub lines : index.lines ≡ lines_of host.backups

  host_of : (parts : StoreParts D N S d n) (office : Office) (names : Names) (at : IsRunning parts office names) (place : ℕ) (index : Index)
      → slice_get parts.catalog.hosts place ≡ Some index → IsHostOf parts office names at place index
  host_of parts office names at place index e =
      let w = host_of_index parts.catalog office.durable at.catalog_is place index e in
      let pair = pair_at (StandsHost (IsListed (index_of (slots parts)))
      (contents_of at.all) at.all) office.hosts at.shown at.stands.hosts place w.0 w.1 in
      record {
        host = w.0;
        of = pair.0;
        is_host = w.1;
        is_shown = pair.1;
        stands = pair.2;
        lines = ap (λ (i : Index). i.lines) w.2;
      }

  -- two backups of one number of a host are one
  same_backup : (parts : StoreParts D N S d n) (office : Office) (names : Names) (at : IsRunning parts office names) (place : ℕ)
      (host : Host)
      → slice_get office.hosts place ≡ Some host → (i j : ℕ) (a b : Backup) → slice_get host.backups i ≡ Some a
      → slice_get host.backups j ≡ Some b → a.line.number ≡ b.line.number → i ≡ j
  same_backup parts office names at place host is_host i j a b e f same =
      one_backup host.next host.backups i j a b (at.sound.hosts.each place host is_host).backups.numbered e f same

  -- the rows of a view of this host and number are those at its place
  view_rows : (parts : StoreParts D N S d n) (office : Office) (names : Names) (at : IsRunning parts office names) (place : ℕ) (host : Host)
      (of : StoredHost) (line : ℕ) (backup : Backup) (rows : StoredBackup) (kept : KeptView)
      → slice_get office.hosts place ≡ Some host → slice_get at.shown place ≡ Some of → slice_get host.backups line ≡ Some backup
      → slice_get of.backups line ≡ Some rows → IsViewOf kept office.hosts at.shown → kept.host ≡ place → kept.number ≡ backup.line.number
      → kept.rows ≡ rows.rows
  view_rows parts office names at place host of line backup rows kept is_host is_shown is_backup is_rows view p q =
      let hosts : view.host ≡ host = same_line (slice_get office.hosts place)
      (ap (slice_get office.hosts) (sym p) ∙ view.is_host) is_host in
      let lists : view.of ≡ of = same_line (slice_get at.shown place)
      (ap (slice_get at.shown) (sym p) ∙ view.is_shown) is_shown in
      let index : view.index ≡ line =
      same_backup parts office names at place host is_host view.index line view.backup backup
      (ap (λ (h : Host). slice_get h.backups view.index) (sym hosts) ∙ view.is_backup) is_backup (view.number ∙ q) in
      let one : view.stored ≡ rows =
      same_line (slice_get of.backups line) ((λ i. slice_get (sym lists i).backups (sym index i)) ∙ view.is_stored) is_rows in
      view.rows ∙ ap (λ (s : StoredBackup). s.rows) one

  -- ---- a load

  module _ (old : StoreParts D N S d n) (place line : ℕ) (index : Index) (lines : List Line)
      (is_index : slice_get old.catalog.hosts place ≡ Some index) (lines_are : lines ≡ drop line index.lines) where
    -- what a load promises of the view that it keeps
    abbrev Keeps : Views → Type 0
    Keeps views =
        (all : Files) (tables : List Rows) (trees : Trees) → told old.journal ≡ Some all → AreTables all place lines tables
        → ((first : Line) → slice_get lines 0 ≡ Some first → trees place first.number ≡ tree_from lines tables)
        → IsKept old.views.kept trees → IsKept views.kept trees

    pub loaded_view : (views : Views) (asked : Line) → slice_get index.lines line ≡ Some asked → HasView views place asked.number
        → Keeps views → (office : Office) (names : Names) → (at : IsRunning old office names)
        → IsKeptView views.kept office.hosts at.shown
    loaded_view views asked is_asked has keeps office names at =
        let h = host_of old office names at place index is_index in
        let b = line_there h.host.backups line asked (ap (λ (ls : List Line). slice_get ls line) (sym h.lines) ∙ is_asked) in
        let s = pair_at (λ i. IsShown (IsListed (index_of (slots old)))
        (contents_of at.all)) h.host.backups h.of.backups h.stands.shown line b.0 b.1 in
        let here : lines ≡ drop line (lines_of h.host.backups) = lines_are ∙ ap (drop line) h.lines in
        let trees = trees_with place asked.number s.0.rows (rows_of old.views.kept) in
        let number : b.0.line.number ≡ asked.number = ap (λ (l : Line). l.number) b.2 in
        let tables : AreTables at.all place lines (drop line (stored h.of.backups)) =
        subst (λ (ls : List Line). AreTables at.all place ls (drop line (stored h.of.backups))) (sym here)
        (tables_from (IsListed (index_of (slots old))) (contents_of at.all) at.all place h.host h.of h.stands line) in
        let tree : tree_from lines (drop line (stored h.of.backups)) ≡ s.0.rows =
        ap (λ (ls : List Line). tree_from ls (drop line (stored h.of.backups))) here
        ∙ tree_from_at (IsListed (index_of (slots old))) (contents_of at.all) at.all place h.host h.of h.stands line s.0 s.1 in
        let first : (first : Line) → slice_get lines 0 ≡ Some first → first ≡ asked =
        λ first e. same_line (slice_get lines 0) e
        (ap (λ (ls : List Line). slice_get ls 0) lines_are ∙ first_dropped line index.lines ∙ is_asked) in
        let before : IsKept old.views.kept trees =
        trees_kept old.views.kept place asked.number s.0.rows
        (λ k e p q. view_rows old office names at place h.host h.of line b.0 s.0 k h.is_host h.is_shown b.1 s.1
        (subst (λ (kept : Option KeptView). IsKeptView kept office.hosts at.shown) e at.view) p (q ∙ sym number)) in
        let now : IsKept (Some has.kept) trees =
        subst (λ (kept : Option KeptView). IsKept kept trees) has.is
        (keeps at.all (drop line (stored h.of.backups)) trees at.told_is tables
        (λ l e. trees_there place asked.number place l.number s.0.rows (rows_of old.views.kept) refl
        (ap (λ (l : Line). l.number) (first l e)) ∙ sym tree)
        before) in
        subst (λ (kept : Option KeptView). IsKeptView kept office.hosts at.shown) (sym has.is) (record {
          host = h.host;
          of = h.of;
          index = line;
          backup = b.0;
          stored = s.0;
          is_host = ap (slice_get office.hosts) has.host_is ∙ h.is_host;
          is_shown = ap (slice_get at.shown) has.host_is ∙ h.is_shown;
          is_backup = b.1;
          is_stored = s.1;
          number = number ∙ sym has.number_is;
          rows = now ∙ trees_there place asked.number has.kept.host has.kept.number s.0.rows
              (rows_of old.views.kept) has.host_is has.number_is;
        })

    -- the tables that it reads aren't damaged
    pub load_fault : (fault : ViewFault) → SaysOneDamaged (told old.journal) place (take (depth_of lines) lines) fault
        → IsReadFault old (refusal_of_view fault)
    load_fault V.Disk says = tt
    load_fault V.Memory says = tt
    load_fault (V.Damaged file found) says = λ office names at.
        let said = first_damaged (told old.journal) place (depth_of lines) lines (V.Damaged file found) says file found refl in
        let h = host_of old office names at place index is_index in
        let tables : AreTables at.all place lines (drop line (stored h.of.backups)) =
        subst (λ (ls : List Line). AreTables at.all place ls (drop line (stored h.of.backups))) (sym (lines_are ∙ ap (drop line) h.lines))
        (tables_from (IsListed (index_of (slots old))) (contents_of at.all) at.all place h.host h.of h.stands line) in
        let table = table_at at.all place said.index lines (drop line (stored h.of.backups)) said.line tables said.is_line in
        said.no_table.none table.0
        (subst (λ (found : Option (List ℕ)). IsTableFile table.0 found)
        (sym (said.no_table.there at.all at.told_is ∙ ap at.all said.file_is)) table.1.file)

    -- the tree that they tell is that of the backup
    pub tree_is : (tree : Rows)
        → ((all : Files) (tables : List Rows) → told old.journal ≡ Some all → AreTables all place lines tables
        → tree ≡ tree_from lines tables)
        → IsTreeAt old place line tree
    tree_is tree tells office names at of stored_there is_shown is_stored =
        let h = host_of old office names at place index is_index in
        let same : h.of ≡ of = same_line (slice_get at.shown place) h.is_shown is_shown in
        let here : lines ≡ drop line (lines_of h.host.backups) = lines_are ∙ ap (drop line) h.lines in
        let tables : AreTables at.all place lines (drop line (stored h.of.backups)) =
        subst (λ (ls : List Line). AreTables at.all place ls (drop line (stored h.of.backups))) (sym here)
        (tables_from (IsListed (index_of (slots old))) (contents_of at.all) at.all place h.host h.of h.stands line) in
        tells at.all (drop line (stored h.of.backups)) at.told_is tables
        ∙ ap (λ (ls : List Line). tree_from ls (drop line (stored h.of.backups))) here
        ∙ tree_from_at (IsListed (index_of (slots old))) (contents_of at.all) at.all place h.host h.of h.stands line stored_there
        (ap (λ (o : StoredHost). slice_get o.backups line) same ∙ is_stored)

  -- the same of lines that were read
  module _ (old : StoreParts D N S d n) (place line : ℕ) (index : Index) (read : List Line)
      (is_index : slice_get old.catalog.hosts place ≡ Some index) (read_is : read ≡ index.lines) where
    abbrev given_lines : List Line
    given_lines = take (length read - line) (drop line read)

    pub lines_are : given_lines ≡ drop line index.lines
    lines_are = take_rest read line ∙ ap (drop line) read_is

    first_is : (asked : Line) → slice_get index.lines line ≡ Some asked → slice_get given_lines 0 ≡ Some asked
    first_is asked e = ap (λ (ls : List Line). slice_get ls 0) lines_are ∙ first_dropped line index.lines ∙ e

    abbrev Has : Views → Type 0
    Has views = (first : Line) → slice_get given_lines 0 ≡ Some first → HasView views place first.number

    pub read_view : (views : Views) → line < length index.lines → Has views
        → Keeps old place line index given_lines is_index lines_are views
        → (office : Office) (names : Names) → (at : IsRunning old office names) → IsKeptView views.kept office.hosts at.shown
    read_view views inside has keeps =
        let asked = there index.lines line inside in
        loaded_view old place line index given_lines is_index lines_are views asked.0 asked.1 (has asked.0 (first_is asked.0 asked.1)) keeps

    pub read_has : (views : Views) → Has views → (other : Index) (asked : Line) → slice_get old.catalog.hosts place ≡ Some other
        → slice_get other.lines line ≡ Some asked → HasView views place asked.number
    read_has views has other asked e f =
        has asked (first_is asked
        (ap (λ (i : Index). slice_get i.lines line) (same_line (slice_get old.catalog.hosts place) is_index e) ∙ f))

    pub read_fault : (fault : ViewFault) → SaysOneDamaged (told old.journal) place (take (depth_of given_lines) given_lines) fault
        → IsReadFault old (refusal_of_view fault)
    read_fault = load_fault old place line index given_lines is_index lines_are

    pub read_tree_is : (tree : Rows)
        → ((all : Files) (tables : List Rows) → told old.journal ≡ Some all → AreTables all place given_lines tables
        → tree ≡ tree_from given_lines tables)
        → IsTreeAt old place line tree
    read_tree_is = tree_is old place line index given_lines is_index lines_are

    -- so they are in the catalog
    in_catalog : (other : Index) → slice_get old.catalog.hosts place ≡ Some other → given_lines ≡ drop line other.lines
    in_catalog other e =
        lines_are ∙ ap (λ (i : Index). drop line i.lines) (same_line (slice_get old.catalog.hosts place) is_index e)

    pub read_rows : (rows : Rows)
        → ((all : Files) → told old.journal ≡ Some all → AreRowsRead old.views all place given_lines rows)
        → (other : Index) (all : Files) → slice_get old.catalog.hosts place ≡ Some other → told old.journal ≡ Some all
        → AreRowsRead old.views all place (drop line other.lines) rows
    read_rows rows read other all e is =
        subst (λ (ls : List Line). AreRowsRead old.views all place ls rows) (in_catalog other e) (read all is)

    pub read_tells : (rows : Rows) → ((all : Files) → told old.journal ≡ Some all → TellsTree all place given_lines rows)
        → (other : Index) (all : Files) → slice_get old.catalog.hosts place ≡ Some other → told old.journal ≡ Some all
        → TellsTree all place (drop line other.lines) rows
    read_tells rows tells other all e is =
        subst (λ (ls : List Line). TellsTree all place ls rows) (in_catalog other e) (tells all is)

    pub read_damaged : (fault : ViewFault) → SaysOneDamaged (told old.journal) place (take (depth_of given_lines) given_lines) fault
        → IsTableFault old place line (refusal_of_view fault)
    read_damaged V.Disk says = tt
    read_damaged V.Memory says = tt
    read_damaged (V.Damaged file found) says = λ other e.
        subst (λ (ls : List Line). IsDamaged (told old.journal) place (take (depth_of ls) ls) file found) (in_catalog other e)
        (says file found refl)

  -- ---- a load by name and number

  module _ (old new : StoreParts D N S d n) (name : List ℕ) (number place line : ℕ)
      (is_place : Some place ≡ host_named (names_of old.catalog.hosts) name)
      (is_line : IsLineFound old.catalog place number (Some line)) where
    pub loaded_backup : Reads old new
        → ((index : Index) (asked : Line) → slice_get old.catalog.hosts place ≡ Some index → slice_get index.lines line ≡ Some asked
        → HasView new.views place asked.number)
        → IsLoaded old name number (rows_of new.views.kept)
    loaded_backup reads has office names at =
        let h = named_host office.durable old.catalog name place at.catalog_is is_place in
        let b = backup_there old.catalog office.durable at.catalog_is place h.host h.is_host number line is_line in
        let at_b = backup_at_there old.catalog office.durable at.catalog_is place h.host h.is_host number line is_line in
        let index = index_there old.catalog office.durable at.catalog_is place h.host h.is_host in
        let kept = has (index_of_host place h.host) b.backup.line index (line_at_backup h.host.backups line b.backup b.there) in
        let view : IsViewOf kept.kept office.hosts at.shown =
        subst (λ (k : Option KeptView). IsKeptView k office.hosts at.shown) kept.is (reads.view office names at) in
        let stands = at.stands.hosts.each kept.kept.host view.host view.of view.is_host view.is_shown in
        let is = stands.shown.each view.index view.backup view.stored view.is_backup view.is_stored in
        let hosts : view.host ≡ h.host =
        same_line (slice_get office.hosts place) (ap (slice_get office.hosts) (sym kept.host_is) ∙ view.is_host) h.is_host in
        let there : slice_get h.host.backups view.index ≡ Some view.backup =
        ap (λ (h : Host). slice_get h.backups view.index) (sym hosts) ∙ view.is_backup in
        let places : view.index ≡ line =
        same_backup old office names at place h.host h.is_host view.index line view.backup b.backup there b.there
        (view.number ∙ kept.number_is) in
        let backups : view.backup ≡ b.backup =
        same_line (slice_get h.host.backups line) (ap (slice_get h.host.backups) (sym places) ∙ there) b.there in
        let rows : rows_of new.views.kept ≡ view.stored.rows = ap rows_of kept.is ∙ view.rows in
        subst (λ (rs : Rows). ShowsBackup (IsListed (index_of (slots old))) (contents_of at.all) office.hosts name number rs) (sym rows)
        (record {
          backup = b.backup;
          is = backup_of_at office.hosts name place number h.host h.judged ∙ ap (λ j. j >>= λ x. Ok x.value) at_b;
          tree = ap (λ (x : Backup). x.tree) (sym backups) ∙ is.tree;
          whole = is.whole;
          told = is.told;
        })

  -- the tree of the backup itself
  module _ (old : StoreParts D N S d n) (name : List ℕ) (number place line : ℕ)
      (is_place : Some place ≡ host_named (names_of old.catalog.hosts) name)
      (is_line : IsLineFound old.catalog place number (Some line)) where
    pub loaded_tree : (tree : Rows) → IsTreeAt old place line tree → IsLoaded old name number tree
    loaded_tree tree is office names at =
        let h = named_host office.durable old.catalog name place at.catalog_is is_place in
        let b = backup_there old.catalog office.durable at.catalog_is place h.host h.is_host number line is_line in
        let at_b = backup_at_there old.catalog office.durable at.catalog_is place h.host h.is_host number line is_line in
        let shown =
        pair_at (StandsHost (IsListed (index_of (slots old))) (contents_of at.all) at.all) office.hosts at.shown
        at.stands.hosts place h.host h.is_host in
        let s =
        pair_at (λ i. IsShown (IsListed (index_of (slots old))) (contents_of at.all)) h.host.backups shown.0.backups
        shown.2.shown line b.backup b.there in
        let rows : tree ≡ s.0.rows = is office names at shown.0 s.0 shown.1 s.1 in
        subst (λ (rs : Rows). ShowsBackup (IsListed (index_of (slots old))) (contents_of at.all) office.hosts name number rs) (sym rows)
        (record {
          backup = b.backup;
          is = backup_of_at office.hosts name place number h.host h.judged ∙ ap (λ j. j >>= λ x. Ok x.value) at_b;
          tree = s.2.tree;
          whole = s.2.whole;
          told = s.2.told;
        })

  -- ---- whatever the files hold

  module _ (old : StoreParts D N S d n) (name : List ℕ) (number place line : ℕ) (within : place < length old.catalog.hosts)
      (is_place : Some place ≡ host_named (names_of old.catalog.hosts) name)
      (is_line : IsLineFound old.catalog place number (Some line)) where
    abbrev placed : IsPlaced old.catalog name number
    placed = let w = there old.catalog.hosts place within in record {
      place = place;
      index = w.0;
      line = line;
      is_host = is_place;
      is_index = w.1;
      is_line = is_line w.0 w.1;
    }

    pub reads_tree : (rows : Rows)
        → ((index : Index) (all : Files) → slice_get old.catalog.hosts place ≡ Some index → told old.journal ≡ Some all
        → AreRowsRead old.views all place (drop line index.lines) rows)
        → ReadsTree old name number rows
    reads_tree rows read = record { placed = placed; read = λ all is. read placed.index all placed.is_index is }

    pub tells_backup : (rows : Rows)
        → ((index : Index) (all : Files) → slice_get old.catalog.hosts place ≡ Some index → told old.journal ≡ Some all
        → TellsTree all place (drop line index.lines) rows)
        → TellsBackup old name number rows
    tells_backup rows tells = record { placed = placed; tells = λ all is. tells placed.index all placed.is_index is }

    pub backup_fault : (refusal : Refusal) → IsTableFault old place line refusal → IsBackupFault old name number refusal
    backup_fault (Damaged file found) fault = record { placed = placed; damaged = fault placed.index placed.is_index }
    backup_fault (Broken rule) fault = tt
    backup_fault Halted fault = tt
    backup_fault DiskFault fault = tt
    backup_fault Memory fault = tt

  -- ---- refused by name or number

  module _ (old : StoreParts D N S d n) (name : List ℕ) (number : ℕ) where
    pub refused_host : None ≡ host_named (names_of old.catalog.hosts) name → (office : Office) (names : Names) → IsRunning old office names
        → backup_of office.hosts name number ≡ Err NoHost
    refused_host e office names at =
        backup_of_none office.hosts name number NoHost (no_named office.durable old.catalog name at.catalog_is e)

    pub refused_number : (place : ℕ) → Some place ≡ host_named (names_of old.catalog.hosts) name → IsLineFound old.catalog place number None
        → (office : Office) (names : Names) → IsRunning old office names → backup_of office.hosts name number ≡ Err NoBackup
    refused_number place e found office names at =
        let h = named_host office.durable old.catalog name place at.catalog_is e in
        backup_of_at office.hosts name place number h.host h.judged
        ∙ ap (λ j. j >>= λ x. Ok x.value) (no_backup old.catalog office.durable at.catalog_is place h.host h.is_host number found)
