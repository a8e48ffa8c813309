-- Tables that lines call for and files lack.
--     noted_table, noted_next, noted_lists      a set of the tables among files
--     all_there, a_gap      what the first that is missing says
--     missing_known      none is missing among the files of an office
use Rattle.std.specs.Prelude.{◌||◌, if◌then◌else◌, is_some, slice_get, cond}
use Rattle.std.specs.BTreeMap.{is_at}
use Rattle.std.specs.List.{list_any}
use Rattle.std.specs.BTreeSet.{BTreeSet, IsEmpty, contains, Updates}
use Rattle.std.proofs.Common.{◌≡◌, ℕ, zero, suc, ◌+◌, Bool, true, false, List, [], ◌∷◌, Option, None, Some, refl, sym, ap, ◌∙◌, subst, inl, inr, arith}
use Rattle.std.proofs.lemmas.Bool.{false≢true, true≢false}
use Rattle.disk_trait.specs.declared.ids.FileId.{FileId}
use Rattle.disk_trait.specs.declared.ids.FileId.TheVariants as F
use Rattle.disk_trait.specs.declared.disk.Disk.{Ghosts as DiskGhosts}
use Rattle.disk_trait.specs.Names.{is_same_file}
use Rattle.disk_trait.specs.NamesLaws.{same_file, is_same_file-itself}
use Rattle.disk_trait.specs.Order.{file_cmp}
use Rattle.disk_trait.specs.OrderLaws.{file_eq_same}
use Rattle.disk_trait.specs.Files.{Files, lists}
use Rattle.backup_rules.specs.declared.lines.Line.{Line}
use Rattle.backup_index.specs.Index.{Index}
use Rattle.intent_journal.specs.declared.journal.Journal.{Journal}
use Rattle.intent_journal.specs.ChangesLaws.{either}
use Rattle.journal_view.specs.Found.{ListsSeen}
use Rattle.journal_view.specs.View.{told}
use Rattle.merge_view.specs.Views.{Rows}
use Rattle.ref_counts.specs.Stored.{StoredHost, stored}
use Rattle.office_model.specs.Office.{Durable, Host, Backup}
use Rattle.office_model.specs.Parts.{lines_of}
use Rattle.office_files.specs.Hosts.{index_of_host, StandsHost}
use Rattle.office_files.specs.Layouts.{IsTableFile}
use Rattle.office_model.specs.PairsLaws.{other_at}
use Rattle.office_files.specs.Pooled.{contents_of, IsListed}
use Rattle.office_files.specs.Stands.{StandsFor}
use Rattle.office_catalog.specs.Known.{Known}
use Rattle.office_catalog.specs.Held.{HoldsCatalog}
use Rattle.store_parts.specs.KnownOffice.{index_at, known_of_office, one_catalog}
use Rattle.store_opening.specs.declared.fault.OpenRefusal.TheVariants.{Foreign}
use Rattle.store_opening.specs.Recovers.{Holds}
use Rattle.store_opening.specs.Tables.{is_table, noted, first_gap, first_of_hosts, HasTables, IsMissingTable}

-- ---- the set

same_swap : (a b : FileId) → is_same_file a b ≡ is_same_file b a
same_swap a b = elim (either (is_same_file a b)) [
  | inl e ↦
      e ∙ sym (subst (λ (x : FileId). is_same_file x a ≡ true) (same_file a b e) (is_same_file-itself a))
  | inr e ↦ elim (either (is_same_file b a)) [
    | inl f ↦ absurd (false≢true (sym e ∙ subst (λ (x : FileId). is_same_file x b ≡ true) (same_file b a f) (is_same_file-itself b)))
    | inr f ↦ e ∙ sym f
  ]
]

cond_or : (b x : Bool) → cond b true x ≡ (b || x)
cond_or true x = refl
cond_or false x = refl

-- a set of none
pub none_in : (tables : BTreeSet FileId) (table : FileId) → IsEmpty tables → contains file_cmp tables table ≡ false
none_in tables table empty = ap (list_any (is_at (file_cmp table))) empty

-- a file more
pub noted_table : (old new : BTreeSet FileId) (file table : FileId) → Updates file_cmp old new file true
    → contains file_cmp new table ≡ (is_same_file table file || contains file_cmp old table)
noted_table old new file table updates =
    updates.0 table ∙ cond_or (is_at (file_cmp file) table) (contains file_cmp old table)
    ∙ ap (λ (b : Bool). b || contains file_cmp old table) (file_eq_same file table ∙ same_swap file table)

-- a file that is none
pub other_table : (host number : ℕ) (file : FileId) → is_table file ≡ false → is_same_file (F.Table host number) file ≡ false
unfolding is_same_file
other_table host number F.Head e = refl
other_table host number F.Intent e = refl
other_table host number F.Gate e = refl
other_table host number (F.Host other) e = refl
other_table host number (F.Table other n) e = absurd (true≢false e)
other_table host number (F.Counts other) e = refl
other_table host number F.PoolIndex e = refl
other_table host number (F.PoolBucket byte) e = refl
other_table host number (F.Partial other) e = refl
other_table host number (F.Pool id) e = refl
other_table host number (F.Stage n) e = refl

pub none_noted : (host number : ℕ) (file : FileId) (before : Bool) → is_table file ≡ false
    → before ≡ (is_same_file (F.Table host number) file || before)
none_noted host number file before e = ap (λ (b : Bool). b || before) (sym (other_table host number file e))

pub noted_next : (all files rest : List FileId) (file table : FileId) (before was now : Bool) → files ≡ file ∷ rest
    → noted all before table ≡ noted files was table → now ≡ (is_same_file table file || was)
    → noted all before table ≡ noted rest now table
noted_next all files rest file table before was now is e n =
    e ∙ ap (λ (fs : List FileId). noted fs was table) is ∙ ap (λ (b : Bool). noted rest b table) (sym n)

or_true : (b : Bool) → (b || true) ≡ true
or_true true = refl
or_true false = refl

noted_before : (files : List FileId) (table : FileId) → noted files true table ≡ true
noted_before [] table = refl
noted_before (file ∷ files) table =
    ap (λ (b : Bool). noted files b table) (or_true (is_same_file table file)) ∙ noted_before files table

pub noted_lists : (files : List FileId) (table : FileId) → noted files false table ≡ lists files table
noted_lists [] table = refl
noted_lists (file ∷ files) table = step (is_same_file table file) (noted_lists files table)
  where
    step : (b : Bool) → noted files false table ≡ lists files table
        → noted files (b || false) table ≡ (if b then true else lists files table)
    step true rest = noted_before files table
    step false rest = rest

-- ---- the first that isn't there

same_some : (a b : FileId) → Some a ≡ Some b → a ≡ b
same_some a b e = cc

none_some : (file : FileId) → None ≡ Some file → ⊥
none_some file e = absurd cc

none_is : (gap : Option FileId) → is_some gap ≡ false → gap ≡ None
none_is None e = refl
none_is (Some file) e = absurd (true≢false e)

module _ (has : FileId → Bool) where
  none_gap : (host : ℕ) (lines : List Line) → first_gap has host lines ≡ None → (i : ℕ) (line : Line) → slice_get lines i ≡ Some line
      → has (F.Table host line.number) ≡ true
  none_gap host [] none i line at = absurd cc
  none_gap host (first ∷ lines) none i line at = elim (either (has (F.Table host first.number))) [
    | inl there ↦ step i at there (none_gap host lines (sym (rw there refl) ∙ none))
    | inr out ↦ absurd (none_some (F.Table host first.number) (sym none ∙ rw out refl))
  ]
    where
      step : (i : ℕ) → slice_get (first ∷ lines) i ≡ Some line → has (F.Table host first.number) ≡ true
          → ((i : ℕ) (line : Line) → slice_get lines i ≡ Some line → has (F.Table host line.number) ≡ true)
          → has (F.Table host line.number) ≡ true
      step zero at there rest =
          let same : first ≡ line = cc in subst (λ (l : Line). has (F.Table host l.number) ≡ true) same there
      step (suc i) at there rest = rest i line at

  pub none_of_hosts : (hosts : List Index) → first_of_hosts has hosts ≡ None → (host : ℕ) (index : Index) → slice_get hosts host ≡ Some index
      → (i : ℕ) (line : Line) → slice_get index.lines i ≡ Some line → has (F.Table index.host line.number) ≡ true
  none_of_hosts [] none host index at = absurd cc
  none_of_hosts (first ∷ hosts) none host index at = elim (either (is_some (first_gap has first.host first.lines))) [
    | inl found ↦
        let clash : first_gap has first.host first.lines ≡ None = sym (rw found refl) ∙ none in
        absurd (false≢true (sym (ap is_some clash) ∙ found))
    | inr all ↦ step host at (none_is (first_gap has first.host first.lines) all) (none_of_hosts hosts (sym (rw all refl) ∙ none))
  ]
    where
      step : (host : ℕ) → slice_get (first ∷ hosts) host ≡ Some index → first_gap has first.host first.lines ≡ None
          → ((host : ℕ) (index : Index) → slice_get hosts host ≡ Some index → (i : ℕ) (line : Line) → slice_get index.lines i ≡ Some line
          → has (F.Table index.host line.number) ≡ true)
          → (i : ℕ) (line : Line) → slice_get index.lines i ≡ Some line → has (F.Table index.host line.number) ≡ true
      step zero at here rest i line is =
          let same : first ≡ index = cc in
          subst (λ (x : Index). has (F.Table x.host line.number) ≡ true) same
          (none_gap first.host first.lines here i line (subst (λ (x : Index). slice_get x.lines i ≡ Some line) (sym same) is))
      step (suc host) at here rest i line is = rest host index at i line is

  -- one that is there is passed
  pub gap_next : (host : ℕ) (lines rest : List Line) (line : Line) (all : List Line) → lines ≡ line ∷ rest
      → has (F.Table host line.number) ≡ true → first_gap has host lines ≡ first_gap has host all
      → first_gap has host rest ≡ first_gap has host all
  gap_next host lines rest line all is there before =
      let step : first_gap has host (line ∷ rest) ≡ first_gap has host rest = rw there refl in
      sym step ∙ sym (ap (λ (ls : List Line). first_gap has host ls) is) ∙ before

  record IsGap (host : ℕ) (lines : List Line) (file : FileId) : Type 0 where
    pub i : ℕ
    pub line : Line
    pub is_line : slice_get lines i ≡ Some line
    pub file_is : file ≡ F.Table host line.number
    pub lacks : has file ≡ false

  some_gap : (host : ℕ) (lines : List Line) (file : FileId) → first_gap has host lines ≡ Some file → IsGap host lines file
  some_gap host [] file e = absurd (none_some file e)
  some_gap host (first ∷ lines) file e = elim (either (has (F.Table host first.number))) [
    | inl there ↦
        let rest = some_gap host lines file (sym (rw there refl) ∙ e) in
        record { i = suc rest.i; line = rest.line; is_line = rest.is_line; file_is = rest.file_is; lacks = rest.lacks }
    | inr out ↦
        let same : F.Table host first.number ≡ file = same_some (F.Table host first.number) file (sym (rw out refl) ∙ e) in
        record { i = zero; line = first; is_line = refl; file_is = sym same; lacks = ap has (sym same) ∙ out }
  ]

  pub record IsOneOf (hosts : List Index) (file : FileId) : Type 0 where
    pub host : ℕ
    pub index : Index
    pub i : ℕ
    pub line : Line
    pub is_host : slice_get hosts host ≡ Some index
    pub is_line : slice_get index.lines i ≡ Some line
    pub file_is : file ≡ F.Table index.host line.number
    pub lacks : has file ≡ false

  pub some_of_hosts : (hosts : List Index) (file : FileId) → first_of_hosts has hosts ≡ Some file → IsOneOf hosts file
  some_of_hosts [] file e = absurd (none_some file e)
  some_of_hosts (first ∷ hosts) file e = elim (either (is_some (first_gap has first.host first.lines))) [
    | inl found ↦
        let here = some_gap first.host first.lines file (sym (rw found refl) ∙ e) in
        record {
          host = zero;
          index = first;
          i = here.i;
          line = here.line;
          is_host = refl;
          is_line = here.is_line;
          file_is = here.file_is;
          lacks = here.lacks;
        }
    | inr all ↦
        let rest = some_of_hosts hosts file (sym (rw all refl) ∙ e) in
        record {
          host = suc rest.host;
          index = rest.index;
          i = rest.i;
          line = rest.line;
          is_host = rest.is_host;
          is_line = rest.is_line;
          file_is = rest.file_is;
          lacks = rest.lacks;
        }
  ]

none_there : (bytes : Option (List ℕ)) → is_some bytes ≡ false → bytes ≡ None
none_there None e = refl
none_there (Some bytes) e = absurd (true≢false e)

module _ (has : FileId → Bool) (list : List FileId) (known : Known) (hosts : List Index)
    (has_is : (host number : ℕ) → has (F.Table host number) ≡ lists list (F.Table host number)) (same : hosts ≡ known.hosts) (all : Files)
    (seen : ListsSeen list all) where
  there : (host number : ℕ) → has (F.Table host number) ≡ is_some (all (F.Table host number))
  there host number = has_is host number ∙ seen.each (F.Table host number) refl

  pub all_there : first_of_hosts has hosts ≡ None → HasTables known all
  all_there none = λ host index at i line is.
      sym (there index.host line.number)
      ∙ none_of_hosts has hosts none host index (subst (λ (h : List Index). slice_get h host ≡ Some index) (sym same) at) i line is

  pub a_gap : (file : FileId) → first_of_hosts has hosts ≡ Some file → HoldsCatalog all known → IsMissingTable all file None
  a_gap file first holds =
      let one = some_of_hosts has hosts file first in
      record {
        known = known;
        holds = holds;
        host = one.host;
        index = one.index;
        i = one.i;
        line = one.line;
        is_host = subst (λ (h : List Index). slice_get h one.host ≡ Some one.index) same one.is_host;
        is_line = one.is_line;
        file_is = one.file_is;
        none = refl;
        absent = ap all one.file_is
            ∙ none_there (all (F.Table one.index.host one.line.number))
            (sym (there one.index.host one.line.number) ∙ ap has (sym one.file_is) ∙ one.lacks);
      }

-- as a refusal says it
pub gap_as : (file other : FileId) (found : Option (List ℕ)) (all : Files) → Foreign file None ≡ Foreign other found
    → IsMissingTable all file None → IsMissingTable all other found
gap_as file other found all e missing =
    let one : file ≡ other = cc in
    let none : None ≡ found = cc in
    subst (λ (f : FileId). IsMissingTable all f found) one
    (subst (λ (o : Option (List ℕ)). IsMissingTable all file o) none missing)

-- ---- the files of an office

line_at : (backups : List Backup) (i : ℕ) (line : Line) → slice_get (lines_of backups) i ≡ Some line
    → (b : Backup) × (slice_get backups i ≡ Some b) × (b.line ≡ line)
line_at [] i line e = absurd cc
line_at (backup ∷ backups) zero line e = let same : backup.line ≡ line = cc in (backup, refl, same)
line_at (backup ∷ backups) (suc i) line e = line_at backups i line e

some_none : (bytes : List ℕ) → None ≡ Some bytes → ⊥
some_none bytes e = absurd cc

never_missing : (digest_of : List ℕ → List ℕ) (all : Files) (office : Durable) (file : FileId) (found : Option (List ℕ))
    → StandsFor digest_of all office → IsMissingTable all file found → ⊥
never_missing digest_of all office file found s m = false≢true (ap is_some (sym m.absent) ∙ ap is_some (ap all named ∙ table.is))
  where
    known : m.known ≡ known_of_office office
    known = one_catalog digest_of s.index s.shown all office s.stands m.known m.holds

    place : (h : Host) × (slice_get office.hosts m.host ≡ Some h) × (m.index ≡ index_of_host (0 + m.host) h)
    place = index_at 0 office.hosts m.host m.index (subst (λ (k : Known). slice_get k.hosts m.host ≡ Some m.index) known m.is_host)

    backup : (b : Backup) × (slice_get place.0.backups m.i ≡ Some b) × (b.line ≡ m.line)
    backup = line_at place.0.backups m.i m.line (subst (λ (x : Index). slice_get x.lines m.i ≡ Some m.line) place.2 m.is_line)

    of : (b : StoredHost) × (slice_get s.shown m.host ≡ Some b)
    of = other_at office.hosts s.shown m.host place.0 s.stands.hosts.counted place.1

    stands : StandsHost (IsListed s.index) (contents_of all) all m.host place.0 of.0
    stands = s.stands.hosts.each m.host place.0 of.0 place.1 of.1

    rows : (r : Rows) × (slice_get (stored of.0.backups) m.i ≡ Some r)
    rows = other_at place.0.backups (stored of.0.backups) m.i backup.0 stands.tables.counted backup.1

    table : IsTableFile rows.0 (all (F.Table m.host backup.0.line.number))
    table = stands.tables.each m.i backup.0 rows.0 backup.1 rows.1

    number : m.index.host ≡ m.host
    number = ap (λ (x : Index). x.host) place.2 ∙ omega arith

    named : file ≡ F.Table m.host backup.0.line.number
    named =
        m.file_is ∙ ap (λ (h : ℕ). F.Table h m.line.number) number
        ∙ ap (λ (l : Line). F.Table m.host l.number) (sym backup.2)

pub missing_known : {D : Type 0} {d : DiskGhosts D} (digest_of : List ℕ → List ℕ) (journal : Journal D d) (a b : Durable)
    → Holds digest_of journal a b → (file : FileId) (found : Option (List ℕ))
    → ((all : Files) → told journal ≡ Some all → IsMissingTable all file found) → ⊥
missing_known digest_of journal a b holds file found missing = elim holds.either [
  | inl s ↦ never_missing digest_of holds.all a file found s (missing holds.all holds.told_is)
  | inr s ↦ never_missing digest_of holds.all b file found s (missing holds.all holds.told_is)
]
