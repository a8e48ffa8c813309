-- Contents that counts have and the index lacks.
--     none_of_all, some_of_all      what the first of them says
--     never_unlisting      the files of an office list each
use Rattle.std.specs.Prelude.{◌||◌, is_some, slice_get, cond, if◌then◌else◌, length}
use Rattle.std.specs.List.{AllByRecursion}
use Rattle.std.specs.Option.{unwrap_or}
use Rattle.std.specs.Ordering.{eq_by_cmp}
use Rattle.std.specs.FinMap.Entries.{find}
use Rattle.std.proofs.Common.{◌≡◌, ◌⊎◌, ℕ, zero, suc, ◌+◌, ◌<◌, Bool, true, false, List, [], ◌∷◌, Option, None, Some, refl, sym, ap, ◌∙◌, subst, inl, inr, arith}
use Rattle.std.proofs.lemmas.Bool.{true≢false, false≢true}
use Rattle.disk_trait.specs.declared.ids.PoolId.{PoolId}
use Rattle.disk_trait.specs.declared.ids.FileId.{FileId}
use Rattle.disk_trait.specs.declared.ids.FileId.TheVariants.{PoolIndex, Partial as PartialFile}
use Rattle.disk_trait.specs.declared.disk.Disk.{Ghosts as DiskGhosts}
use Rattle.disk_trait.specs.Files.{Files, lists}
use Rattle.intent_journal.specs.declared.journal.Journal.{Journal}
use Rattle.journal_view.specs.Found.{ListsSeen, is_seen}
use Rattle.journal_view.specs.View.{told}
use Rattle.intent_journal.specs.ChangesLaws.{either}
use Rattle.pool_index.specs.declared.item.IndexItem.{IndexItem}
use Rattle.pool_index.specs.Items.{id_cmp}
use Rattle.pool_index.specs.Index.{Index, TellsIn, TellsIndex}
use Rattle.pool_changes.specs.Slots.{Slots}
use Rattle.pool_changes.specs.SlotsLaws.{same_id, id_itself, equal_of}
use Rattle.pool_changes.specs.Listed.{index_of}
use Rattle.merge_view.specs.Views.{Rows}
use Rattle.stored_trees.specs.Occurrences.{names, occurrences}
use Rattle.ref_counts.specs.Layout.{IsItem}
use Rattle.ref_counts.specs.Numbers.{Items, number}
use Rattle.ref_counts.specs.Stored.{Backup as StoredBackup, StoredHost, IsNamed, AreAllTold, IsNamedParked, IsNamedIn}
use Rattle.ref_counts.specs.StoredLaws.{named_in_from_total}
use Rattle.host_counts.specs.Held.{AreTold}
use Rattle.pool_store.specs.Opened.{Opens}
use Rattle.office_catalog.specs.Known.{Known}
use Rattle.office_catalog.specs.Held.{HoldsCatalog}
use Rattle.office_model.specs.Office.{Durable, Host, Partial}
use Rattle.office_files.specs.Hosts.{IsShown, StandsPartial, StandsHost}
use Rattle.office_files.specs.OneLaws.{one_listing}
use Rattle.office_model.specs.Pairs.{AtEachPair}
use Rattle.office_model.specs.PairsLaws.{other_at}
use Rattle.office_files.specs.Pooled.{contents_of, IsListed}
use Rattle.office_files.specs.Stands.{StandsFor}
use Rattle.office_changes.specs.BridgeLaws.{shown_whole, shown_told}
use Rattle.office_changes.specs.Commits.{is_named}
use Rattle.office_changes.specs.PoolLaws.{named_given}
use Rattle.store_parts.specs.Held.{AreCountsOf}
use Rattle.store_opening.specs.Recovers.{Holds}
use Rattle.store_opening.specs.Unlisted.{first_unlisted, first_of_all, AreAllListed, index_file_of, IsUnlisting}
use Rattle.store_opening.proofs.HostTotals.{counts_of_office}

tells_any : (in_one_file : Bool) (index : Index) (files : Files) → TellsIn in_one_file index files → TellsIndex index files
tells_any true index files tells = inl tells
tells_any false index files tells = inr tells

-- ---- numbers

number_here : (item : PoolId × ℕ) (items : Items) (id : PoolId) → eq_by_cmp id_cmp id item.0 ≡ true → number (item ∷ items) id ≡ item.1
number_here item items id same = ap (λ (b : Bool). unwrap_or (cond b (Some item.1) (find id_cmp id items)) 0) same

number_behind : (item : PoolId × ℕ) (items : Items) (id : PoolId) → eq_by_cmp id_cmp id item.0 ≡ false
    → number (item ∷ items) id ≡ number items id
number_behind item items id other = ap (λ (b : Bool). unwrap_or (cond b (Some item.1) (find id_cmp id items)) 0) other

more_behind : (item : PoolId × ℕ) (items : Items) (id : PoolId) → 0 < item.1 → 0 < number items id → 0 < number (item ∷ items) id
more_behind item items id here behind = elim (either (eq_by_cmp id_cmp id item.0)) [
  | inl same ↦ subst (λ (n : ℕ). 0 < n) (sym (number_here item items id same)) here
  | inr other ↦ subst (λ (n : ℕ). 0 < n) (sym (number_behind item items id other)) behind
]

none_of : (item : Option IndexItem) → is_some item ≡ false → item ≡ None
none_of None e = refl
none_of (Some item) e = absurd (true≢false e)

some_same : (a b : PoolId) → Some a ≡ Some b → a ≡ b
some_same a b e = cc

none_some : (id : PoolId) → None ≡ Some id → ⊥
none_some id e = absurd cc

-- ---- the first that isn't listed

module _ (index : Index) where
  -- one that is listed is passed
  pub unlisted_next : (items rest : Items) (item : PoolId × ℕ) (all : Items) → items ≡ item ∷ rest → is_some (index item.0) ≡ true
      → first_unlisted index items ≡ first_unlisted index all → first_unlisted index rest ≡ first_unlisted index all
  unlisted_next items rest item all is listed before =
      let step : first_unlisted index (item ∷ rest) ≡ first_unlisted index rest = rw listed refl in
      sym step ∙ sym (ap (λ (i : Items). first_unlisted index i) is) ∙ before

  none_unlisted : (items : Items) → first_unlisted index items ≡ None → (id : PoolId) → 0 < number items id → is_some (index id) ≡ true
  none_unlisted [] none id some = absurd (omega (arith, some))
  none_unlisted (item ∷ items) none id some = elim (either (is_some (index item.0))) [
    | inl listed ↦ elim (either (eq_by_cmp id_cmp id item.0)) [
      | inl same ↦ subst (λ (x : PoolId). is_some (index x) ≡ true) (sym (same_id id item.0 (equal_of (id_cmp id item.0) same))) listed
      | inr other ↦
          none_unlisted items (sym (rw listed refl) ∙ none) id (subst (λ (n : ℕ). 0 < n) (number_behind item items id other) some)
    ]
    | inr out ↦ absurd (none_some item.0 (sym none ∙ rw out refl))
  ]

  some_unlisted : (items : Items) → AllByRecursion IsItem items → (id : PoolId) → first_unlisted index items ≡ Some id
      → (0 < number items id) × (index id ≡ None)
  some_unlisted [] each id e = absurd (none_some id e)
  some_unlisted (item ∷ items) each id e = elim (either (is_some (index item.0))) [
    | inl listed ↦
        let rest = some_unlisted items each.1 id (sym (rw listed refl) ∙ e) in (more_behind item items id each.0.some rest.0, rest.1)
    | inr out ↦
        let same : item.0 ≡ id = some_same item.0 id (sym (rw out refl) ∙ e) in (
          subst (λ (x : PoolId). 0 < number (item ∷ items) x) same
              (subst (λ (n : ℕ). 0 < n) (sym (number_here item items item.0 (id_itself item.0))) each.0.some),
          subst (λ (x : PoolId). index x ≡ None) same (none_of (index item.0) out),
        )
  ]

  none_is : (found : Option PoolId) → is_some found ≡ false → found ≡ None
  none_is None e = refl
  none_is (Some id) e = absurd (true≢false e)

  pub none_of_all : (counts : List Items) → first_of_all index counts ≡ None → AreAllListed index counts
  none_of_all [] none host items e = absurd cc
  none_of_all (first ∷ counts) none host items e = elim (either (is_some (first_unlisted index first))) [
    | inl found ↦
        let clash : first_unlisted index first ≡ None = sym (rw found refl) ∙ none in
        absurd (false≢true (sym (ap is_some clash) ∙ found))
    | inr all ↦ step host e (none_is (first_unlisted index first) all) (none_of_all counts (sym (rw all refl) ∙ none))
  ]
    where
      step : (host : ℕ) → slice_get (first ∷ counts) host ≡ Some items → first_unlisted index first ≡ None → AreAllListed index counts
          → (id : PoolId) → 0 < number items id → is_some (index id) ≡ true
      step zero at here rest id some =
          let same : first ≡ items = cc in none_unlisted first here id (subst (λ (i : Items). 0 < number i id) (sym same) some)
      step (suc host) at here rest id some = rest host items at id some

  -- a content of a host's counts that isn't listed
  pub record IsOne (counts : List Items) (id : PoolId) : Type 0 where
    pub host : ℕ
    pub items : Items
    pub at : slice_get counts host ≡ Some items
    pub some : 0 < number items id
    pub unlisted : index id ≡ None

  abbrev AreAllItems : List Items → Type 0
  AreAllItems counts = (host : ℕ) (items : Items) → slice_get counts host ≡ Some items → AllByRecursion IsItem items

  pub some_of_all : (counts : List Items) → AreAllItems counts → (id : PoolId) → first_of_all index counts ≡ Some id → IsOne counts id
  some_of_all [] each id e = absurd (none_some id e)
  some_of_all (first ∷ counts) each id e = elim (either (is_some (first_unlisted index first))) [
    | inl found ↦
        let here = some_unlisted first (each zero first refl) id (sym (rw found refl) ∙ e) in
        record { host = zero; items = first; at = refl; some = here.0; unlisted = here.1 }
    | inr all ↦
        let rest = some_of_all counts (λ host items at. each (suc host) items at) id (sym (rw all refl) ∙ e) in
        record { host = suc rest.host; items = rest.items; at = rest.at; some = rest.some; unlisted = rest.unlisted }
  ]

-- ---- the files of an office

either_more : (b : Bool) (n : ℕ) → 0 < (if b then 1 else 0) + n → (b ≡ true) ⊎ (0 < n)
either_more true n some = inl refl
either_more false n some = inr (omega (arith, some))

named_rows : (id : PoolId) (rows : Rows) → 0 < occurrences id rows → is_named id rows ≡ true
named_rows id [] some = absurd (omega (arith, some))
named_rows id (row ∷ rows) some = elim (either_more (names id row.1) (occurrences id rows) some) [
  | inl here ↦ rw here refl
  | inr behind ↦ step (names id row.1) (named_rows id rows behind)
]
  where
    step : (b : Bool) → is_named id rows ≡ true → (b || is_named id rows) ≡ true
    step true e = refl
    step false e = e

-- what a backup names is given
named_listed : (given : PoolId → Type 0) (told : PoolId → List ℕ) (id : PoolId) (backups : List StoredBackup)
    → AreAllTold given told backups → IsNamed id backups → given id
named_listed given told id [] all named = absurd named
named_listed given told id (backup ∷ backups) all (inl here) = named_given given told id backup.rows all.0 (named_rows id backup.rows here)
named_listed given told id (backup ∷ backups) all (inr behind) = named_listed given told id backups all.1 behind

-- and so what a partial names
parked_listed : (given : PoolId → Type 0) (told : PoolId → List ℕ) (id : PoolId) (number : ℕ) (partial : Option Partial) (rows : Option Rows)
    (found : Option (List ℕ)) → StandsPartial given told number partial rows found → IsNamedParked id rows → given id
parked_listed given told id number partial None found is named = absurd named
parked_listed given told id number None (Some rows) found is named = absurd is
parked_listed given told id number (Some partial) (Some rows) found is named = named_given given told id rows is.told (named_rows id rows named)

pub never_unlisting : (digest_of : List ℕ → List ℕ) (all : Files) (office : Durable) (file : FileId) (found : Option (List ℕ))
    → StandsFor digest_of all office → IsUnlisting all file found → ⊥
never_unlisting digest_of all office file found s u =
    false≢true (sym (ap is_some u.unlisted) ∙ sym (ap is_some listing) ∙ listed)
  where
    listing : s.index u.id ≡ index_of u.slots u.id
    listing = one_listing s.index (index_of u.slots) all s.stands.index_told
        (tells_any u.in_one_file (index_of u.slots) all u.pool.tells) u.id

    are : AreCountsOf u.counts s.shown
    are = counts_of_office digest_of s.index s.shown all office s.stands u.catalog u.counts u.holds u.counted

    of : (b : StoredHost) × (slice_get s.shown u.host ≡ Some b)
    of = other_at u.counts s.shown u.host u.items are.counted u.at

    host : (h : Host) × (slice_get office.hosts u.host ≡ Some h)
    host = other_at s.shown office.hosts u.host of.0 (sym s.stands.hosts.counted) of.1

    stands : StandsHost (IsListed s.index) (contents_of all) all u.host host.0 of.0
    stands = s.stands.hosts.each u.host host.0 of.0 host.1 of.1

    pairs : AtEachPair (λ i. IsShown (IsListed s.index) (contents_of all)) host.0.backups of.0.backups
    pairs = stands.shown

    named : IsNamedIn u.id of.0
    named =
        named_in_from_total u.id of.0
        (shown_whole (IsListed s.index) (contents_of all) s.stands.one host.0.backups of.0.backups pairs)
        (subst (λ (n : ℕ). 0 < n) (are.each u.host u.items of.0 u.at of.1 u.id) u.some)

    listed : is_some (s.index u.id) ≡ true
    listed = elim named [
      | inl in_backup ↦ named_listed (IsListed s.index) (contents_of all) u.id of.0.backups
          (shown_told (IsListed s.index) (contents_of all) s.stands.one host.0.backups of.0.backups pairs) in_backup
      | inr in_partial ↦ parked_listed (IsListed s.index) (contents_of all) u.id u.host host.0.partial of.0.partial
          (all (PartialFile u.host)) stands.partial in_partial
    ]

pub unlisting_known : {D : Type 0} {d : DiskGhosts D} (digest_of : List ℕ → List ℕ) (journal : Journal D d) (a b : Durable)
    → Holds digest_of journal a b → (file : FileId) (found : Option (List ℕ))
    → ((all : Files) → told journal ≡ Some all → IsUnlisting all file found) → ⊥
unlisting_known digest_of journal a b holds file found unlisting = elim holds.either [
  | inl s ↦ never_unlisting digest_of holds.all a file found s (unlisting holds.all holds.told_is)
  | inr s ↦ never_unlisting digest_of holds.all b file found s (unlisting holds.all holds.told_is)
]

-- ---- a refusal

pub index_file_seen : (in_one_file : Bool) (id : PoolId) → is_seen (index_file_of in_one_file id) ≡ true
index_file_seen true id = refl
index_file_seen false id = refl

pub an_unlisted : (in_one_file : Bool) (slots : Slots) (catalog : Known) (counts items : List Items) (id : PoolId) (list : List FileId)
    (has : Bool) (all : Files) (file : FileId) (found : Option (List ℕ)) → items ≡ counts
    → first_of_all (index_of slots) items ≡ Some id → has ≡ lists list PoolIndex → ListsSeen list all
    → file ≡ index_file_of has id → found ≡ all (index_file_of has id) → Opens in_one_file slots all → HoldsCatalog all catalog
    → AreTold all (length catalog.hosts) counts → IsUnlisting all file found
an_unlisted in_one_file slots catalog counts items id list has all file found same first has_is seen file_is is pool holds counted =
    let one = some_of_all (index_of slots) counts
    (λ host i at. (counted.each host i at).has.fits.each) id
    (subst (λ (c : List Items). first_of_all (index_of slots) c ≡ Some id) same first) in
    let there : has ≡ is_some (all PoolIndex) = has_is ∙ seen.each PoolIndex refl in
    record {
      in_one_file = in_one_file;
      slots = slots;
      catalog = catalog;
      counts = counts;
      pool = pool;
      holds = holds;
      counted = counted;
      host = one.host;
      items = one.items;
      at = one.at;
      id = id;
      some = one.some;
      unlisted = one.unlisted;
      file_is = file_is ∙ ap (λ (b : Bool). index_file_of b id) there;
      is = is ∙ ap all (sym file_is);
    }
