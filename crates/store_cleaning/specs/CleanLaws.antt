-- A cleaning of a bucket, by names as a pool does it and by contents as the model does.
--     opened_has now content, protected_in office content      an open session has it;  a cleaning of the office keeps it
--     sessions_hold, hosts_count      a content is in an open session exactly if its name is claimed;  a name is counted by some host
--         exactly if the tables of all of them, or their partials, name it
--     AreKept counts slots contents protected      a live name is kept exactly if its content is protected
--     cleaned_index      the index after the cleaning
--     cleaned_number      how many names gain the mark, lose it or leave is how many contents do
--     none_cleaned, some_cleaned      if there are none, the pool stays;  if there are some, it changes
use Rattle.std.specs.Prelude.{◌≡◌, ℕ, zero, suc, ◌+◌, ◌<◌, ◌/◌, ◌==◌, nat_lt, Bool, true, false, cond, not, ◌||◌, List, [], ◌∷◌, length, map, Option, Some, None, is_some, slice_get, slice_index, if◌then◌else◌}
use Rattle.std.specs.declared.cmp.Ordering.TheVariants.{Equal}
use Rattle.std.specs.Ordering.{eq_by_cmp}
use Rattle.std.specs.Cmp.{Equal-is}
use Rattle.std.specs.Cmp.Lexicographic.{bytes_decides, nat_list_cmp_total}
use Rattle.std.specs.FinMap.Entries.{find}
use Rattle.std.specs.List.{filter, list_any, cons_option}
use Rattle.std.specs.Option.{option_and_then, option_map}
use Rattle.std.proofs.Common.{refl, sym, ap, ◌∙◌, subst, arith}
use Rattle.std.proofs.lemmas.Bool.{false≢true}
use Rattle.std.proofs.lemmas.Bool.Decides.{nat_tests}
use Rattle.std.proofs.lemmas.Cmp.{tied_itself}
use Rattle.ordered_lists.specs.Order.{IsInOrder}
use Rattle.disk_trait.specs.declared.ids.PoolId.{PoolId}
use Rattle.disk_trait.specs.declared.ids.FileId.TheVariants.{Pool as PoolFile}
use Rattle.disk_trait.specs.NamesLaws.{is_same_file-itself}
use Rattle.attr_records.specs.Items.{Tree, some_bytes}
use Rattle.attr_tables.specs.Records.{is_same_id as is_content_id}
use Rattle.attr_tables.specs.RecordLaws.{same_id as same_content_id, id_itself as content_id_itself}
use Rattle.merge_view.specs.Views.{Rows}
use Rattle.stored_trees.specs.Resolved.{bytes_of, resolved, AreTold, IsToldContent, IsOneToOne}
use Rattle.stored_trees.specs.Occurrences.{is_content, occurrences}
use Rattle.stored_trees.specs.OccurrenceLaws.{occurrences-resolved}
use Rattle.stored_trees.specs.NodeLaws.{alike}
use Rattle.pool_index.specs.declared.item.IndexItem.{IndexItem}
use Rattle.pool_index.specs.Items.{id_cmp, is_same_id, byte_of}
use Rattle.pool_index.specs.ItemLaws.{id_total, one_id}
use Rattle.pool_changes.specs.declared.slot.Slot.{Slot}
use Rattle.pool_changes.specs.declared.slot.Slot.TheVariants.{Live, Staged, Doomed}
use Rattle.pool_changes.specs.declared.listing.BucketItem.{BucketItem}
use Rattle.pool_changes.specs.Slots.{Slots, is_given, claims_of}
use Rattle.pool_changes.specs.SlotsLaws.{same_id}
use Rattle.pool_changes.specs.Listed.{item_of, index_of, bucket_item_of, bucket_item_at, IsBucketOf}
use Rattle.ref_counts.specs.Cleaning.{next_mark}
use Rattle.ref_counts.specs.Numbers.{Items, total as total_named}
use Rattle.ref_counts.specs.Stored.{StoredHost, counted}
use Rattle.nightly_clean.specs.Cleanings.{is_named, is_protected as is_kept, is_wanted, wanted_ids, live_as, cleaned_slot, cleaned as cleaned_names}
use Rattle.open_sessions.specs.declared.sessions.OpenDump.{OpenDump}
use Rattle.open_sessions.specs.declared.sessions.OpenRestore.{OpenRestore}
use Rattle.open_sessions.specs.declared.sessions.Sessions.{Sessions}
use Rattle.open_sessions.specs.declared.readers.OpenReader.{OpenReader}
use Rattle.open_sessions.specs.Opened.{IsDump, IsRestore, IsReader, Staging, AreSessions, base_of, claims_in, claims_in_dumps, claims_in_restores, claims_of_reader, claims_in_readers}
use Rattle.pool_fate.specs.declared.fate.Fate.{Fate}
use Rattle.pool_fate.specs.declared.fate.Fate.TheVariants.{Stays, Gains, Loses, Leaves}
use Rattle.office_model.specs.Office.{Office, Volatile, Dump, Restore, Reader, in_dumps, in_bases, in_restores, in_readers}
use Rattle.office_model.specs.Places.{Differ}
use Rattle.office_model.specs.Pool.{Pool, byte_cmp, mark_of, is_same_content, holds, kept_as, fate, cleaned, fated}
use Rattle.pool_fate.specs.Fates.{fate_of, mark_after, is_same_fate}
use Rattle.office_model.specs.UsedNames.{Among}
use Rattle.office_model.specs.events.Clean.{in_bucket, is_protected}
use Rattle.office_model.specs.events.Stats.{total}
use Rattle.office_model.specs.laws.PoolLaws.{byte_exact}
use Rattle.office_model.specs.Pairs.{AtEachPair}
use Rattle.office_files.specs.Pooled.{IsListed, IsPool}
use Rattle.office_changes.specs.BridgeLaws.{total_of, holds_times, first_pair, later_pairs}
use Rattle.office_changes.specs.CleanLaws.{with_mark, cleaned_item, IsCleanedIndex}
use Rattle.store_parts.specs.Held.{AreCounts, AreCountsOf}
use Rattle.store_parts.specs.ListLaws.{same_totals, entries_differ, entry_found, entry_place, keyed, keyed_differ, keyed_found, keyed_place, kept_were, kept_stay, kept_differ, total-map, total-each, mapped, mapped_there}

-- ---- numbers above 0

is_above : (n : ℕ) → 0 < n → nat_lt 0 n ≡ true
is_above n h = grind (arith, nat_tests)

pub above_sum : (m n : ℕ) → nat_lt 0 (m + n) ≡ (nat_lt 0 m || nat_lt 0 n)
above_sum zero n = let same : 0 + n ≡ n = omega arith in ap (nat_lt 0) same
above_sum (suc m) n = is_above (suc m + n) (omega arith) ∙ sym (ap (λ (b : Bool). b || nat_lt 0 n) (is_above (suc m) (omega arith)))

-- ---- what open sessions hold

-- an open dump's tree or base, or an open restore's tree; or an open reader gives it
abbrev pub opened_has : Volatile → List ℕ → Bool
opened_has now content =
    in_dumps now.dumps content || (in_bases now.dumps content || (in_restores now.restores content || in_readers now.readers content))

-- what a cleaning of this office keeps
abbrev pub protected_in : Office → List ℕ → Bool
protected_in office = is_protected office.hosts office.dumps office.restores office.readers

-- two tests of each of two parts
mixed : (a b p q : Bool) → ((a || p) || (b || q)) ≡ ((a || b) || (p || q))
mixed true b p q = refl
mixed false true true q = refl
mixed false true false q = refl
mixed false false p q = refl

assoc : (a b c : Bool) → (a || (b || c)) ≡ ((a || b) || c)
assoc true b c = refl
assoc false b c = refl

-- bytes are a content exactly if there are some, and they are the same
bytes_are : (bytes content : List ℕ) → is_same_content content (some_bytes bytes) ≡ true → bytes ≡ content
bytes_are [] content e = absurd cc
bytes_are (byte ∷ bytes) content e = sym ((bytes_decides content (byte ∷ bytes)).0 e)

are_bytes : (bytes content : List ℕ) → bytes ≡ content → 0 < length content → is_same_content content (some_bytes bytes) ≡ true
are_bytes [] content same some = absurd (let none : length content ≡ 0 = ap length (sym same) in omega (arith, none, some))
are_bytes (byte ∷ bytes) content same some = (bytes_decides content (byte ∷ bytes)).1 (sym same)

one_above : (b : Bool) → b ≡ nat_lt 0 (if b then 1 else 0)
one_above true = refl
one_above false = refl

module _ (given : PoolId → Type 0) (contents : PoolId → List ℕ) (one : IsOneToOne given contents) (id : PoolId) (g : given id) where
  rows_hold : (rows : Rows) → AreTold given contents rows → holds (resolved contents rows) (contents id) ≡ nat_lt 0 (occurrences id rows)
  rows_hold rows told =
      holds_times (contents id) (resolved contents rows) ∙ sym (ap (nat_lt 0) (occurrences-resolved given contents one id rows g told))

  tree_holds : (tree : Tree) (rows : Rows) → tree ≡ resolved contents rows → AreTold given contents rows
      → holds tree (contents id) ≡ nat_lt 0 (occurrences id rows)
  tree_holds tree rows same told = ap (λ t. holds t (contents id)) same ∙ rows_hold rows told

  dumps_hold : (dumps : List Dump) (sessions : List OpenDump) → AtEachPair (λ i. IsDump given contents) dumps sessions
      → (in_dumps dumps (contents id) || in_bases dumps (contents id)) ≡ nat_lt 0 (claims_in_dumps sessions id)
  dumps_hold [] [] pairs = refl
  dumps_hold [] (s ∷ sessions) pairs = absurd (let same = pairs.counted in omega arith)
  dumps_hold (dump ∷ dumps) [] pairs = absurd (let same = pairs.counted in omega arith)
  dumps_hold (dump ∷ dumps) (s ∷ sessions) pairs =
      let is = first_pair (λ i. IsDump given contents) dump dumps s sessions pairs in
      let rest = dumps_hold dumps sessions (later_pairs (λ i. IsDump given contents) dump dumps s sessions pairs) in
      let tree = tree_holds dump.tree s.tree is.tree is.tree_rows.told in
      let base = tree_holds dump.base (base_of s) is.base is.base_rows.told in
      let m = occurrences id s.tree in
      let n = occurrences id (base_of s) in
      mixed (holds dump.tree (contents id)) (holds dump.base (contents id)) (in_dumps dumps (contents id)) (in_bases dumps (contents id))
      ∙ (λ i. (tree i || base i) || rest i)
      ∙ sym (above_sum (m + n) (claims_in_dumps sessions id)
      ∙ ap (λ (b : Bool). b || nat_lt 0 (claims_in_dumps sessions id)) (above_sum m n))

  restores_hold : {S : Type 0} (took_in : S → List ℕ → Type 0) (restores : List Restore) (sessions : List (OpenRestore S))
      → AtEachPair (λ i. IsRestore took_in given contents) restores sessions
      → in_restores restores (contents id) ≡ nat_lt 0 (claims_in_restores sessions id)
  restores_hold took_in [] [] pairs = refl
  restores_hold took_in [] (s ∷ sessions) pairs = absurd (let same = pairs.counted in omega arith)
  restores_hold took_in (restore ∷ restores) [] pairs = absurd (let same = pairs.counted in omega arith)
  restores_hold took_in (restore ∷ restores) (s ∷ sessions) pairs =
      let is = first_pair (λ i. IsRestore took_in given contents) restore restores s sessions pairs in
      let rest = restores_hold took_in restores sessions
      (later_pairs (λ i. IsRestore took_in given contents) restore restores s sessions pairs) in
      let tree = tree_holds restore.tree s.whole is.tree is.whole.told in
      (λ i. tree i || rest i) ∙ sym (above_sum (occurrences id s.whole) (claims_in_restores sessions id))

  -- a told content is that of the id exactly if it is of the id
  content_is : (size : ℕ) (held : Option PoolId) → IsToldContent given contents size held
      → is_same_content (contents id) (some_bytes (bytes_of contents held)) ≡ nat_lt 0 (if is_content id held then 1 else 0)
  content_is size None told = refl
  content_is size (Some other) told =
      alike (is_same_content (contents id) (some_bytes (contents other))) (is_content_id other id)
      (λ e. subst (λ (x : PoolId). is_content_id other x ≡ true) (one.one other id told.0 g (bytes_are (contents other) (contents id) e))
      (content_id_itself other))
      (λ e. are_bytes (contents other) (contents id) (ap contents (same_content_id other id e)) (one.some id g))
      ∙ one_above (is_content_id other id)

  readers_hold : {S : Type 0} (took_in : S → List ℕ → Type 0) (readers : List Reader) (opened : List (OpenReader S))
      → AtEachPair (λ i. IsReader took_in given contents) readers opened
      → in_readers readers (contents id) ≡ nat_lt 0 (claims_in_readers opened id)
  readers_hold took_in [] [] pairs = refl
  readers_hold took_in [] (held ∷ opened) pairs = absurd (let same = pairs.counted in omega arith)
  readers_hold took_in (reader ∷ readers) [] pairs = absurd (let same = pairs.counted in omega arith)
  readers_hold took_in (reader ∷ readers) (held ∷ opened) pairs =
      let is = first_pair (λ i. IsReader took_in given contents) reader readers held opened pairs in
      let rest = readers_hold took_in readers opened (later_pairs (λ i. IsReader took_in given contents) reader readers held opened pairs) in
      let here = ap (λ (bytes : List ℕ). is_same_content (contents id) (some_bytes bytes)) is.content
      ∙ content_is held.size held.content is.told in
      (λ i. here i || rest i) ∙ sym (above_sum (claims_of_reader held id) (claims_in_readers opened id))

  pub sessions_hold : {S : Type 0} (took_in : S → List ℕ → Type 0) (staging : Staging) (now : Volatile) (sessions : Sessions S)
      → AreSessions took_in given contents staging now sessions
      → opened_has now (contents id) ≡ nat_lt 0 (claims_in sessions id)
  sessions_hold took_in staging now sessions are =
      let dumps = dumps_hold now.dumps sessions.dumps.items are.dumps in
      let restores = restores_hold took_in now.restores sessions.restores.items are.restores in
      let readers = readers_hold took_in now.readers sessions.readers.items.items are.readers in
      let d = claims_in_dumps sessions.dumps.items id in
      let r = claims_in_restores sessions.restores.items id in
      let last = claims_in_readers sessions.readers.items.items id in
      assoc (in_dumps now.dumps (contents id)) (in_bases now.dumps (contents id))
      (in_restores now.restores (contents id) || in_readers now.readers (contents id))
      ∙ assoc (in_dumps now.dumps (contents id) || in_bases now.dumps (contents id)) (in_restores now.restores (contents id))
      (in_readers now.readers (contents id))
      ∙ (λ i. (dumps i || restores i) || readers i)
      ∙ sym (above_sum (d + r) last ∙ ap (λ (b : Bool). b || nat_lt 0 last) (above_sum d r))

-- ---- what the counts of hosts name

pub hosts_count : (id : PoolId) (counts : List Items) (shown : List StoredHost) → AreCountsOf counts shown
    → is_named counts id ≡ nat_lt 0 (total_of id shown)
hosts_count id [] [] pairs = refl
hosts_count id [] (of ∷ shown) pairs = absurd (let same = pairs.counted in omega arith)
hosts_count id (items ∷ counts) [] pairs = absurd (let same = pairs.counted in omega arith)
hosts_count id (items ∷ counts) (of ∷ shown) pairs =
    let here = first_pair (λ host. AreCounts) items counts of shown pairs id in
    let rest = hosts_count id counts shown (later_pairs (λ host. AreCounts) items counts of shown pairs) in
    (λ i. nat_lt 0 (here i) || rest i) ∙ sym (above_sum (total_named id (counted of)) (total_of id shown))

-- ---- one name

-- a live name is kept exactly if its content is protected
abbrev pub AreKept : List Items → Slots → (PoolId → List ℕ) → (List ℕ → Bool) → Type 0
AreKept counts slots contents protected = (id : PoolId) (item : BucketItem) → bucket_item_of id (slots id) ≡ Some item
    → is_kept counts item ≡ protected (contents id)

-- what is claimed or named by counts is what backups and partials hold, or sessions
pub kept_by : (hosted opened claimed named : Bool) → hosted ≡ named → opened ≡ claimed → (claimed || named) ≡ (hosted || opened)
kept_by hosted opened true true h o = sym (ap (λ (b : Bool). b || opened) h)
kept_by hosted opened true false h o = sym (λ i. h i || o i)
kept_by hosted opened false true h o = sym (ap (λ (b : Bool). b || opened) h)
kept_by hosted opened false false h o = sym (λ i. h i || o i)

-- the item of a live name, as the index has it
pub listed_item : (id : PoolId) (slot : Option Slot) (item : BucketItem) → bucket_item_of id slot ≡ Some item
    → (item_of id slot ≡ Some (record { id = id; size = item.size; mark = item.mark })) × (item.id ≡ id)
listed_item id None item e = absurd (cc)
listed_item id (Some (Live size mark claims)) item e =
    let same : record { id = id; size = size; mark = mark; claimed = nat_lt 0 claims } ≡ item = cc in
    (λ i. Some (record { id = id; size = (same i).size; mark = (same i).mark }), sym (ap (λ (x : BucketItem). x.id) same))
listed_item id (Some (Staged size claims)) item e = absurd (cc)
listed_item id (Some Doomed) item e = absurd (cc)

-- which is given, and has a claim or none
pub bucket_claimed : (id : PoolId) (slot : Option Slot) (item : BucketItem) → bucket_item_of id slot ≡ Some item
    → (is_given slot ≡ true) × (item.claimed ≡ nat_lt 0 (claims_of slot))
bucket_claimed id None item e = absurd (cc)
bucket_claimed id (Some (Live size mark claims)) item e =
    let same : record { id = id; size = size; mark = mark; claimed = nat_lt 0 claims } ≡ item = cc in
    (refl, sym (ap (λ (x : BucketItem). x.claimed) same))
bucket_claimed id (Some (Staged size claims)) item e = absurd (cc)
bucket_claimed id (Some Doomed) item e = absurd (cc)

-- and as a bucket has it
bucket_item : (id : PoolId) (slot : Option Slot) (item : IndexItem) → item_of id slot ≡ Some item
    → (found : BucketItem) × (bucket_item_of id slot ≡ Some found) × (found.id ≡ id) × (found.mark ≡ item.mark)
bucket_item id None item e = absurd (cc)
bucket_item id (Some (Live size mark claims)) item e =
    let same : record { id = id; size = size; mark = mark } ≡ item = cc in
    (record { id = id; size = size; mark = mark; claimed = nat_lt 0 claims }, refl, refl, ap (λ (x : IndexItem). x.mark) same)
bucket_item id (Some (Staged size claims)) item e = absurd (cc)
bucket_item id (Some Doomed) item e = absurd (cc)

-- ---- what a cleaning leaves of a slot

-- of a slot that is cleaned, or not
module _ {A : Type 0} (f : Option Slot → A) (named : Bool) (slot : Option Slot) where
  pub either_way : f (cleaned_slot named slot) ≡ f slot → (b : Bool) → f (if b then cleaned_slot named slot else slot) ≡ f slot
  either_way same true = same
  either_way same false = refl

pub cleaned_used : (named : Bool) (slot : Option Slot) → is_some (cleaned_slot named slot) ≡ is_some slot
cleaned_used named None = refl
cleaned_used named (Some (Live size mark claims)) = step (next_mark (nat_lt 0 claims || named) mark)
  where
    step : (o : Option Bool) → is_some (live_as size claims o) ≡ true
    step None = refl
    step (Some next) = refl
cleaned_used named (Some (Staged size claims)) = refl
cleaned_used named (Some Doomed) = refl

pub cleaned_claims : (named : Bool) (slot : Option Slot) → claims_of (cleaned_slot named slot) ≡ claims_of slot
cleaned_claims named None = refl
cleaned_claims named (Some (Live size mark claims)) = step (nat_lt 0 claims) refl named mark
  where
    none : nat_lt 0 claims ≡ false → 0 ≡ claims
    none e = grind (arith, nat_tests)

    step : (b : Bool) → nat_lt 0 claims ≡ b → (named mark : Bool) → claims_of (live_as size claims (next_mark (b || named) mark)) ≡ claims
    step true e named mark = refl
    step false e true mark = refl
    step false e false false = refl
    step false e false true = none e
cleaned_claims named (Some (Staged size claims)) = refl
cleaned_claims named (Some Doomed) = refl

-- a claimed one stays given
pub cleaned_given : (named : Bool) (slot : Option Slot) → is_given slot ≡ true → 0 < claims_of slot
    → is_given (cleaned_slot named slot) ≡ true
cleaned_given named None g some = g
cleaned_given named (Some (Live size mark claims)) g some =
    ap (λ (b : Bool). is_given (live_as size claims (next_mark (b || named) mark))) (is_above claims some)
cleaned_given named (Some (Staged size claims)) g some = refl
cleaned_given named (Some Doomed) g some = g

-- ---- items of a bucket by their names

id_exact : (a b : PoolId) → eq_by_cmp id_cmp a b ≡ true → a ≡ b
id_exact a b e = same_id a b ((Equal-is (id_cmp a b)).0 e)

same_test : (a b : PoolId) → eq_by_cmp id_cmp a b ≡ is_same_id a b
same_test a b = alike (eq_by_cmp id_cmp a b) (is_same_id a b)
    (λ e. subst (λ (x : PoolId). is_same_id a x ≡ true) (id_exact a b e) (is_same_file-itself (PoolFile a)))
    (λ e. (Equal-is (id_cmp a b)).1 (subst (λ (x : PoolId). id_cmp a x ≡ Equal) (one_id a b e) (tied_itself id_total a)))

name_of : BucketItem → PoolId
name_of item = item.id

item_found : (items : List BucketItem) (id : PoolId) → bucket_item_at items id ≡ find id_cmp id (keyed name_of items)
unfolding name_of
item_found [] id = refl
item_found (item ∷ items) id =
    (λ i. if sym (same_test id item.id) i then Some item else item_found items id i) ∙ turned (eq_by_cmp id_cmp id item.id)
  where
    turned : (b : Bool) → (if b then Some item else find id_cmp id (keyed name_of items))
        ≡ cond b (Some item) (find id_cmp id (keyed name_of items))
    turned true = refl
    turned false = refl

-- ---- the bucket

module _ (digest_of : List ℕ → List ℕ) (bucket : ℕ) (counts : List Items) (slots : Slots) (contents : PoolId → List ℕ) (pool : Pool)
    (protected : List ℕ → Bool) (is : IsPool digest_of (index_of slots) contents pool)
    (kept : AreKept counts slots contents protected) where
  abbrev inside : List ℕ → Bool
  inside = in_bucket digest_of bucket

  same_bucket : (id : PoolId) (item : IndexItem) → index_of slots id ≡ Some item → (byte_of id / 16 == bucket) ≡ inside (contents id)
  same_bucket id item e = ap (λ (digest : List ℕ). slice_index digest 0 / 16 == bucket) (is.pooled id item e).digest

  pub cleaned_index : IsCleanedIndex inside protected contents (index_of slots) (index_of (cleaned_names bucket counts slots))
  cleaned_index id = at (slots id) refl
    where
      none : (b : Bool) (slot : Option Slot) → cleaned_slot (is_named counts id) slot ≡ slot → item_of id slot ≡ None
          → item_of id (if b then cleaned_slot (is_named counts id) slot else slot)
          ≡ option_and_then (cleaned_item inside protected (contents id)) (item_of id slot)
      none true slot same e = ap (item_of id) same ∙ e ∙ sym (ap (option_and_then (cleaned_item inside protected (contents id))) e)
      none false slot same e = e ∙ sym (ap (option_and_then (cleaned_item inside protected (contents id))) e)

      live : (size claims : ℕ) (i p mark : Bool)
          → item_of id (if i then live_as size claims (next_mark p mark) else Some (Live size mark claims))
          ≡ option_map (with_mark inside protected (record { id = id; size = size; mark = mark })) (mark_after (fate_of i p mark) mark)
      live size claims true true true = refl
      live size claims true true false = refl
      live size claims true false true = refl
      live size claims true false false = refl
      live size claims false p mark = refl

      at : (slot : Option Slot) → slots id ≡ slot
          → item_of id (if byte_of id / 16 == bucket then cleaned_slot (is_named counts id) slot else slot)
          ≡ option_and_then (cleaned_item inside protected (contents id)) (item_of id slot)
      at None e = none (byte_of id / 16 == bucket) None refl refl
      at (Some (Staged size claims)) e = none (byte_of id / 16 == bucket) (Some (Staged size claims)) refl refl
      at (Some Doomed) e = none (byte_of id / 16 == bucket) (Some Doomed) refl refl
      at (Some (Live size mark claims)) e =
          let within = same_bucket id (record { id = id; size = size; mark = mark }) (ap (item_of id) e) in
          let stays = kept id (record { id = id; size = size; mark = mark; claimed = nat_lt 0 claims }) (ap (bucket_item_of id) e) in
          (λ i. item_of id (if within i then live_as size claims (next_mark (stays i) mark) else Some (Live size mark claims)))
          ∙ live size claims (inside (contents id)) (protected (contents id)) mark

  -- ---- how many

  module _ (one : IsOneToOne (IsListed (index_of slots)) contents) (in_order : IsInOrder byte_cmp pool) (items : List BucketItem)
      (of : IsBucketOf slots bucket items) (wanted : Fate) (turns : is_same_fate Stays wanted ≡ false) where
    entry : BucketItem → List ℕ × Bool
    entry item = (contents item.id, item.mark)

    weight : List ℕ × Bool → ℕ
    weight e = cond (is_same_fate (fate inside protected e) wanted) 1 0

    within : List ℕ × Bool → Bool
    within e = inside e.0

    -- an item of the bucket is that of a live name
    record IsOfName (item : BucketItem) : Type 0 where
      found : bucket_item_of item.id (slots item.id) ≡ Some item
      listed : index_of slots item.id ≡ Some (record { id = item.id; size = item.size; mark = item.mark })
      inside_is : inside (contents item.id) ≡ true

    of_name : (i : ℕ) (item : BucketItem) → slice_get items i ≡ Some item → IsOfName item
    unfolding name_of
    of_name i item e = step (byte_of item.id / 16 == bucket) refl
        (sym (of.each item.id) ∙ item_found items item.id ∙ keyed_found id_cmp id_total name_of items of.rising i item e)
      where
        step : (b : Bool) → (byte_of item.id / 16 == bucket) ≡ b
            → (if byte_of item.id / 16 == bucket then bucket_item_of item.id (slots item.id) else None) ≡ Some item
            → IsOfName item
        step true e f =
            let found : bucket_item_of item.id (slots item.id) ≡ Some item = rw e at f in
            let listed = (listed_item item.id (slots item.id) item found).0 in
            record {
              found = found;
              listed = listed;
              inside_is = sym (same_bucket item.id (record { id = item.id; size = item.size; mark = item.mark }) listed) ∙ e;
            }
        step false e f = absurd (let g : None ≡ Some item = rw e at f in cc)

    length_wanted : (items : List BucketItem)
        → length (wanted_ids wanted (is_kept counts) items)
        ≡ total (λ item. cond (is_wanted wanted (is_kept counts item) item.mark) 1 0) items
    length_wanted [] = refl
    length_wanted (item ∷ items) = step (is_wanted wanted (is_kept counts item) item.mark) (length_wanted items)
      where
        step : (b : Bool) → length (wanted_ids wanted (is_kept counts) items)
            ≡ total (λ item. cond (is_wanted wanted (is_kept counts item) item.mark) 1 0) items
            → length (if b then item.id ∷ wanted_ids wanted (is_kept counts) items else wanted_ids wanted (is_kept counts) items)
            ≡ cond b 1 0 + total (λ item. cond (is_wanted wanted (is_kept counts item) item.mark) 1 0) items
        step true rest = omega (arith, rest)
        step false rest = omega (arith, rest)

    fated_total : (pool : Pool) → fated inside protected wanted pool ≡ total weight pool
    unfolding weight
    fated_total [] = refl
    fated_total (e ∷ pool) = ap (λ n. cond (is_same_fate (fate inside protected e) wanted) 1 0 + n) (fated_total pool)

    -- contents outside the bucket don't count
    only_inside : (pool : Pool) → total weight (filter within pool) ≡ total weight pool
    unfolding within weight
    only_inside [] = refl
    only_inside (e ∷ pool) = step (inside e.0) refl (only_inside pool)
      where
        step : (b : Bool) → inside e.0 ≡ b → total weight (filter within pool) ≡ total weight pool
            → total weight (cond b (e ∷ filter within pool) (filter within pool)) ≡ weight e + total weight pool
        step true f rest = ap (λ n. weight e + n) rest
        step false f rest =
            let none : weight e ≡ 0 = ap (λ (b : Bool). cond (is_same_fate (fate_of b (protected e.0) e.1) wanted) 1 0) f
            ∙ ap (λ (b : Bool). cond b 1 0) turns in
            omega (arith, rest, none)

    item_weight : (i : ℕ) (item : BucketItem) → slice_get items i ≡ Some item
        → cond (is_wanted wanted (is_kept counts item) item.mark) 1 0 ≡ weight (entry item)
    unfolding weight entry
    item_weight i item e =
        let name = of_name i item e in
        ap (λ (p : Bool). cond (is_wanted wanted p item.mark) 1 0) (kept item.id item name.found)
        ∙ ap (λ (b : Bool). cond (is_same_fate (fate_of b (protected (contents item.id)) item.mark) wanted) 1 0)
        (sym name.inside_is)

    entries : total weight (map entry items) ≡ total weight (filter within pool)
    unfolding entry within name_of
    entries = same_totals (λ (e : List ℕ × Bool). e.0) weight (map entry items) (filter within pool) differ
        (kept_differ within (λ (e : List ℕ × Bool). e.0) pool (entries_differ byte_cmp nat_list_cmp_total pool in_order)) there back
      where
        differ : Differ (λ (e : List ℕ × Bool). e.0) (map entry items)
        differ i j a b e g same =
            let v = mapped entry items i a e in
            let w = mapped entry items j b g in
            let one_content = ap (λ (x : List ℕ × Bool). x.0) v.2 ∙ same ∙ sym (ap (λ (x : List ℕ × Bool). x.0) w.2) in
            keyed_differ id_cmp id_total name_of items of.rising i j v.0 w.0 v.1 w.1
            (one.one v.0.id w.0.id (ap is_some (of_name i v.0 v.1).listed) (ap is_some (of_name j w.0 w.1).listed) one_content)

        there : (i : ℕ) (e : List ℕ × Bool) → slice_get (map entry items) i ≡ Some e → Among (filter within pool) e
        there i e g =
            let v = mapped entry items i e g in
            let name = of_name i v.0 v.1 in
            subst (Among (filter within pool)) v.2
            (kept_stay within pool (entry v.0)
            (entry_place byte_cmp nat_list_cmp_total byte_exact pool (contents v.0.id) v.0.mark
            (is.pooled v.0.id (record { id = v.0.id; size = v.0.size; mark = v.0.mark }) name.listed).mark) name.inside_is)

        placed : (e : List ℕ × Bool) → Among pool e → inside e.0 ≡ true → Among (map entry items) e
        placed e (j, g) inside_is =
            let found = entry_found byte_cmp nat_list_cmp_total pool j e in_order g in
            let w = is.listed e.0 e.1 found in
            let v = bucket_item w.0 (slots w.0) w.1 w.2 in
            let bucket_is = same_bucket w.0 w.1 w.2 ∙ ap inside w.3 ∙ inside_is in
            let at : bucket_item_at items w.0 ≡ Some v.0 = of.each w.0 ∙ rw bucket_is v.1 in
            let place = keyed_place id_cmp id_total name_of items of.rising id_exact w.0 v.0 (sym (item_found items w.0) ∙ at) in
            let content : contents v.0.id ≡ e.0 = ap contents v.2 ∙ w.3 in
            let mark : v.0.mark ≡ e.1 =
            v.3 ∙ (let m : Some w.1.mark ≡ Some e.1 = sym (is.pooled w.0 w.1 w.2).mark ∙ ap (mark_of pool) w.3 ∙ found in cc) in
            (place.0, mapped_there entry items place.0 v.0 place.1 ∙ (λ i. Some (content i, mark i)))

        back : (j : ℕ) (e : List ℕ × Bool) → slice_get (filter within pool) j ≡ Some e → Among (map entry items) e
        back j e g = let w = kept_were within pool e (j, g) in placed e w.0 w.1

    pub cleaned_number : length (wanted_ids wanted (is_kept counts) items) ≡ fated inside protected wanted pool
    cleaned_number =
        length_wanted items
        ∙ total-each (λ item. cond (is_wanted wanted (is_kept counts item) item.mark) 1 0) (λ item. weight (entry item)) items item_weight
        ∙ sym (total-map weight entry items) ∙ entries ∙ only_inside pool ∙ sym (fated_total pool)

-- ---- whether anything changes

module _ (inside protected : List ℕ → Bool) where
  abbrev pub IsNoneFated : Pool → Type 0
  IsNoneFated pool = (fated inside protected Gains pool ≡ 0) × (fated inside protected Loses pool ≡ 0)
      × (fated inside protected Leaves pool ≡ 0)

  -- if none has another fate than to stay
  pub none_cleaned : (pool : Pool) → IsNoneFated pool → cleaned inside protected pool ≡ pool
  none_cleaned [] none = refl
  none_cleaned (e ∷ pool) none = step (fate inside protected e) refl none (none_cleaned pool)
    where
      step : (f : Fate) → fate inside protected e ≡ f
          → (cond (is_same_fate f Gains) 1 0 + fated inside protected Gains pool ≡ 0)
          × (cond (is_same_fate f Loses) 1 0 + fated inside protected Loses pool ≡ 0)
          × (cond (is_same_fate f Leaves) 1 0 + fated inside protected Leaves pool ≡ 0)
          → (IsNoneFated pool → cleaned inside protected pool ≡ pool)
          → cons_option (kept_as e.0 (mark_after f e.1)) (cleaned inside protected pool) ≡ e ∷ pool
      step Stays is n rest = ap (λ (p : Pool). e ∷ p) (rest (omega (arith, n.0), omega (arith, n.1), omega (arith, n.2)))
      step Gains is n rest = absurd (omega (arith, n.0))
      step Loses is n rest = absurd (omega (arith, n.1))
      step Leaves is n rest = absurd (omega (arith, n.2))

  abbrev pub changes_in : Pool → Bool
  changes_in pool = list_any (λ entry. not (is_same_fate (fate inside protected entry) Stays)) pool

  no_change : (pool : Pool) → changes_in pool ≡ false → IsNoneFated pool
  no_change [] e = (refl, refl, refl)
  no_change (x ∷ pool) e = step (fate inside protected x) refl e (no_change pool)
    where
      step : (f : Fate) → fate inside protected x ≡ f → (not (is_same_fate f Stays) || changes_in pool) ≡ false
          → (changes_in pool ≡ false → IsNoneFated pool)
          → (cond (is_same_fate f Gains) 1 0 + fated inside protected Gains pool ≡ 0)
          × (cond (is_same_fate f Loses) 1 0 + fated inside protected Loses pool ≡ 0)
          × (cond (is_same_fate f Leaves) 1 0 + fated inside protected Leaves pool ≡ 0)
      step Stays is g rest = let none = rest g in (omega (arith, none.0), omega (arith, none.1), omega (arith, none.2))
      step Gains is g rest = absurd (false≢true (sym g))
      step Loses is g rest = absurd (false≢true (sym g))
      step Leaves is g rest = absurd (false≢true (sym g))

  -- if some has
  pub some_cleaned : (pool : Pool) → (IsNoneFated pool → ⊥) → changes_in pool ≡ true
  some_cleaned pool some = step (changes_in pool) refl
    where
      step : (b : Bool) → changes_in pool ≡ b → changes_in pool ≡ true
      step true e = e
      step false e = absurd (some (no_change pool e))
