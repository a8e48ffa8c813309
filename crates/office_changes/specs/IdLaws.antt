-- The ids of an office after a commit or a cleaning.
--     ids_with rows contents ids      with the names of rows;  ids_left next ids      those that an index still lists
--     with_listed, left_listed      they are the names that the index lists then
--     ids_moved      what stays keeps its name, and what is new has one in use
use Rattle.std.specs.Prelude.{◌≡◌, ℕ, Bool, true, false, cond, ◌||◌, List, [], ◌∷◌, Option, Some, None, is_some, if◌then◌else◌}
use Rattle.std.specs.Option.{option_map}
use Rattle.std.specs.FinMap.Entries.{put, find-put, where_key, find-where_key}
use Rattle.std.proofs.Common.{refl, sym, ap, ◌∙◌}
use Rattle.disk_trait.specs.declared.ids.PoolId.{PoolId}
use Rattle.disk_trait.specs.Files.{Files}
use Rattle.ordered_lists.specs.Order.{IsInOrder}
use Rattle.ordered_lists.specs.OrderLaws.{IsInOrder-put, IsInOrder-where_key}
use Rattle.attr_tables.specs.declared.records.Record.{Record}
use Rattle.attr_tables.specs.declared.records.Record.TheVariants.{File, Dir, Link, Deleted}
use Rattle.attr_tables.specs.Records.{is_same_id}
use Rattle.attr_tables.specs.RecordLaws.{same_id}
use Rattle.pool_index.specs.declared.item.IndexItem.{IndexItem}
use Rattle.pool_index.specs.Items.{id_cmp}
use Rattle.pool_index.specs.ItemLaws.{id_total, id_exact}
use Rattle.pool_index.specs.Index.{Index}
use Rattle.merge_view.specs.Views.{Rows}
use Rattle.stored_trees.specs.Resolved.{content_in}
use Rattle.stored_trees.specs.Occurrences.{is_content, names as names_id}
use Rattle.ref_counts.specs.IdsLaws.{same_key}
use Rattle.ref_counts.specs.Stored.{StoredHost}
use Rattle.office_model.specs.Pool.{is_pooled}
use Rattle.office_model.specs.Ids.{Ids, content_at}
use Rattle.office_model.specs.Office.{Durable, Names}
use Rattle.office_model.specs.UsedNames.{Among, AreIdsAfter}
use Rattle.office_model.specs.laws.IdLaws.{ids_after}
use Rattle.office_files.specs.Pooled.{contents_of, IsListed, AreListed}
use Rattle.office_files.specs.IdLaws.{are_ids, listed_at}
use Rattle.office_files.specs.Stands.{Stands}
use Rattle.office_changes.specs.Commits.{is_named, unmarked_item, IsListedWith}

-- ---- with the names of rows

abbrev pub with_id : (PoolId → List ℕ) → Option PoolId → Ids → Ids
with_id contents None ids = ids
with_id contents (Some id) ids = put id_cmp id (contents id) ids

abbrev pub ids_with : Rows → (PoolId → List ℕ) → Ids → Ids
ids_with [] contents ids = ids
ids_with (row ∷ rows) contents ids = with_id contents (content_in row.1) (ids_with rows contents ids)

with_id-in_order : (contents : PoolId → List ℕ) (id : Option PoolId) (ids : Ids) → IsInOrder id_cmp ids → IsInOrder id_cmp (with_id contents id ids)
with_id-in_order contents None ids in_order = in_order
with_id-in_order contents (Some id) ids in_order = IsInOrder-put id_cmp id_total id (contents id) ids in_order

with-in_order : (rows : Rows) (contents : PoolId → List ℕ) (ids : Ids) → IsInOrder id_cmp ids → IsInOrder id_cmp (ids_with rows contents ids)
with-in_order [] contents ids in_order = in_order
with-in_order (row ∷ rows) contents ids in_order =
    with_id-in_order contents (content_in row.1) (ids_with rows contents ids) (with-in_order rows contents ids in_order)

-- what is at a name afterwards
abbrev at_after : Bool → List ℕ → Option (List ℕ) → Option (List ℕ)
at_after named content was = if named then Some content else was

or_after : (a b : Bool) (content : List ℕ) (was : Option (List ℕ)) → at_after a content (at_after b content was) ≡ at_after (a || b) content was
or_after true b content was = refl
or_after false b content was = refl

put_after : (contents : PoolId → List ℕ) (other : PoolId) (ids : Ids) (id : PoolId)
    → content_at (put id_cmp other (contents other) ids) id ≡ at_after (is_same_id other id) (contents id) (content_at ids id)
put_after contents other ids id =
    find-put id_cmp id_total id other (contents other) ids
    ∙ ap (λ (b : Bool). cond b (Some (contents other)) (content_at ids id)) (same_key id other)
    ∙ step (is_same_id other id) refl
  where
    step : (b : Bool) → is_same_id other id ≡ b
        → cond b (Some (contents other)) (content_at ids id) ≡ at_after b (contents id) (content_at ids id)
    step false e = refl
    step true e = ap (λ (x : PoolId). Some (contents x)) (same_id other id e)

named_after : (contents : PoolId → List ℕ) (node : Record) (ids : Ids) (id : PoolId)
    → content_at (with_id contents (content_in node) ids) id ≡ at_after (names_id id node) (contents id) (content_at ids id)
named_after contents (File file) ids id = step file.content
  where
    step : (content : Option PoolId) → content_at (with_id contents content ids) id
        ≡ at_after (is_content id content) (contents id) (content_at ids id)
    step None = refl
    step (Some other) = put_after contents other ids id
named_after contents (Dir dir) ids id = refl
named_after contents (Link link) ids id = refl
named_after contents Deleted ids id = refl

with-at : (rows : Rows) (contents : PoolId → List ℕ) (ids : Ids) (id : PoolId)
    → content_at (ids_with rows contents ids) id ≡ at_after (is_named id rows) (contents id) (content_at ids id)
with-at [] contents ids id = refl
with-at (row ∷ rows) contents ids id =
    named_after contents row.1 (ids_with rows contents ids) id
    ∙ ap (at_after (names_id id row.1) (contents id)) (with-at rows contents ids id)
    ∙ or_after (names_id id row.1) (is_named id rows) (contents id) (content_at ids id)

pub with_listed : (index next : Index) (contents : PoolId → List ℕ) (rows : Rows) (ids : Ids) → IsListedWith rows contents index next
    → AreListed index contents ids → AreListed next contents (ids_with rows contents ids)
with_listed index next contents rows ids with are = record {
  in_order = with-in_order rows contents ids are.in_order;
  each = λ id. with-at rows contents ids id ∙ step id (is_named id rows) (are.each id)
      ∙ sym (ap (option_map (λ (item : IndexItem). contents id)) (with id));
}
  where
    step : (id : PoolId) (b : Bool) → content_at ids id ≡ option_map (λ (item : IndexItem). contents id) (index id)
        → at_after b (contents id) (content_at ids id)
        ≡ option_map (λ (item : IndexItem). contents id) (if b then Some (unmarked_item id (contents id)) else index id)
    step id true e = refl
    step id false e = e

-- ---- those that are still listed

abbrev pub ids_left : Index → Ids → Ids
ids_left next ids = where_key id_cmp (λ id. is_some (next id)) ids

pub left_listed : (index next : Index) (contents : PoolId → List ℕ) (ids : Ids) → ((id : PoolId) → IsListed next id → IsListed index id)
    → AreListed index contents ids → AreListed next contents (ids_left next ids)
left_listed index next contents ids fewer are = record {
  in_order = IsInOrder-where_key id_cmp (λ id. is_some (next id)) ids are.in_order;
  each = λ id.
      find-where_key id_cmp (λ id. is_some (next id)) id (λ x same. ap (λ (y : PoolId). is_some (next y)) (sym (id_exact id x same))) ids
      ∙ ap (λ (r : Option (List ℕ)). cond (is_some (next id)) r None) (are.each id) ∙ step id (next id) refl (index id) refl;
}
  where
    step : (id : PoolId) (n : Option IndexItem) → next id ≡ n → (i : Option IndexItem) → index id ≡ i
        → cond (is_some n) (option_map (λ (item : IndexItem). contents id) i) None ≡ option_map (λ (item : IndexItem). contents id) n
    step id None e i f = refl
    step id (Some item) e (Some other) f = refl
    step id (Some item) e None f =
        let listed : IsListed index id = fewer id (ap is_some e) in
        let none : IsListed index id → ⊥ = λ l. not_there (sym (ap is_some f) ∙ l) in absurd (none listed)
      where
        not_there : false ≡ true → ⊥
        not_there g = cc

-- ---- what an office's ids become

content_there : (index : Index) (contents : PoolId → List ℕ) (ids : Ids) → AreListed index contents ids → (id : PoolId) → IsListed index id
    → content_at ids id ≡ Some (contents id)
content_there index contents ids are id listed = step (index id) refl listed
  where
    step : (item : Option IndexItem) → index id ≡ item → is_some item ≡ true → content_at ids id ≡ Some (contents id)
    step None e f = absurd (cc)
    step (Some item) e f = are.each id ∙ ap (option_map (λ (item : IndexItem). contents id)) e

-- names of both stay with their contents, each content that stays keeps its name listed, and each name that is listed is in use
pub ids_moved : (names : Names) (index next : Index) (us vs : List StoredHost) (files image : Files) (old new : Durable)
    → Stands names.digest_of index us files old → Stands names.digest_of next vs image new
    → ((id : PoolId) → IsListed index id → IsListed next id → contents_of files id ≡ contents_of image id)
    → ((id : PoolId) → IsListed index id → is_pooled new.pool (contents_of files id) ≡ true → IsListed next id)
    → ((id : PoolId) → IsListed next id → Among names.used id)
    → AreIdsAfter names old new
ids_moved names index next us vs files image old new was is same stays used =
    ids_after names old new
    (are_ids names.digest_of index (contents_of files) old.pool old.ids was.one was.pool was.ids)
    (are_ids names.digest_of next (contents_of image) new.pool new.ids is.one is.pool is.ids)
    (λ id content at pooled.
    let w = listed_at names.digest_of index (contents_of files) old.pool old.ids was.one was.pool was.ids id content at in
    let listed : IsListed index id = ap is_some w.1 in
    let there : IsListed next id = stays id listed (ap (is_pooled new.pool) w.2 ∙ pooled) in
    content_there next (contents_of image) new.ids is.ids id there ∙ ap Some (sym (same id listed there) ∙ w.2))
    (λ id content at fresh.
    let w = listed_at names.digest_of next (contents_of image) new.pool new.ids is.one is.pool is.ids id content at in
    used id (ap is_some w.1))
