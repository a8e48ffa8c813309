-- The ids of an office that files stand for are one for each pooled content, with its digest.
use Rattle.std.specs.Prelude.{◌≡◌, ℕ, Bool, true, List, Option, Some, None, is_some}
use Rattle.std.specs.Option.{option_map}
use Rattle.std.proofs.Common.{refl, sym, ap, ◌∙◌}
use Rattle.disk_trait.specs.declared.ids.PoolId.{PoolId}
use Rattle.pool_index.specs.declared.item.IndexItem.{IndexItem}
use Rattle.pool_index.specs.Index.{Index}
use Rattle.stored_trees.specs.Resolved.{IsOneToOne}
use Rattle.office_model.specs.Pool.{Pool, mark_of, is_pooled}
use Rattle.office_model.specs.Ids.{Ids, content_at, AreIds}
use Rattle.office_files.specs.Pooled.{IsListed, IsPool, AreListed}

module _ (digest_of : List ℕ → List ℕ) (index : Index) (contents : PoolId → List ℕ) (pool : Pool) (ids : Ids)
    (one : IsOneToOne (IsListed index) contents) (is_pool : IsPool digest_of index contents pool) (are : AreListed index contents ids) where
  -- what is at a name is listed, and is its content
  pub listed_at : (id : PoolId) (content : List ℕ) → content_at ids id ≡ Some content
      → (item : IndexItem) × (index id ≡ Some item) × (contents id ≡ content)
  listed_at id content at = step (index id) refl (sym (are.each id) ∙ at)
    where
      step : (item : Option IndexItem) → index id ≡ item → option_map (λ (item : IndexItem). contents id) item ≡ Some content
          → (item : IndexItem) × (index id ≡ Some item) × (contents id ≡ content)
      step None e f = absurd (cc)
      step (Some item) e f = (item, e, cc)

  pub are_ids : AreIds digest_of pool ids
  are_ids = record {
    in_order = are.in_order;
    all = λ content pooled. all content (mark_of pool content) refl pooled;
    pooled = λ id content at.
        let w = listed_at id content at in
        ap (is_pooled pool) (sym w.2) ∙ ap is_some (is_pool.pooled id w.0 w.1).mark;
    one = λ id other content at also.
        let v = listed_at id content at in
        let w = listed_at other content also in
        one.one id other (ap is_some v.1) (ap is_some w.1) (v.2 ∙ sym w.2);
    digest = λ id content at.
        let w = listed_at id content at in
        (is_pool.pooled id w.0 w.1).digest ∙ ap digest_of w.2;
  }
    where
      all : (content : List ℕ) (mark : Option Bool) → mark_of pool content ≡ mark → is_some (mark_of pool content) ≡ true
          → (id : PoolId) × (content_at ids id ≡ Some content)
      all content None e pooled = absurd (cc)
      all content (Some mark) e pooled =
          let w = is_pool.listed content mark e in
          (w.0, are.each w.0 ∙ ap (option_map (λ (item : IndexItem). contents w.0)) w.2 ∙ ap Some w.3)
