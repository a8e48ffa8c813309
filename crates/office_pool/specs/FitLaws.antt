-- A pool whose live names are the index by which files stand for an office fits the files.
--     near_listed      the extension of a listed name is a number of two bytes
--     fits_stands      the pool fits, if it has no staged name
--     given_one, given_digest, given_size      what a pool that fits has of live and staged names
use Rattle.std.specs.Prelude.{◌≡◌, ℕ, ◌<◌, true, List, [], length, Option, Some, None, is_some}
use Rattle.std.specs.List.{AllByRecursion}
use Rattle.std.proofs.Common.{refl, sym, ap, ◌∙◌, subst, inl, inr}
use Rattle.std.proofs.lemmas.Bool.{false≢true}
use Rattle.disk_trait.specs.declared.ids.PoolId.{PoolId}
use Rattle.disk_trait.specs.Files.{Files, bytes_of}
use Rattle.disk_trait.specs.Images.{FileSet}
use Rattle.pool_index.specs.declared.item.IndexItem.{IndexItem}
use Rattle.pool_index.specs.Items.{IsItem, item_at, byte_of}
use Rattle.pool_index.specs.ItemLaws.{each_from_items, item_at-id, item_at-has}
use Rattle.pool_index.specs.Index.{Index, TellsIndex}
use Rattle.pool_changes.specs.declared.slot.Slot.{Slot}
use Rattle.pool_changes.specs.declared.slot.Slot.TheVariants.{Live, Staged, Doomed}
use Rattle.pool_changes.specs.Slots.{Slots, is_live, is_given, size_of}
use Rattle.pool_changes.specs.Listed.{item_of, index_of}
use Rattle.pool_store.specs.Pools.{IsCertain}
use Rattle.pool_store.specs.Fits.{Fits}
use Rattle.stored_trees.specs.Resolved.{IsOneToOne}
use Rattle.ref_counts.specs.Stored.{StoredHost}
use Rattle.office_model.specs.Office.{Durable}
use Rattle.office_files.specs.Pooled.{contents_of, IsListed}
use Rattle.office_files.specs.KeptLaws.{listed_held}
use Rattle.office_files.specs.Stands.{Stands}

-- ---- names that have a layout

near_item : (items : List IndexItem) (id : PoolId) (item : IndexItem) → AllByRecursion IsItem items → item_at items id ≡ Some item
    → id.extension < 65536
near_item items id item all e =
    let same = item_at-id items id item e in
    let is = item_at-has IsItem items id item all e in
    subst (λ (i : PoolId). i.extension < 65536) (sym same) is.range.id.extension

pub near_listed : (index : Index) (files : Files) → TellsIndex index files → (id : PoolId) (item : IndexItem) → index id ≡ Some item
    → id.extension < 65536
near_listed index files (inl tells) id item e =
    near_item tells.items id item (each_from_items None [] tells.items tells.are.are.each) (sym (tells.each id) ∙ e)
near_listed index files (inr tells) id item e =
    let byte = tells.each (byte_of id) (tells.within id (ap is_some e)) in
    near_item byte.items id item (each_from_items (Some (byte_of id)) [] byte.items byte.are.each) (sym (byte.each id refl) ∙ e)

-- ---- live names

live_item : (id : PoolId) (slot : Option Slot) → is_live slot ≡ true
    → (item : IndexItem) × (item_of id slot ≡ Some item) × (item.size ≡ size_of slot)
live_item id None e = absurd (false≢true e)
live_item id (Some (Live size mark claims)) e = (record { id = id; size = size; mark = mark }, refl, refl)
live_item id (Some (Staged size claims)) e = absurd (false≢true e)
live_item id (Some Doomed) e = absurd (false≢true e)

-- a pool without staged names whose index the files tell fits them
pub fits_stands : (digest_of : List ℕ → List ℕ) (slots : Slots) (backups : List StoredHost) (files : Files) (office : Durable)
    (uncertain : FileSet) → ((id : PoolId) → is_given (slots id) ≡ true → is_live (slots id) ≡ true) → IsCertain slots uncertain
    → Stands digest_of (index_of slots) backups files office → Fits digest_of slots uncertain files
fits_stands digest_of slots backups files office uncertain live certain stands = record {
  near = λ id given. let w = live_item id (slots id) (live id given) in near_listed (index_of slots) files stands.index_told id w.0 w.1;
  held = λ id given.
      let w = live_item id (slots id) (live id given) in
      let listed : IsListed (index_of slots) id = ap is_some w.1 in
      let is = stands.pool.pooled id w.0 w.1 in
      record {
        content = contents_of files id;
        is = listed_held (index_of slots) files stands.one id listed;
        digest = sym is.digest;
        size = sym w.2 ∙ is.size;
        some = stands.one.some id listed;
      };
  one = λ a b content ga gb ha hb.
      stands.one.one a b (ap is_some (live_item a (slots a) (live a ga)).1) (ap is_some (live_item b (slots b) (live b gb)).1)
      (ap bytes_of ha ∙ sym (ap bytes_of hb));
  certain = certain;
}

-- ---- live and staged names of a pool that fits

module _ (digest_of : List ℕ
    → List ℕ) (slots : Slots) (uncertain : FileSet) (files : Files) (fits : Fits digest_of slots uncertain files) where
  pub given_one : IsOneToOne (λ id. is_given (slots id) ≡ true) (contents_of files)
  given_one = record {
    one = λ a b ga gb e.
        let ha = fits.held a ga in
        let hb = fits.held b gb in
        let same : ha.content ≡ hb.content = sym (ap bytes_of ha.is) ∙ e ∙ ap bytes_of hb.is in
        fits.one a b hb.content ga gb (ha.is ∙ ap (λ (c : List ℕ). Some c) same) hb.is;
    some = λ a g. let h = fits.held a g in subst (λ (c : List ℕ). 0 < length c) (sym (ap bytes_of h.is)) h.some;
  }

  pub given_digest : (id : PoolId) → is_given (slots id) ≡ true → id.digest ≡ digest_of (contents_of files id)
  given_digest id g = let h = fits.held id g in sym h.digest ∙ ap digest_of (sym (ap bytes_of h.is))

  pub given_size : (id : PoolId) → is_given (slots id) ≡ true → size_of (slots id) ≡ length (contents_of files id)
  given_size id g = let h = fits.held id g in h.size ∙ ap length (sym (ap bytes_of h.is))
