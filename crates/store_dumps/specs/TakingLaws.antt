-- What a store at work has after the pool took a content in, or missed it: `HasStaged` of store_parts, case by case.
--     staged_none, staged_matches, staged_adds, staged_doomed      nothing was done, a file held it, one was staged, its write failed
use Rattle.std.specs.Prelude.{◌≡◌, ◌<◌, ◌+◌, ℕ, zero, suc, Bool, true, false, List, ◌∷◌, length, Option, Some, None, is_some, slice_get, ◌⊎◌, if◌then◌else◌}
use Rattle.std.proofs.Common.{refl, sym, ap, ◌∙◌, subst, inl, inr, arith}
use Rattle.std.proofs.lemmas.Bool.{false≢true}
use Rattle.disk_trait.specs.declared.ids.PoolId.{PoolId}
use Rattle.disk_trait.specs.declared.ids.FileId.{FileId}
use Rattle.disk_trait.specs.declared.ids.FileId.TheVariants as F
use Rattle.disk_trait.specs.declared.disk.Disk.{Ghosts as DiskGhosts}
use Rattle.disk_trait.specs.Names.{is_metadata, is_same_file}
use Rattle.disk_trait.specs.NamesLaws.{is_same_file-itself}
use Rattle.disk_trait.specs.Files.{with_bytes, changed}
use Rattle.pool_name.specs.declared.namer.Namer.{Ghosts as NamerGhosts}
use Rattle.intent_journal.specs.ChangesLaws.{with_bytes_other}
use Rattle.journal_view.specs.View.{told, uncertain}
use Rattle.pool_index.specs.Items.{is_same_id as is_same_name}
use Rattle.pool_changes.specs.declared.slot.Slot.{Slot}
use Rattle.pool_changes.specs.declared.slot.Slot.TheVariants.{Live, Staged, Doomed}
use Rattle.pool_changes.specs.Slots.{Slots, is_live, is_given, size_of, claims_of, claimed, one_id}
use Rattle.pool_changes.specs.Kept.{IsSet, IsSame}
use Rattle.pool_changes.specs.Listed.{item_of}
use Rattle.pool_store.specs.FitsLaws.{fits_less, fits_adds, less_claimed, less_doomed}
use Rattle.pool_store.specs.Pools.{IsCertain, Matches, Adds}
use Rattle.attr_tables.specs.RecordLaws.{id_itself}
use Rattle.office_model.specs.Office.{Office, Names}
use Rattle.office_model.specs.UsedNames.{Among, AddsName}
use Rattle.store_parts.specs.declared.parts.StoreParts.{StoreParts}
use Rattle.store_parts.specs.Held.{AreUsed}
use Rattle.store_parts.specs.States.{slots, IsRunning}
use Rattle.store_parts.specs.ListLaws.{first_distinct}
use Rattle.store_parts.specs.StagingLaws.{HasStaged}
use Rattle.store_dumps.specs.ClaimLaws.{one_of, same_tests}
use Rattle.store_dumps.specs.SeenLaws.{SeenButOne}

-- no metadata is a content
pub apart : (asked : FileId) (id : PoolId) → is_metadata asked ≡ true → is_same_file asked (F.Pool id) ≡ false
unfolding is_same_file
apart F.Head id e = refl
apart F.Intent id e = refl
apart F.Gate id e = refl
apart (F.Host host) id e = refl
apart (F.Table host number) id e = refl
apart (F.Counts host) id e = refl
apart F.PoolIndex id e = refl
apart (F.PoolBucket byte) id e = refl
apart (F.Partial host) id e = refl
apart (F.Pool other) id e = absurd (cc)
apart (F.Stage number) id e = absurd (cc)

-- nor is the file of a stage
pub stage_apart : (number : ℕ) (id : PoolId) → is_same_file (F.Stage number) (F.Pool id) ≡ false
unfolding is_same_file
stage_apart number id = refl

-- ---- one name gets a slot

pub set_there : (old new : Slots) (id : PoolId) (slot : Option Slot) → IsSet old new id slot → new id ≡ slot
set_there old new id slot set = set id ∙ rw (is_same_file-itself (F.Pool id)) refl

pub set_other : (old new : Slots) (id : PoolId) (slot : Option Slot) → IsSet old new id slot → (asked : PoolId)
    → is_same_name asked id ≡ false
    → new asked ≡ old asked
set_other old new id slot set asked other = set asked ∙ rw other refl

-- a property of the name that was set and of all others
pub each_name : (P : PoolId → Type 0) (id : PoolId) → P id → ((asked : PoolId) → is_same_name asked id ≡ false → P asked)
    → (asked : PoolId) → P asked
each_name P id here others asked = step (is_same_name asked id) refl
  where
    step : (b : Bool) → is_same_name asked id ≡ b → P asked
    step true e = subst P (sym (one_id asked id e)) here
    step false e = others asked e

-- ---- names in use

unused_fresh : (old : Slots) (used : List PoolId) (id : PoolId) → AreUsed old used → old id ≡ None → Among used id → ⊥
unused_fresh old used id are none among = false≢true (sym (ap is_some none) ∙ are.slot id among)

pub used_more : (old new : Slots) (used : List PoolId) (id : PoolId) (slot : Slot) → AreUsed old used → old id ≡ None → id.extension < 65536
    → IsSet old new id (Some slot) → AreUsed new (id ∷ used)
used_more old new used id slot are none near set = record {
  distinct = first_distinct id used are.distinct (unused_fresh old used id are none);
  slot = λ asked among. slot_of asked among.0 among.1;
  among = each_name (λ asked. is_some (new asked) ≡ true → Among (id ∷ used) asked) id (λ e. (zero, refl))
      (λ asked other e. let w = are.among asked (sym (ap is_some (set_other old new id (Some slot) set asked other)) ∙ e) in
      (suc w.0, w.1));
  near = each_name (λ asked. is_some (new asked) ≡ true → asked.extension < 65536) id (λ e. near)
      (λ asked other e. are.near asked (sym (ap is_some (set_other old new id (Some slot) set asked other)) ∙ e));
}
  where
    slot_of : (asked : PoolId) (i : ℕ) → slice_get (id ∷ used) i ≡ Some asked → is_some (new asked) ≡ true
    slot_of asked zero e =
        let same : id ≡ asked = cc in
        subst (λ (x : PoolId). is_some (new x) ≡ true) same (ap is_some (set_there old new id (Some slot) set))
    slot_of asked (suc i) e =
        each_name (λ x. is_some (old x) ≡ true → is_some (new x) ≡ true) id
        (λ g. ap is_some (set_there old new id (Some slot) set))
        (λ x other g. ap is_some (set_other old new id (Some slot) set x other) ∙ g) asked (are.slot asked (i, e))

pub adds_name : (old : Slots) (used : List PoolId) (id : PoolId) (digest : List ℕ) → AreUsed old used → old id ≡ None → id.digest ≡ digest
    → AddsName digest used (id ∷ used)
adds_name old used id digest are none is = record {
  id = id;
  of_digest = is;
  unused = unused_fresh old used id are none;
  added = (zero, refl);
  stay = λ other among. (suc among.0, among.1);
  no_other = λ other among. step other among.0 among.1;
  distinct = first_distinct id used are.distinct (unused_fresh old used id are none);
}
  where
    step : (other : PoolId) (i : ℕ) → slice_get (id ∷ used) i ≡ Some other → Among used other ⊎ (other ≡ id)
    step other zero e = inr cc
    step other (suc i) e = inl (i, e)

pub claimed_used : (slot : Option Slot) → is_some (claimed slot) ≡ is_some slot
claimed_used None = refl
claimed_used (Some (Live size mark claims)) = refl
claimed_used (Some (Staged size claims)) = refl
claimed_used (Some Doomed) = refl

pub claimed_stays : (slot : Option Slot) → is_given slot ≡ true → is_given (claimed slot) ≡ true
claimed_stays None e = e
claimed_stays (Some (Live size mark claims)) e = e
claimed_stays (Some (Staged size claims)) e = e
claimed_stays (Some Doomed) e = e

pub claimed_item : (id : PoolId) (slot : Option Slot) → item_of id (claimed slot) ≡ item_of id slot
claimed_item id None = refl
claimed_item id (Some (Live size mark claims)) = refl
claimed_item id (Some (Staged size claims)) = refl
claimed_item id (Some Doomed) = refl

claimed_more : (slot : Option Slot) → is_given slot ≡ true → claims_of (claimed slot) ≡ claims_of slot + 1
claimed_more None e = absurd (cc)
claimed_more (Some (Live size mark claims)) e = refl
claimed_more (Some (Staged size claims)) e = refl
claimed_more (Some Doomed) e = absurd (cc)

-- claims with one more
one_more : (old new : Slots) (id : PoolId) (slot : Option Slot) → IsSet old new id slot → claims_of slot ≡ claims_of (old id) + 1
    → (asked : PoolId) → claims_of (new asked) ≡ claims_of (old asked) + one_of id asked
one_more old new id slot set more = each_name (λ asked. claims_of (new asked) ≡ claims_of (old asked) + one_of id asked) id
    (let one : one_of id id ≡ 1 = ap (λ b. if b then 1 else 0) (id_itself id) in
    let there : claims_of (new id) ≡ claims_of slot = ap claims_of (set_there old new id slot set) in omega (arith, one, there, more))
    (λ asked other.
    let none : one_of id asked ≡ 0 = ap (λ b. if b then 1 else 0) (same_tests id asked ∙ other) in
    let same : claims_of (new asked) ≡ claims_of (old asked) = ap claims_of (set_other old new id slot set asked other) in
    omega (arith, none, same))

module _ {D N S : Type 0} {d : DiskGhosts D} {n : NamerGhosts N S} where
  -- ---- the cases

  module _ (old mid : StoreParts D N S d n) (office : Office) (names : Names) (at : IsRunning old office names)
      (certain : IsCertain (slots old) (uncertain mid.journal)) where
    -- nothing was done
    unfoldable pub staged_none : IsSame (slots old) (slots mid) → told mid.journal ≡ told old.journal → HasStaged old mid names office.stages at.all
    staged_none same quiet = record {
      used' = names.used;
      all' = at.all;
      told_is = quiet ∙ at.told_is;
      grows = record {
        given = λ id g. ap is_given (same id) ∙ g;
        file = λ id g. refl;
        metadata = λ asked e. refl;
        live = λ id. ap (item_of id) (same id);
        stage = λ i stage there. refl;
      };
      fits = fits_less n.digest_of (slots old) (slots mid) (uncertain old.journal) (uncertain mid.journal) at.all at.all (record {
        given = λ id g. sym (ap is_given (same id)) ∙ g;
        size = λ id g. ap size_of (same id);
        file = λ id g. refl;
        live = λ id g. sym (ap is_live (same id)) ∙ g;
      }) certain at.fits;
      all_used = λ id there. ap is_some (same id) ∙ at.all_used id there;
      used = record {
        distinct = at.used.distinct;
        slot = λ id among. ap is_some (same id) ∙ at.used.slot id among;
        among = λ id e. at.used.among id (sym (ap is_some (same id)) ∙ e);
        near = λ id e. at.used.near id (sym (ap is_some (same id)) ∙ e);
      };
    }

    module _ (id : PoolId) (content : List ℕ) where
      -- a file holds the content
      unfoldable pub staged_matches : Matches (slots old) (slots mid) (told old.journal) (told mid.journal) id content
          → HasStaged old mid names office.stages at.all
      staged_matches m = record {
        used' = names.used;
        all' = at.all;
        told_is = m.same ∙ at.told_is;
        grows = record {
          given = each_name (λ asked. is_given (slots old asked) ≡ true → is_given (slots mid asked) ≡ true) id
              (λ g. ap is_given there ∙ claimed_stays (slots old id) g) (λ asked other g. ap is_given (others asked other) ∙ g);
          file = λ asked g. refl;
          metadata = λ asked e. refl;
          live = each_name (λ asked. item_of asked (slots mid asked) ≡ item_of asked (slots old asked)) id
              (ap (item_of id) there ∙ claimed_item id (slots old id)) (λ asked other. ap (item_of asked) (others asked other));
          stage = λ i stage there. refl;
        };
        fits = fits_less n.digest_of (slots old) (slots mid) (uncertain old.journal) (uncertain mid.journal) at.all at.all
            (less_claimed (slots old) (slots mid) at.all id m.set) certain at.fits;
        all_used = λ asked e. used asked ∙ at.all_used asked e;
        used = record {
          distinct = at.used.distinct;
          slot = λ asked among. used asked ∙ at.used.slot asked among;
          among = λ asked e. at.used.among asked (sym (used asked) ∙ e);
          near = λ asked e. at.used.near asked (sym (used asked) ∙ e);
        };
      }
        where
          there : slots mid id ≡ claimed (slots old id)
          there = set_there (slots old) (slots mid) id (claimed (slots old id)) m.set

          others : (asked : PoolId) → is_same_name asked id ≡ false → slots mid asked ≡ slots old asked
          others = set_other (slots old) (slots mid) id (claimed (slots old id)) m.set

          used : (asked : PoolId) → is_some (slots mid asked) ≡ is_some (slots old asked)
          used = each_name (λ asked. is_some (slots mid asked) ≡ is_some (slots old asked)) id
              (ap is_some there ∙ claimed_used (slots old id)) (λ asked other. ap is_some (others asked other))

      pub claims_matches : Matches (slots old) (slots mid) (told old.journal) (told mid.journal) id content
          → (asked : PoolId) → claims_of (slots mid asked) ≡ claims_of (slots old asked) + one_of id asked
      claims_matches m = one_more (slots old) (slots mid) id (claimed (slots old id)) m.set (claimed_more (slots old id) m.given)

      -- a file was staged for it
      unfoldable pub staged_adds : Adds (slots old) (slots mid) (told old.journal) (told mid.journal) id content
          → id.digest ≡ n.digest_of content
          → 0 < length content → HasStaged old mid names office.stages at.all
      staged_adds a digest some = record {
        used' = id ∷ names.used;
        all' = with_bytes at.all (F.Pool id) (Some content);
        told_is = a.told_is ∙ ap (λ t. changed t (F.Pool id) (Some content)) at.told_is;
        grows = record {
          given = each_name (λ asked. is_given (slots old asked) ≡ true → is_given (slots mid asked) ≡ true) id
              (λ g. absurd (false≢true (sym (ap is_given a.free.unused) ∙ g))) (λ asked other g. ap is_given (others asked other) ∙ g);
          file = each_name (λ asked. is_given (slots old asked) ≡ true
              → with_bytes at.all (F.Pool id) (Some content) (F.Pool asked) ≡ at.all (F.Pool asked)) id
              (λ g. absurd (false≢true (sym (ap is_given a.free.unused) ∙ g)))
              (λ asked other g. with_bytes_other at.all (F.Pool id) (Some content) (F.Pool asked) other);
          metadata = λ asked e. with_bytes_other at.all (F.Pool id) (Some content) asked (apart asked id e);
          stage = λ i stage there.
              with_bytes_other at.all (F.Pool id) (Some content) (F.Stage stage.number) (stage_apart stage.number id);
          live = each_name (λ asked. item_of asked (slots mid asked) ≡ item_of asked (slots old asked)) id
              (ap (item_of id) there ∙ sym (ap (item_of id) a.free.unused)) (λ asked other. ap (item_of asked) (others asked other));
        };
        fits = fits_adds n.digest_of (slots old) (slots mid) (uncertain old.journal) (uncertain mid.journal) at.all (told old.journal)
            (told mid.journal) id content at.fits at.told_is a digest some certain;
        all_used = each_name (λ asked. is_some (with_bytes at.all (F.Pool id) (Some content) (F.Pool asked)) ≡ true
            → is_some (slots mid asked) ≡ true) id
            (λ e. ap is_some there)
            (λ asked other e. ap is_some (others asked other)
            ∙ at.all_used asked (ap is_some (sym (with_bytes_other at.all (F.Pool id) (Some content) (F.Pool asked) other)) ∙ e));
        used = used_more (slots old) (slots mid) names.used id (Staged (length content) 1) at.used a.free.unused a.near a.set;
      }
        where
          there : slots mid id ≡ Some (Staged (length content) 1)
          there = set_there (slots old) (slots mid) id (Some (Staged (length content) 1)) a.set

          others : (asked : PoolId) → is_same_name asked id ≡ false → slots mid asked ≡ slots old asked
          others = set_other (slots old) (slots mid) id (Some (Staged (length content) 1)) a.set

      pub claims_adds : Adds (slots old) (slots mid) (told old.journal) (told mid.journal) id content
          → (asked : PoolId) → claims_of (slots mid asked) ≡ claims_of (slots old asked) + one_of id asked
      claims_adds a = one_more (slots old) (slots mid) id (Some (Staged (length content) 1)) a.set
          (let none : claims_of (slots old id) ≡ 0 = ap claims_of a.free.unused in omega (arith, none))

    module _ (id : PoolId) where
      -- its write failed
      unfoldable pub staged_doomed : slots old id ≡ None → id.extension < 65536 → IsSet (slots old) (slots mid) id (Some Doomed)
          → SeenButOne (F.Pool id) at.all (told mid.journal) → HasStaged old mid names office.stages at.all
      staged_doomed unused near set one = record {
        used' = id ∷ names.used;
        all' = one.now;
        told_is = one.is;
        grows = record {
          given = each_name (λ asked. is_given (slots old asked) ≡ true → is_given (slots mid asked) ≡ true) id
              (λ g. absurd (false≢true (sym (ap is_given unused) ∙ g))) (λ asked other g. ap is_given (others asked other) ∙ g);
          file = each_name (λ asked. is_given (slots old asked) ≡ true → one.now (F.Pool asked) ≡ at.all (F.Pool asked)) id
              (λ g. absurd (false≢true (sym (ap is_given unused) ∙ g))) (λ asked other g. one.others (F.Pool asked) other);
          metadata = λ asked e. one.others asked (apart asked id e);
          stage = λ i stage there. one.others (F.Stage stage.number) (stage_apart stage.number id);
          live = each_name (λ asked. item_of asked (slots mid asked) ≡ item_of asked (slots old asked)) id
              (ap (item_of id) there ∙ sym (ap (item_of id) unused)) (λ asked other. ap (item_of asked) (others asked other));
        };
        fits = fits_less n.digest_of (slots old) (slots mid) (uncertain old.journal) (uncertain mid.journal) at.all one.now
            (less_doomed (slots old) (slots mid) at.all one.now id set one.others) certain at.fits;
        all_used = each_name (λ asked. is_some (one.now (F.Pool asked)) ≡ true → is_some (slots mid asked) ≡ true) id
            (λ e. ap is_some there)
            (λ asked other e. ap is_some (others asked other) ∙ at.all_used asked (ap is_some (sym (one.others (F.Pool asked) other)) ∙ e));
        used = used_more (slots old) (slots mid) names.used id Doomed at.used unused near set;
      }
        where
          there : slots mid id ≡ Some Doomed
          there = set_there (slots old) (slots mid) id (Some Doomed) set

          others : (asked : PoolId) → is_same_name asked id ≡ false → slots mid asked ≡ slots old asked
          others = set_other (slots old) (slots mid) id (Some Doomed) set

      pub claims_doomed : slots old id ≡ None → IsSet (slots old) (slots mid) id (Some Doomed)
          → (asked : PoolId) → claims_of (slots mid asked) ≡ claims_of (slots old asked)
      claims_doomed unused set = each_name (λ asked. claims_of (slots mid asked) ≡ claims_of (slots old asked)) id
          (ap claims_of (set_there (slots old) (slots mid) id (Some Doomed) set) ∙ sym (ap claims_of unused))
          (λ asked other. ap claims_of (set_other (slots old) (slots mid) id (Some Doomed) set asked other))
