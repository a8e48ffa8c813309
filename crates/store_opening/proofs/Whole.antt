-- What is whole stays so.
--     whole_of      what was read of files is whole
--     whole_raised      so it is in its next epoch
--     buckets_of      and its index is in buckets
--     whole_parts, listed_parts      and in the parts of a store
--     keeps_data      an opening of a journal leaves contents and stages
use Rattle.std.specs.Prelude.{◌⊎◌, ◌&&◌, ◌||◌, ◌++◌, not, is_some, option_map, length}
use Rattle.std.proofs.Common.{◌≡◌, ℕ, ◌+◌, ◌≤◌, Bool, true, false, List, [], ◌∷◌, Option, None, Some, refl, sym, ap, ◌∙◌, subst, inl, inr}
use Rattle.std.proofs.lemmas.Bool.{true≢false, false≢true}
use Rattle.disk_trait.specs.declared.ids.PoolId.{PoolId}
use Rattle.disk_trait.specs.declared.ids.FileId.{FileId}
use Rattle.disk_trait.specs.declared.ids.FileId.TheVariants as F
use Rattle.disk_trait.specs.declared.disk.Disk.{Ghosts as DiskGhosts}
use Rattle.disk_trait.specs.Names.{is_same_file}
use Rattle.disk_trait.specs.NamesLaws.{same_file}
use Rattle.disk_trait.specs.Files.{Files}
use Rattle.pool_name.specs.declared.namer.Namer.{Ghosts as NamerGhosts}
use Rattle.intent_journal.specs.declared.changes.Change.{Change}
use Rattle.intent_journal.specs.declared.journal.Journal.{Journal}
use Rattle.intent_journal.specs.Calls.{Opens as OpensJournal}
use Rattle.intent_journal.specs.Changes.{applied}
use Rattle.intent_journal.specs.ChangesLaws.{either}
use Rattle.journal_view.specs.Found.{seen}
use Rattle.journal_view.specs.FoundLaws.{told_raw}
use Rattle.journal_view.specs.View.{told}
use Rattle.backup_index.specs.Index.{Index}
use Rattle.pool_index.specs.declared.item.IndexItem.{IndexItem}
use Rattle.pool_index.specs.Items.{byte_of, item_at}
use Rattle.pool_index.specs.Layout.{bucket_of}
use Rattle.pool_index.specs.Index.{Index as PoolListing, TellsIn, TellsBuckets}
use Rattle.pool_changes.specs.Slots.{Slots}
use Rattle.pool_changes.specs.Kept.{slots_of, IsSame}
use Rattle.pool_changes.specs.Listed.{index_of}
use Rattle.pool_store.specs.declared.pool.Pool.{Pool}
use Rattle.pool_store.specs.Opened.{Opens}
use Rattle.pool_store.specs.Opening.{AreThePoolFiles}
use Rattle.ref_counts.specs.Numbers.{Items}
use Rattle.host_counts.specs.Held.{TellsCounts, AreTold}
use Rattle.host_partials.specs.declared.held.PartialHead.{PartialHead}
use Rattle.host_partials.specs.Held.{TellsHead, AreTold as ArePartialsTold}
use Rattle.office_catalog.specs.Known.{Known, with_epoch}
use Rattle.office_catalog.specs.Changed.{after}
use Rattle.office_catalog.specs.Held.{HoldsCatalog}
use Rattle.office_changes.specs.ChangeLaws.{is_of_index}
use Rattle.office_files.specs.Owners.{owner_of}
use Rattle.store_parts.specs.KnownOffice.{head_of_catalog}
use Rattle.office_model.specs.Office.{last_sequence}
use Rattle.store_parts.specs.declared.parts.StoreParts.{StoreParts}
use Rattle.store_parts.specs.WriteLaws.{tells_in_kept}
use Rattle.store_opening.specs.declared.found.Found.{Found}
use Rattle.store_opening.specs.declared.fault.OpenRefusal.{OpenRefusal}
use Rattle.store_opening.specs.declared.fault.OpenRefusal.TheVariants.{EpochsSpent, DiskFault, Memory}
use Rattle.store_opening.specs.declared.next.NextEpoch.{NextEpoch}
use Rattle.store_opening.specs.Next.{IsNext}
use Rattle.store_opening.specs.Unlisted.{AreAllListed}
use Rattle.store_opening.specs.Tables.{HasTables}
use Rattle.store_opening.specs.Reopens.{IsOfFound}
use Rattle.store_opening.specs.Strays.{is_known, is_stray, HasNoStray}
use Rattle.store_opening.specs.Whole.{IsWhole, IsInBuckets, IsLast, SaysSpent, KeepsData, IsAllOf, HasBucketsOf, HasAllOf, HasBuckets}
use Rattle.store_opening.proofs.Raising.{content_apart, table_apart, head_there, at_neither, both_tells, both_holds}

-- ---- what was read

-- a pool that was opened on files, as a store sees them
opens_seen : (in_one_file : Bool) (slots : Slots) (raw all : Files) → seen raw ≡ all → Opens in_one_file slots raw
    → Opens in_one_file slots all
opens_seen in_one_file slots raw all same opens = record {
  tells = tells_in_kept in_one_file (index_of slots) raw all (sym (at F.PoolIndex)) (λ byte. sym (at (F.PoolBucket byte))) opens.tells;
  used = λ id. opens.used id ∙ ap is_some (at (F.Pool id));
}
  where
    at : (file : FileId) → seen raw file ≡ all file
    at file = ap (λ (f : Files). f file) same

pub opened_told : (files : Option Files) (in_one_file : Bool) (slots : Slots) (all : Files) → option_map seen files ≡ Some all
    → ((raw : Files) → files ≡ Some raw → Opens in_one_file slots raw) → Opens in_one_file slots all
opened_told files in_one_file slots all is opens =
    let raw = told_raw files all is in opens_seen in_one_file slots raw.0 all raw.2 (opens raw.0 raw.1)

pub whole_of : (files : Option Files) (in_one_file : Bool) (slots : Slots) (catalog : Known) (counts : List Items)
    (partials : List (Option PartialHead)) (all : Files) → option_map seen files ≡ Some all
    → ((raw : Files) → files ≡ Some raw → Opens in_one_file slots raw) → HoldsCatalog all catalog
    → AreTold all (length catalog.hosts) counts → ArePartialsTold all (length catalog.hosts) partials → HasNoStray catalog all
    → AreAllListed (index_of slots) counts → HasTables catalog all → IsWhole in_one_file slots catalog counts partials all
whole_of files in_one_file slots catalog counts partials all is opens holds counted parked no_stray listed tables = record {
  pool = opened_told files in_one_file slots all is opens;
  holds = holds;
  counted = counted;
  parked = parked;
  no_stray = no_stray;
  listed = listed;
  tables = tables;
}

-- ---- the next epoch

counts_apart : (host : ℕ) → is_same_file (F.Counts host) F.Head ≡ false
unfolding is_same_file
counts_apart host = refl

partial_apart : (host : ℕ) → is_same_file (F.Partial host) F.Head ≡ false
unfolding is_same_file
partial_apart host = refl

-- where Head is there, no fewer files are called for
headed_calm : (known index headed : Bool) → (not known || (index && not headed)) ≡ false → (not known || (index && not true)) ≡ false
headed_calm true true headed e = refl
headed_calm true false headed e = refl
headed_calm false index headed e = absurd (true≢false e)

-- a file of the index is no stray beside a head
index_calm : (hosts : List Index) (file : FileId) → is_of_index file ≡ true → is_stray hosts true file ≡ false
index_calm hosts F.Head e = absurd (false≢true e)
index_calm hosts F.Intent e = absurd (false≢true e)
index_calm hosts F.Gate e = absurd (false≢true e)
index_calm hosts (F.Host host) e = absurd (false≢true e)
index_calm hosts (F.Table host number) e = absurd (false≢true e)
index_calm hosts (F.Counts host) e = absurd (false≢true e)
index_calm hosts F.PoolIndex e = refl
index_calm hosts (F.PoolBucket byte) e = refl
index_calm hosts (F.Partial host) e = absurd (false≢true e)
index_calm hosts (F.Pool id) e = absurd (false≢true e)
index_calm hosts (F.Stage number) e = absurd (false≢true e)

module _ {N S : Type 0} {n : NamerGhosts N S} (pool : Pool N S n) (catalog : Known) (next : NextEpoch) (is : IsNext pool catalog next)
    (all : Files) (holds : HoldsCatalog all catalog) where
  abbrev changes : List Change
  changes = is.pooled ++ next.catalog.changes

  abbrev listing : PoolListing
  listing = index_of (slots_of pool.names)

  abbrev image : Files
  image = applied changes all

  other_same : (file : FileId) → is_of_index file ≡ false → is_same_file file F.Head ≡ false → image file ≡ all file
  other_same file out other =
      at_neither pool.in_one_file listing is.pooled next.catalog.changes is.leads is.proposes.leads.named all file out other

  next_holds : HoldsCatalog image (with_epoch catalog (catalog.epoch + 1))
  next_holds =
      both_holds pool.in_one_file listing is.pooled next.catalog.changes is.leads is.proposes.leads.named all
      (with_epoch catalog (catalog.epoch + 1)) (is.proposes.leads.leads all holds)

  head_is_there : is_some (image F.Head) ≡ true
  head_is_there = head_there catalog.epoch _ (image F.Head) (head_of_catalog image (with_epoch catalog (catalog.epoch + 1)) next_holds)

  calm_raised : HasNoStray catalog all → HasNoStray (with_epoch catalog (catalog.epoch + 1)) image
  calm_raised no_stray = λ file there.
      subst (λ (b : Bool). is_stray catalog.hosts b file ≡ false) (sym head_is_there) (elim (either (is_of_index file)) [
        | inl index ↦ index_calm catalog.hosts file index
        | inr out ↦ elim (either (is_same_file file F.Head)) [
          | inl one ↦ subst (λ (f : FileId). is_stray catalog.hosts true f ≡ false) (sym (same_file file F.Head one)) refl
          | inr other ↦ headed_calm (is_known catalog.hosts (owner_of file)) (is_of_index file) (is_some (all F.Head))
              (no_stray file (ap is_some (sym (other_same file out other)) ∙ there))
        ]
      ])

  next_whole : (counts : List Items) (partials : List (Option PartialHead))
      → IsWhole pool.in_one_file (slots_of pool.names) catalog counts partials all
      → IsWhole false (slots_of pool.names) (with_epoch catalog (catalog.epoch + 1)) counts partials image
  next_whole counts partials whole = record {
    pool = record {
      tells = both_tells pool.in_one_file listing is.pooled next.catalog.changes is.leads is.proposes.leads.named all whole.pool.tells;
      used = λ id. whole.pool.used id ∙ ap is_some (sym (other_same (F.Pool id) refl (content_apart id)));
    };
    holds = next_holds;
    counted = record {
      count = whole.counted.count;
      each = λ host items e.
          subst (TellsCounts host items) (sym (other_same (F.Counts host) refl (counts_apart host))) (whole.counted.each host items e);
    };
    parked = record {
      count = whole.parked.count;
      each = λ host head e.
          subst (TellsHead host head) (sym (other_same (F.Partial host) refl (partial_apart host))) (whole.parked.each host head e);
    };
    no_stray = calm_raised whole.no_stray;
    listed = whole.listed;
    tables = λ host index at i line is_line.
        ap is_some (other_same (F.Table index.host line.number) refl (table_apart index.host line.number))
        ∙ whole.tables host index at i line is_line;
  }

mapped_some : (f : Files → Files) (files : Option Files) (all : Files) → option_map f files ≡ Some all
    → (before : Files) × (files ≡ Some before) × (f before ≡ all)
mapped_some f None all e = absurd cc
mapped_some f (Some before) all e = (before, refl, cc)

pub whole_raised : {D N S : Type 0} {d : DiskGhosts D} {n : NamerGhosts N S} (old new : Journal D d) (pool after_pool : Pool N S n)
    (catalog : Known) (counts after_counts : List Items) (partials after_partials : List (Option PartialHead)) (next : NextEpoch)
    → IsNext pool catalog next → (known : Known)
    → known ≡ after next.catalog catalog → after_counts ≡ counts → after_partials ≡ partials
    → IsSame (slots_of pool.names) (slots_of after_pool.names) → after_pool.in_one_file ≡ false
    → told new ≡ option_map (applied next.changes) (told old)
    → ((all : Files) → told old ≡ Some all → IsWhole pool.in_one_file (slots_of pool.names) catalog counts partials all)
    → (all : Files) → told new ≡ Some all → IsWhole after_pool.in_one_file (slots_of after_pool.names) known after_counts after_partials all
whole_raised old new pool after_pool catalog counts after_counts partials after_partials next is known known_is counts_same partials_same same form done whole = λ all told_is.
    let slots_same : slots_of pool.names ≡ slots_of after_pool.names = λ i id. sym (same id) i in
    let made : told new ≡ option_map (applied (is.pooled ++ next.catalog.changes)) (told old) =
    done ∙ ap (λ (cs : List Change). option_map (applied cs) (told old)) is.changes_are in
    let before = mapped_some (applied (is.pooled ++ next.catalog.changes)) (told old) all (sym made ∙ told_is) in
    let at = whole before.0 before.1 in
    subst (λ (cs : List Items). IsWhole after_pool.in_one_file (slots_of after_pool.names) known cs after_partials all) (sym counts_same)
    (subst (λ (hs : List (Option PartialHead)). IsWhole after_pool.in_one_file (slots_of after_pool.names) known counts hs all)
    (sym partials_same)
    (subst (λ (files : Files). IsWhole after_pool.in_one_file (slots_of after_pool.names) known counts partials files) before.2
    (subst (λ (b : Bool). IsWhole b (slots_of after_pool.names) known counts partials (applied (is.pooled ++ next.catalog.changes) before.0))
    (sym form)
    (subst (λ (s : Slots). IsWhole false s known counts partials (applied (is.pooled ++ next.catalog.changes) before.0)) slots_same
    (subst (λ (k : Known). IsWhole false (slots_of pool.names) k counts partials (applied (is.pooled ++ next.catalog.changes) before.0))
    (sym (known_is ∙ is.proposes.after_is))
    (next_whole pool catalog next is before.0 at.holds counts partials at))))))

-- ---- buckets

bucket_there : (byte : ℕ) (items : List IndexItem) (id : PoolId) → is_some (item_at items id) ≡ true → is_some (bucket_of byte items) ≡ true
bucket_there byte [] id listed = absurd (false≢true listed)
bucket_there byte (item ∷ items) id listed = refl

pub in_buckets : (slots : Slots) (all : Files) → TellsBuckets (index_of slots) all → IsInBuckets slots all
in_buckets slots all tells = record {
  none = tells.none;
  each = λ id listed.
      let byte = tells.each (byte_of id) (tells.within id listed) in
      ap is_some byte.is ∙ bucket_there (byte_of id) byte.items id (ap is_some (sym (byte.each id refl)) ∙ listed);
}

pub buckets_of : {N S : Type 0} {n : NamerGhosts N S} (files : Option Files) (found : Found N S n) → found.pool.in_one_file ≡ false
    → IsAllOf files found → HasBucketsOf files found
buckets_of files found form whole = λ all is.
    in_buckets (slots_of found.pool.names) all
    (subst (λ (b : Bool). TellsIn b (index_of (slots_of found.pool.names)) all) form (whole all is).pool.tells)

-- ---- the last epoch

pub last_whole : (in_one_file : Bool) (slots : Slots) (catalog : Known) (counts : List Items) (partials : List (Option PartialHead))
    (all : Files) → IsWhole in_one_file slots catalog counts partials all → (epoch : ℕ) → epoch ≡ catalog.epoch → last_sequence ≤ epoch
    → IsLast all
last_whole in_one_file slots catalog counts partials all whole epoch read last = record {
  in_one_file = in_one_file;
  slots = slots;
  catalog = catalog;
  counts = counts;
  partials = partials;
  whole = whole;
  last = subst (λ (e : ℕ). last_sequence ≤ e) read last;
}

-- ---- the parts of a store

module _ {D N S : Type 0} {d : DiskGhosts D} {n : NamerGhosts N S} {next_stage next_reader : ℕ} (parts : StoreParts D N S d n)
    (found : Found N S n) (is : IsOfFound parts found next_stage next_reader) where
  pub whole_parts : (journal : Journal D d) → parts.journal ≡ journal → IsAllOf (told journal) found → HasAllOf parts
  whole_parts journal same whole = λ all told_is.
      subst (λ (p : Pool N S n). IsWhole p.in_one_file (slots_of p.names) parts.catalog parts.counts parts.partials all) (sym is.pool_is)
      (subst (λ (k : Known). IsWhole found.pool.in_one_file (slots_of found.pool.names) k parts.counts parts.partials all) (sym is.catalog_is)
      (subst (λ (c : List Items). IsWhole found.pool.in_one_file (slots_of found.pool.names) found.catalog c parts.partials all)
      (sym is.counts_are)
      (subst (λ (h : List (Option PartialHead)). IsWhole found.pool.in_one_file (slots_of found.pool.names) found.catalog found.counts h all)
      (sym is.partials_are)
      (whole all (ap (λ (j : Journal D d). told j) (sym same) ∙ told_is)))))

  pub buckets_parts : (journal : Journal D d) → parts.journal ≡ journal → HasBucketsOf (told journal) found → HasBuckets parts
  buckets_parts journal same has = λ all told_is.
      subst (λ (p : Pool N S n). IsInBuckets (slots_of p.names) all) (sym is.pool_is)
      (has all (ap (λ (j : Journal D d). told j) (sym same) ∙ told_is))

  pub listed_parts : (files : Option Files) → AreThePoolFiles files (slots_of found.pool.names)
      → AreThePoolFiles files (slots_of parts.pool.names)
  listed_parts files listed = subst (λ (p : Pool N S n). AreThePoolFiles files (slots_of p.names)) (sym is.pool_is) listed

-- ---- the disk

pub keeps_data : {D : Type 0} {d : DiskGhosts D} (old : D) (new : Journal D d) → OpensJournal old new
    → KeepsData (d.files old) (d.files new.disk)
keeps_data old new opens = λ all is.
    let r = opens.recoverable all is in
    let rest = opens.at_rest all r.files is r.comes in
    (rest.now, rest.is, λ file kind. rest.alike.contents file kind ∙ sym (r.comes.contents file kind refl))

-- the Pool files are those of before
pub listed_before : (before now : Option Files) (slots : Slots) → KeepsData before now → AreThePoolFiles now slots
    → AreThePoolFiles before slots
listed_before before now slots keeps listed = λ all is id.
    let w = keeps all is in listed w.0 w.1 id ∙ ap is_some (w.2 (F.Pool id) refl)

-- the disk came back
pub spent_closed : {D : Type 0} {d : DiskGhosts D} (journal : Journal D d) (disk : D) (refusal : OpenRefusal) → disk ≡ journal.disk
    → SaysSpent (told journal) refusal → SaysSpent (option_map seen (d.files disk)) refusal
spent_closed {D} {d} journal disk refusal same spent =
    subst (λ (k : D). SaysSpent (option_map seen (d.files k)) refusal) (sym same) spent

pub not_spent : (refusal : OpenRefusal) → (refusal ≡ DiskFault) ⊎ (refusal ≡ Memory) → refusal ≡ EpochsSpent → ⊥
not_spent refusal (inl fault) e = let clash : DiskFault ≡ EpochsSpent = sym fault ∙ e in absurd cc
not_spent refusal (inr none) e = let clash : Memory ≡ EpochsSpent = sym none ∙ e in absurd cc
