-- The office that was found, in its next epoch, and the index of its pool in buckets.
use Rattle.std.specs.Prelude.{is_some, option_map, map, ◌++◌}
use Rattle.std.proofs.Common.{◌≡◌, ℕ, ◌+◌, Bool, false, true, List, [], ◌∷◌, suc, Option, None, Some, Result, refl, sym, ap, ◌∙◌, subst, inl, inr, arith}
use Rattle.std.proofs.lemmas.Bool.{false≢true}
use Rattle.disk_trait.specs.declared.ids.PoolId.{PoolId}
use Rattle.disk_trait.specs.declared.ids.FileId.{FileId}
use Rattle.disk_trait.specs.declared.ids.FileId.TheVariants as F
use Rattle.disk_trait.specs.declared.disk.Disk.{Ghosts as DiskGhosts}
use Rattle.disk_trait.specs.Names.{is_same_file}
use Rattle.disk_trait.specs.Files.{Files, bytes_of}
use Rattle.disk_trait.specs.Images.{IsWithin}
use Rattle.pool_name.specs.declared.namer.Namer.{Ghosts as NamerGhosts}
use Rattle.intent_journal.specs.declared.changes.Change.{Change}
use Rattle.intent_journal.specs.declared.fault.JournalFault.{JournalFault}
use Rattle.intent_journal.specs.declared.journal.Journal.{Journal}
use Rattle.intent_journal.specs.Changes.{applied, names as named_by, AreChanges}
use Rattle.intent_journal.specs.Overlay.{intent_alone}
use Rattle.intent_journal.specs.ChangesLaws.{with_bytes_other, applied_other, applied_alike}
use Rattle.journal_view.specs.Found.{IsAlikeBut}
use Rattle.journal_view.specs.View.{told, uncertain, Committed, IsOldOrNew, FindsNow}
use Rattle.journal_view.specs.ViewLaws.{FindsOnly-each, FindsOnly-still, FindsNow-each, working_finds}
use Rattle.pool_index.specs.Index.{Index, TellsIn, TellsBuckets}
use Rattle.pool_changes.specs.Slots.{Slots}
use Rattle.pool_changes.specs.Kept.{slots_of, IsSame}
use Rattle.pool_changes.specs.Listed.{index_of}
use Rattle.pool_changes.specs.Written.{IsIndexFile, LeadsIndex}
use Rattle.pool_store.specs.declared.pool.Pool.{Pool}
use Rattle.pool_store.specs.Fits.{Fits}
use Rattle.pool_store.specs.FitsLaws.{fits_less}
use Rattle.pool_store.specs.Sweeps.{AreAllUsed}
use Rattle.ref_counts.specs.Numbers.{Items}
use Rattle.ref_counts.specs.Stored.{StoredHost}
use Rattle.host_partials.specs.declared.held.PartialHead.{PartialHead}
use Rattle.office_model.specs.Office.{Durable, Host, Names, raised}
use Rattle.office_model.specs.laws.ReopenLaws.{IsSoundDurable-raised}
use Rattle.office_files.specs.Layouts.{IsHeadFile}
use Rattle.office_files.specs.KeptLaws.{pool_kept, ids_kept}
use Rattle.office_files.specs.Pooled.{contents_of}
use Rattle.office_files.specs.Stands.{names_of, Stands}
use Rattle.office_files.specs.TableLayoutLaws.{second_alike}
use Rattle.office_changes.specs.ChangeLaws.{epoch_raised, is_of_index}
use Rattle.office_changes.specs.CleanLaws.{relisted_stands}
use Rattle.office_changes.specs.JoinedLaws.{applied_both, are_both}
use Rattle.office_catalog.specs.Known.{Known, with_epoch}
use Rattle.office_catalog.specs.Known as K
use Rattle.office_catalog.specs.Changed.{after, Leads}
use Rattle.office_catalog.specs.Held.{HoldsCatalog, HoldsIndex, HoldsNames}
use Rattle.store_parts.specs.KnownOffice.{indices_from, known_of_office, stands_catalog, head_of_catalog}
use Rattle.store_parts.specs.Held.{AreCountsOf, AreUsed, heads_of, IsEither, IsStored, MayBe}
use Rattle.store_parts.specs.StoredLaws.{stored_found, either_left}
use Rattle.store_parts.specs.WriteLaws.{tells_in_kept}
use Rattle.store_opening.specs.declared.next.NextEpoch.{NextEpoch}
use Rattle.store_opening.specs.KeptTables.{HasTablesOf}
use Rattle.store_opening.specs.Recovers.{IsHeld, Looks}
use Rattle.store_opening.specs.Next.{IsNext}

-- ---- Head alone is changed

pub head_only : (changes : List Change) (files : Files) (file : FileId) → map (λ change. change.file) changes ≡ F.Head ∷ []
    → is_same_file file F.Head ≡ false → applied changes files file ≡ files file
head_only [] files file named other = absurd cc
head_only (change ∷ []) files file named other =
    let one : change.file ≡ F.Head = cc in
    with_bytes_other files change.file change.bytes file (subst (λ (f : FileId). is_same_file file f ≡ false) (sym one) other)
head_only (change ∷ next ∷ changes) files file named other = absurd cc

pub content_apart : (id : PoolId) → is_same_file (F.Pool id) F.Head ≡ false
unfolding is_same_file
content_apart id = refl

pub table_apart : (host number : ℕ) → is_same_file (F.Table host number) F.Head ≡ false
unfolding is_same_file
table_apart host number = refl

pub index_apart : is_same_file F.PoolIndex F.Head ≡ false
unfolding is_same_file
index_apart = refl

pub bucket_apart : (byte : ℕ) → is_same_file (F.PoolBucket byte) F.Head ≡ false
unfolding is_same_file
bucket_apart byte = refl

names_same : (number : ℕ) (hosts : List Host) → K.names_of (indices_from number hosts) ≡ names_of hosts
names_same number [] = refl
names_same number (host ∷ hosts) = ap (λ ns. host.name ∷ ns) (names_same (suc number) hosts)

pub head_there : (epoch : ℕ) (names : List (List ℕ)) (found : Option (List ℕ)) → IsHeadFile (epoch + 1) names found → is_some found ≡ true
head_there epoch names None head = let e : epoch + 1 ≡ 0 = head.0 in absurd (omega (arith, e))
head_there epoch names (Some bytes) head = refl

-- ---- and behind the files of the index

index_file_is : (in_one : Bool) (old new : Index) (file : FileId) → IsIndexFile in_one old new file → is_of_index file ≡ true
index_file_is in_one old new file (inl (is, one)) = ap is_of_index is
index_file_is in_one old new file (inr (byte, within, is, called)) = ap is_of_index is

-- Head isn't of the index
not_head : (file : FileId) → is_of_index file ≡ true → is_same_file file F.Head ≡ false
not_head F.Head e = absurd (false≢true e)
not_head F.Intent e = absurd (false≢true e)
not_head F.Gate e = absurd (false≢true e)
not_head (F.Host host) e = absurd (false≢true e)
not_head (F.Table host number) e = absurd (false≢true e)
not_head (F.Counts host) e = absurd (false≢true e)
not_head F.PoolIndex e = index_apart
not_head (F.PoolBucket byte) e = bucket_apart byte
not_head (F.Partial host) e = absurd (false≢true e)
not_head (F.Pool id) e = absurd (false≢true e)
not_head (F.Stage number) e = absurd (false≢true e)

-- a list of Head alone names no other file
names_head : (changes : List Change) (file : FileId) → map (λ change. change.file) changes ≡ F.Head ∷ []
    → is_same_file file F.Head ≡ false → named_by changes file ≡ false
names_head [] file named other = absurd cc
names_head (change ∷ []) file named other =
    let one : change.file ≡ F.Head = cc in
    rw (subst (λ (f : FileId). is_same_file file f ≡ false) (sym one) other) refl
names_head (change ∷ next ∷ changes) file named other = absurd cc

module _ (in_one : Bool) (index : Index) (pooled heads : List Change) (leads : LeadsIndex in_one index index pooled)
    (named : map (λ change. change.file) heads ≡ F.Head ∷ []) where
  index_alone : (file : FileId) → is_of_index file ≡ false → named_by pooled file ≡ false
  index_alone file out = step (named_by pooled file) refl
    where
      step : (b : Bool) → named_by pooled file ≡ b → named_by pooled file ≡ false
      step true e = absurd (false≢true (sym out ∙ index_file_is in_one index index file (leads.only file e)))
      step false e = e

  pub both_are : AreChanges heads → AreChanges (pooled ++ heads)
  both_are are = are_both pooled heads leads.are are
      (λ file e. names_head heads file named (not_head file (index_file_is in_one index index file (leads.only file e))))

  module _ (all : Files) where
    pub at_other : (file : FileId) → is_same_file file F.Head ≡ false → applied (pooled ++ heads) all file ≡ applied pooled all file
    at_other file other =
        ap (λ (f : Files). f file) (applied_both pooled heads all) ∙ head_only heads (applied pooled all) file named other

    pub at_same : (file : FileId) → is_of_index file ≡ false → applied (pooled ++ heads) all file ≡ applied heads all file
    at_same file out =
        ap (λ (f : Files). f file) (applied_both pooled heads all)
        ∙ applied_alike heads (applied pooled all) all file (λ none. applied_other pooled all file (index_alone file out))

    pub at_neither : (file : FileId) → is_of_index file ≡ false → is_same_file file F.Head ≡ false
        → applied (pooled ++ heads) all file ≡ all file
    at_neither file out other = at_same file out ∙ head_only heads all file named other

    -- the index is in buckets, of the same names
    pub both_tells : TellsIn in_one index all → TellsBuckets index (applied (pooled ++ heads) all)
    both_tells tells =
        tells_in_kept false index (applied pooled all) (applied (pooled ++ heads) all) (at_other F.PoolIndex index_apart)
        (λ byte. at_other (F.PoolBucket byte) (bucket_apart byte)) (leads.leads all tells)

    -- the catalog is that of Head
    pub both_holds : (known : Known) → HoldsCatalog (applied heads all) known → HoldsCatalog (applied (pooled ++ heads) all) known
    both_holds known holds = record {
      is = holds.is;
      head = subst (HoldsNames known) (sym (at_same F.Head refl)) holds.head;
      each = λ host i e. subst (HoldsIndex i) (sym (at_same (F.Host host) refl)) (holds.each host i e);
    }

    -- and the files stand for the office
    pub both_stands : (digest_of : List ℕ → List ℕ) (shown : List StoredHost) (office : Durable)
        → is_some (applied heads all F.Head) ≡ true → TellsIn in_one index all
        → Stands digest_of index shown (applied heads all) (raised office)
        → Stands digest_of index shown (applied (pooled ++ heads) all) (raised office)
    both_stands digest_of shown office there tells stands =
        relisted_stands digest_of index index shown (applied heads all) (applied (pooled ++ heads) all) (raised office) office.pool
        office.ids
        (λ file metadata out. at_same file out) (λ id listed. (listed, at_same (F.Pool id) refl)) (λ id listed holds. listed)
        (λ none. false≢true (sym (ap is_some none) ∙ there)) (inr (both_tells tells))
        (pool_kept index (contents_of (applied heads all)) (contents_of (applied (pooled ++ heads) all))
        (λ id listed. ap bytes_of (sym (at_same (F.Pool id) refl))) digest_of office.pool stands.pool)
        (ids_kept index (contents_of (applied heads all)) (contents_of (applied (pooled ++ heads) all))
        (λ id listed. ap bytes_of (sym (at_same (F.Pool id) refl))) office.ids stands.ids) stands.sound stands

-- the changes lead to the next epoch
module _ (digest_of : List ℕ → List ℕ) (index : Index) (shown : List StoredHost) (all : Files) (office : Durable)
    (changes : List Change)
    (leads : Leads (known_of_office office) (with_epoch (known_of_office office) (office.epoch + 1)) (F.Head ∷ []) changes)
    (stands : Stands digest_of index shown all office) where
  head_raised : IsHeadFile (office.epoch + 1) (names_of office.hosts) (applied changes all F.Head)
  head_raised =
      subst (λ (ns : List (List ℕ)). IsHeadFile (office.epoch + 1) ns (applied changes all F.Head)) (names_same 0 office.hosts)
      (head_of_catalog (applied changes all) (with_epoch (known_of_office office) (office.epoch + 1))
      (leads.leads all (stands_catalog digest_of index shown all office stands)))

  pub raised_there : is_some (applied changes all F.Head) ≡ true
  raised_there = head_there office.epoch (names_of office.hosts) (applied changes all F.Head) head_raised

  pub raised_stands : Stands digest_of index shown (applied changes all) (raised office)
  raised_stands =
      epoch_raised digest_of index shown all (applied changes all) office
      (λ file metadata other. head_only changes all file leads.named other)
      (λ id listed. head_only changes all (F.Pool id) leads.named (content_apart id))
      (head_there office.epoch (names_of office.hosts) (applied changes all F.Head) head_raised) head_raised
      (IsSoundDurable-raised office stands.sound) stands

-- ---- the commit

module _ {N S : Type 0} {n : NamerGhosts N S} (pool : Pool N S n) (catalog : Known) (next : NextEpoch) (is : IsNext pool catalog next) where
  pub next_are : AreChanges next.changes
  next_are = subst AreChanges (sym is.changes_are)
      (both_are pool.in_one_file (index_of (slots_of pool.names)) is.pooled next.catalog.changes is.leads is.proposes.leads.named
      is.proposes.leads.are)

  pub next_done : {D : Type 0} {d : DiskGhosts D} (old new : Journal D d) → told new ≡ option_map (applied next.changes) (told old)
      → told new ≡ option_map (applied (is.pooled ++ next.catalog.changes)) (told old)
  next_done old new done = done ∙ ap (λ (cs : List Change). option_map (applied cs) (told old)) is.changes_are

  -- whatever the commit answers, the tables are those that were told
  pub tables_raised : {D : Type 0} {d : DiskGhosts D} (old new : Journal D d) (result : Result (Unit {0}) JournalFault)
      → Committed old (is.pooled ++ next.catalog.changes) result new → (all : Files) → told old ≡ Some all
      → FindsNow new (HasTablesOf all)
  tables_raised old new result committed all told_is =
      FindsNow-each (IsOldOrNew all (uncertain old) (is.pooled ++ next.catalog.changes)) (HasTablesOf all) new step
      (committed.now all told_is)
    where
      step : (found : Files) → IsOldOrNew all (uncertain old) (is.pooled ++ next.catalog.changes) found → HasTablesOf all found
      step found (inl before) = λ host number. before.metadata (F.Table host number) refl
      step found (inr after) = λ host number.
          after.metadata (F.Table host number) refl
          ∙ at_neither pool.in_one_file (index_of (slots_of pool.names)) is.pooled next.catalog.changes is.leads is.proposes.leads.named all
          (F.Table host number) refl (table_apart host number)

  pub next_committed : {D : Type 0} {d : DiskGhosts D} (old new : Journal D d) (result : Result (Unit {0}) JournalFault)
      → Committed old next.changes result new → Committed old (is.pooled ++ next.catalog.changes) result new
  next_committed old new result committed = subst (λ (cs : List Change). Committed old cs result new) is.changes_are committed

-- ---- parts that hold an office

module _ {D N S : Type 0} {d : DiskGhosts D} {n : NamerGhosts N S} (journal : Journal D d) (pool : Pool N S n) (catalog : Known)
    (office : Durable) (names : Names) (at : IsStored journal pool catalog office names) where
  -- whatever a crash leaves now stands for the office
  pub stored_may : (other : Durable) → MayBe n.digest_of journal office other
  stored_may other = record {
    each = FindsNow-each (IsAlikeBut at.all (uncertain journal)) (IsEither n.digest_of office other) journal
        (λ found alike. inl (stored_found journal pool catalog office names at found alike))
        (working_finds journal at.all at.journal_ready at.told_is);
    tells = ap is_some at.told_is;
  }

  -- nothing was written
  pub looks_still : (other : Durable) → Looks n.digest_of journal journal office other
  looks_still other = record { now = stored_may other; crash = FindsOnly-still journal (IsEither n.digest_of office other) }

  module _ (next : NextEpoch) (is : IsNext pool catalog next) where
    abbrev heads : List Change
    heads = next.catalog.changes

    abbrev changes : List Change
    changes = is.pooled ++ heads

    leads : Leads (known_of_office office) (with_epoch (known_of_office office) (office.epoch + 1)) (F.Head ∷ []) heads
    leads = subst (λ (known : Known). Leads known (with_epoch known (known.epoch + 1)) (F.Head ∷ []) heads) at.catalog_is
        is.proposes.leads

    next_stands : Stands n.digest_of (index_of (slots_of pool.names)) at.shown (applied changes at.all) (raised office)
    next_stands =
        both_stands pool.in_one_file (index_of (slots_of pool.names)) is.pooled heads is.leads leads.named at.all n.digest_of at.shown
        office (raised_there n.digest_of (index_of (slots_of pool.names)) at.shown at.all office heads leads at.stands) at.tells
        (raised_stands n.digest_of (index_of (slots_of pool.names)) at.shown at.all office heads leads at.stands)

    content_same : (id : PoolId) → applied changes at.all (F.Pool id) ≡ at.all (F.Pool id)
    content_same id =
        at_neither pool.in_one_file (index_of (slots_of pool.names)) is.pooled heads is.leads leads.named at.all (F.Pool id) refl
        (content_apart id)

    table_same : (host number : ℕ) → applied changes at.all (F.Table host number) ≡ at.all (F.Table host number)
    table_same host number =
        at_neither pool.in_one_file (index_of (slots_of pool.names)) is.pooled heads is.leads leads.named at.all (F.Table host number) refl
        (table_apart host number)

    module _ (new : Journal D d) (after_pool : Pool N S n) (same : IsSame (slots_of pool.names) (slots_of after_pool.names))
        (form : after_pool.in_one_file ≡ false) where
      slots_same : slots_of pool.names ≡ slots_of after_pool.names
      slots_same = λ i id. sym (same id) i

      stored_raised : (known : Known) → known ≡ after next.catalog catalog → new.halted ≡ false
          → told new ≡ option_map (applied changes) (told journal) → (is_some (told journal) ≡ true → IsWithin (uncertain new) intent_alone)
          → IsStored new after_pool known (raised office) names
      stored_raised known known_is ready done certain = record {
        journal_ready = ready;
        all = applied changes at.all;
        shown = at.shown;
        told_is = done ∙ ap (option_map (applied changes)) at.told_is;
        stands = subst (λ (s : Slots). Stands n.digest_of (index_of s) at.shown (applied changes at.all) (raised office)) slots_same
            next_stands;
        tells = subst (λ (b : Bool). TellsIn b (index_of (slots_of after_pool.names)) (applied changes at.all)) (sym form)
            (subst (λ (s : Slots). TellsBuckets (index_of s) (applied changes at.all)) slots_same
            (both_tells pool.in_one_file (index_of (slots_of pool.names)) is.pooled heads is.leads leads.named at.all at.tells));
        fits = subst (λ (s : Slots). Fits n.digest_of s (uncertain new) (applied changes at.all)) slots_same
            (fits_less n.digest_of (slots_of pool.names) (slots_of pool.names) (uncertain journal) (uncertain new) at.all
            (applied changes at.all)
            (record { given = λ id g. g; size = λ id g. refl; file = λ id g. content_same id; live = λ id l. l })
            (λ id live. (certain (ap is_some at.told_is)).each (F.Pool id) refl) at.fits);
        all_used = subst (λ (s : Slots). AreAllUsed s (applied changes at.all)) slots_same
            (λ id there. at.all_used id (ap is_some (sym (content_same id)) ∙ there));
        used = subst (λ (s : Slots). AreUsed s names.used) slots_same at.used;
        digest = at.digest;
        second = second_alike names.old_hosts at.all (applied changes at.all) table_same at.second;
        catalog_is = known_is ∙ is.proposes.after_is ∙ ap (λ (k : Known). with_epoch k (k.epoch + 1)) at.catalog_is;
      }

      pub held_raised : (counts : List Items) → AreCountsOf counts at.shown → (partials : List (Option PartialHead))
          → partials ≡ heads_of office.hosts → (known : Known) → known ≡ after next.catalog catalog
          → new.halted ≡ false → told new ≡ option_map (applied changes) (told journal)
          → (is_some (told journal) ≡ true → IsWithin (uncertain new) intent_alone)
          → IsHeld new after_pool known counts partials (raised office) names
      unfolding stored_raised
      held_raised counts counted partials parked known known_is ready done certain = record {
        stored = stored_raised known known_is ready done certain;
        counted = counted;
        parked = parked;
      }

    either_raised : (found : Files) → IsOldOrNew at.all (uncertain journal) changes found
        → IsEither n.digest_of office (raised office) found
    either_raised = either_left journal pool catalog office names at changes (raised office)
        (record { index = index_of (slots_of pool.names); shown = at.shown; stands = next_stands })

    -- whatever the commit answers
    pub looks_raised : (new : Journal D d) (result : Result (Unit {0}) JournalFault) → Committed journal changes result new
        → Looks n.digest_of journal new office (raised office)
    looks_raised new result committed = record {
      now = record {
        each = FindsNow-each (IsOldOrNew at.all (uncertain journal) changes) (IsEither n.digest_of office
            (raised office)) new either_raised
            (committed.now at.all at.told_is);
        tells = committed.tells (ap is_some at.told_is);
      };
      crash = FindsOnly-each (IsOldOrNew at.all (uncertain journal) changes) (IsEither n.digest_of office
          (raised office)) journal new either_raised
          (committed.crash at.all at.told_is);
    }
