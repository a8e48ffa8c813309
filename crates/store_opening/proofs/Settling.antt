-- To which office the disk of an opening came.
--     synced_of, stopped_of      from the clauses of a journal
--     ends_still, ends_spent, ends_raised, ends_between      the office that an opening began with
--     settles_then, stops_unopened      the office to which a disk came
use Rattle.std.proofs.Common.{◌≡◌, ℕ, ◌<◌, false, List, Some, Ok, Err, refl, sym, subst, inl, inr, ⊎_elim}
use Rattle.disk_trait.specs.declared.ids.FileId.TheVariants as F
use Rattle.disk_trait.specs.declared.disk.Disk.{Ghosts as DiskGhosts}
use Rattle.disk_trait.specs.Files.{Files}
use Rattle.disk_trait.specs.ImagesLaws.{leaves_wider, leaves_then, only_wider}
use Rattle.pool_name.specs.declared.namer.Namer.{Ghosts as NamerGhosts}
use Rattle.intent_journal.specs.declared.fault.OpenJournalFault.{OpenJournalFault}
use Rattle.intent_journal.specs.declared.journal.Journal.{Journal}
use Rattle.intent_journal.specs.Calls.{Opens, Refuses}
use Rattle.intent_journal.specs.Overlay.{Recovers as RecoversDisk}
use Rattle.journal_view.specs.Found.{seen, FindsAll, IsOpenable, IsAlikeBut}
use Rattle.journal_view.specs.FoundLaws.{itself, rest_told, finds_each, finds_whole, finds_wider}
use Rattle.journal_view.specs.View.{told, uncertain, Quiet, FindsNow}
use Rattle.journal_view.specs.ViewLaws.{FindsOnly-each}
use Rattle.pool_changes.specs.Kept.{slots_of, IsSame}
use Rattle.pool_changes.specs.Listed.{index_of}
use Rattle.office_model.specs.Office.{Durable, Names, raised, last_sequence}
use Rattle.office_model.specs.Step.{IsPicked}
use Rattle.office_files.specs.Stands.{StandsFor}
use Rattle.store_parts.specs.Held.{IsEither, IsStored}
use Rattle.store_parts.specs.StoredLaws.{alike_stands}
use Rattle.store_opening.specs.declared.found.Found.{Found}
use Rattle.store_opening.specs.declared.fault.OpenRefusal.{OpenRefusal}
use Rattle.store_opening.specs.KeptTables.{HasTablesOf}
use Rattle.store_opening.specs.Recovers.{Holds, IsHeld, Looks, Recovers}
use Rattle.store_opening.specs.Settles.{Synced, IsSynced, MayBeSynced, ComesToOne, IsStopped, IsOfOne, Ends}
use Rattle.store_opening.specs.SettlesLaws.{only_after}
use Rattle.store_opening.proofs.Beginning.{begins_raised}

-- ---- from a journal

module _ {D : Type 0} {d : DiskGhosts D} where
  synced_by : (old new : D) (files : Files) → RecoversDisk d.files d.uncertain d.moment d.left_since old new files
      → Synced d old new (seen files)
  synced_by old new files recovers = record {
    synced = recovers.synced;
    up_to = recovers.up_to;
    from_then = only_wider recovers.from_then
        (λ image comes. finds_whole (λ (f : Files). f ≡ seen files) files image comes refl);
  }

  pub synced_of : (old : D) (new : Journal D d) (all : Files) → d.files old ≡ Some all → Opens old new → IsSynced d old new.disk
  synced_of old new all is opens =
      let r = opens.recoverable all is in record {
        found = seen r.files;
        told_is = rest_told (d.files new.disk) (d.uncertain new.disk) r.files (opens.at_rest all r.files is r.comes);
        came = synced_by old new.disk r.files (opens.recovers all r.files is r.comes);
      }

  pub stopped_of : (old new : D) (fault : OpenJournalFault) (all : Files) → d.files old ≡ Some all
      → IsOpenable (d.files old) (d.uncertain old) → Refuses d.files d.uncertain d.moment d.left_since d.fault_count old new fault
      → MayBeSynced d old new
  stopped_of old new fault all is start refuses =
      let here = start all (itself (d.files old) (d.uncertain old) all is) in
      let files = here.in_image.files in ⊎_elim
      (λ before. inl before)
      (λ recovers. inr (
        seen files,
        record {
          image = all;
          left = itself (d.files old) (d.uncertain old) all is;
          in_image = record { files = files; comes = here.in_image.comes; is = refl };
        },
        synced_by old new files recovers,
      ))
      (refuses.any_moment all files is here.in_image.comes)

-- ---- a disk at rest

module _ {D N S : Type 0} {d : DiskGhosts D} (n : NamerGhosts N S) (old : Journal D d) (a b : Durable) (holds : Holds n.digest_of old a b) where
  of_told : (office : Durable) → StandsFor n.digest_of holds.all office → (all : Files) → told old ≡ Some all
      → StandsFor n.digest_of all office
  of_told office stands all is =
      let same : holds.all ≡ all = cc (holds.told_is, is) in
      subst (λ (files : Files). StandsFor n.digest_of files office) same stands

  one_still : (office : Durable) → StandsFor n.digest_of holds.all office → (new : Journal D d) → Quiet old new
      → IsOfOne d n.digest_of old.disk new.disk office
  one_still office s new quiet = record {
    was = of_told office s;
    crash = FindsOnly-each (IsAlikeBut holds.all (uncertain old)) (IsEither n.digest_of office (raised office)) old new
        (λ found alike. inl (alike_stands n.digest_of s.index s.shown holds.all found office (uncertain old)
        (λ id listed. holds.certain.each (F.Pool id) refl) s.stands alike))
        (quiet.crash holds.all holds.told_is);
  }

  -- nothing was found, and nothing written
  pub ends_still : (new : Journal D d) (refusal : OpenRefusal) → Quiet old new → Ends {n = n} a b (Err refusal) old.disk new
  ends_still new refusal quiet = elim holds.either [
    | inl s ↦ (a, inl refl, one_still a s new quiet)
    | inr s ↦ (b, inr refl, one_still b s new quiet)
  ]

  module _ (mid : Journal D d) (found : Found N S n) (recovers : Recovers mid found a b) (quiet : Quiet old mid) where
    stood : StandsFor n.digest_of holds.all recovers.office
    stood =
        let same : recovers.stored.all ≡ holds.all = cc (recovers.stored.told_is, quiet.told_same, holds.told_is) in
        subst (λ (files : Files). StandsFor n.digest_of files recovers.office) same
        (record { index = index_of (slots_of found.pool.names); shown = recovers.stored.shown; stands = recovers.stored.stands })

    pub ends_spent : (refusal : OpenRefusal) → Ends {n = n} a b (Err refusal) old.disk mid
    ends_spent refusal = (recovers.office, recovers.is_one, one_still recovers.office stood mid quiet)

    module _ (new : Journal D d) (looks : (office : Durable) (names : Names) → IsStored mid found.pool found.catalog office names
        → Looks n.digest_of mid new office (raised office)) where
      one_looks : IsOfOne d n.digest_of old.disk new.disk recovers.office
      one_looks = record {
        was = of_told recovers.office stood;
        crash = leaves_then (one_still recovers.office stood mid quiet).crash
            (looks recovers.office recovers.names recovers.stored).crash;
      }

      pub ends_between : (refusal : OpenRefusal) → Ends {n = n} a b (Err refusal) old.disk new
      ends_between refusal = (recovers.office, recovers.is_one, one_looks)

      pub ends_raised : (ready : old.halted ≡ false) (next : Found N S n) (epoch : ℕ) (read : epoch ≡ found.catalog.epoch)
          (room : epoch < last_sequence) (same : IsSame (slots_of found.pool.names) (slots_of next.pool.names))
          → ((office : Durable) (names : Names) → IsHeld mid found.pool found.catalog found.counts found.partials office names
          → IsHeld new next.pool next.catalog next.counts next.partials (raised office) names)
          → ((all : Files) → told mid ≡ Some all → FindsNow new (HasTablesOf all)) → Ends a b (Ok next) old.disk new
      unfolding begins_raised
      ends_raised ready next epoch read room same held tables =
          (begins_raised n old a b holds ready mid found recovers quiet new next epoch read room same held tables, one_looks)

-- ---- a disk

module _ {D : Type 0} (d : DiskGhosts D) (digest_of : List ℕ → List ℕ) (old : D) (a b : Durable)
    (start : FindsAll (d.files old) (d.uncertain old) (IsEither digest_of a b)) where
  to_one : (mid : D) (found : Files) (office : Durable) → Synced d old mid found → StandsFor digest_of found office
      → ComesToOne d digest_of old mid a b office
  to_one mid found office came stands = record {
    synced = came.synced;
    up_to = leaves_wider came.up_to start;
    from_then = only_wider came.from_then
        (λ image finds. finds_wider (λ (f : Files). f ≡ found) (IsEither digest_of office (raised office)) image
        (λ f same. inl (subst (λ (files : Files). StandsFor digest_of files office) (sym same) stands)) finds);
  }

  -- the journal was opened, and then an opening began with one of the two
  pub settles_then : (mid new : D) (office : Durable) → IsSynced d old mid → IsOfOne d digest_of mid new office
      → ComesToOne d digest_of old new a b office
  settles_then mid new office is one =
      let first = to_one mid is.found office is.came (one.was is.found is.told_is) in
      record { synced = first.synced; up_to = first.up_to; from_then = only_after first.from_then one.crash }

  -- the journal wasn't opened
  pub stops_unopened : (new : D) → MayBeSynced d old new → IsStopped d digest_of old new a b
  stops_unopened new (inl before) = inl (leaves_wider before start)
  stops_unopened new (inr w) = elim (finds_each (IsEither digest_of a b) w.1.image w.0 (start w.1.image w.1.left) w.1.in_image) [
    | inl s ↦ inr (a, inl refl, to_one new w.0 a w.2 s)
    | inr s ↦ inr (b, inr refl, to_one new w.0 b w.2 s)
  ]

  -- nor did an opening end behind it
  pub stops_then : (mid new : D) → IsSynced d old mid → (office : Durable) × IsPicked a b office × IsOfOne d digest_of mid new office
      → IsStopped d digest_of old new a b
  stops_then mid new is w = inr (w.0, w.1, settles_then mid new w.0 is w.2)

-- the disk came back
pub closed_one : {D : Type 0} (d : DiskGhosts D) (digest_of : List ℕ → List ℕ) (old mid disk : D) (a b : Durable) → disk ≡ mid
    → (office : Durable) × IsPicked a b office × IsOfOne d digest_of old mid office
    → (office : Durable) × IsPicked a b office × IsOfOne d digest_of old disk office
closed_one {D} d digest_of old mid disk a b same w =
    (w.0, w.1, subst (λ (x : D). IsOfOne d digest_of old x w.0) (sym same) w.2)
