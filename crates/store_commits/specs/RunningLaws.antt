-- Parts at work after a commit.
--     running_committed      they hold the office after it
use Rattle.std.specs.Prelude.{◌≡◌, ℕ, ◌+◌, ◌<◌, Bool, true, false, List, [], Option, Some, None, Ok, is_some, option_map}
use Rattle.std.proofs.Common.{refl, sym, ap, ◌∙◌, subst, arith}
use Rattle.disk_trait.specs.declared.ids.PoolId.{PoolId}
use Rattle.disk_trait.specs.declared.ids.FileId.TheVariants.{Pool as PoolFile, Stage as StageFile}
use Rattle.disk_trait.specs.declared.disk.Disk.{Ghosts as DiskGhosts}
use Rattle.disk_trait.specs.Files.{Files}
use Rattle.pool_name.specs.declared.namer.Namer.{Ghosts as NamerGhosts}
use Rattle.intent_journal.specs.declared.changes.Change.{Change}
use Rattle.intent_journal.specs.declared.journal.Journal.{Journal}
use Rattle.intent_journal.specs.Changes.{applied, AreChanges}
use Rattle.intent_journal.specs.ChangesLaws.{applied_contents}
use Rattle.journal_view.specs.View.{told, uncertain}
use Rattle.pool_index.specs.Index.{Index, TellsIn}
use Rattle.pool_changes.specs.declared.slot.Slot.{Slot}
use Rattle.pool_changes.specs.declared.slot.Slot.TheVariants.{Live, Staged, Doomed}
use Rattle.pool_changes.specs.Slots.{is_live, claims_of}
use Rattle.pool_changes.specs.Listed.{item_of, index_of}
use Rattle.pool_store.specs.Fits.{Fits}
use Rattle.pool_store.specs.FitsLaws.{fits_less}
use Rattle.pool_store.specs.AcceptedLaws.{fits_accepted}
use Rattle.ref_counts.specs.Stored.{StoredHost}
use Rattle.open_sessions.specs.Opened.{AreSessions, claims_in}
use Rattle.open_sessions.specs.SessionLaws.{AreSessions-claimed}
use Rattle.office_model.specs.Office.{Office, Names}
use Rattle.office_model.specs.UsedNames.{AreSound}
use Rattle.office_files.specs.Pooled.{contents_of}
use Rattle.office_files.specs.Stands.{Stands}
use Rattle.office_files.specs.TableLayouts.{WriteNoFirst}
use Rattle.office_files.specs.TableLayoutLaws.{second_applied}
use Rattle.store_parts.specs.KnownOffice.{known_of_office}
use Rattle.store_parts.specs.declared.parts.StoreParts.{StoreParts}
use Rattle.store_parts.specs.Held.{given, AreCountsOf, heads_of, IsKeptView}
use Rattle.store_parts.specs.States.{slots, IsRunning, staging_of}
use Rattle.store_parts.specs.Writes.{Writes}
use Rattle.store_parts.specs.StoredLaws.{contents_written}
use Rattle.store_commits.specs.AcceptLaws.{with_added, IsAccepted, accepted_index, accepted_claims, accepted_given, accepted_used}

live_is : (id : PoolId) (slot : Option Slot) → is_live slot ≡ is_some (item_of id slot)
live_is id None = refl
live_is id (Some (Live size mark claims)) = refl
live_is id (Some (Staged size claims)) = refl
live_is id (Some Doomed) = refl

was_live : (id : PoolId) (old new : Option Slot) → item_of id new ≡ item_of id old → is_live new ≡ true → is_live old ≡ true
was_live id old new same live = live_is id old ∙ ap is_some (sym same) ∙ sym (live_is id new) ∙ live

module _ {D N S : Type 0} {d : DiskGhosts D} {n : NamerGhosts N S} where
  module _ (old mid new : StoreParts D N S d n) (office after : Office) (names : Names) (at : IsRunning old office names)
      (changes : List Change) (done : Unit {0}) (written : Writes old changes (Ok done) mid) (are : AreChanges changes)
      (ids : List PoolId) (count : PoolId → ℕ) (shown : List StoredHost) where
    image : Files
    image = applied changes at.all

    file : (id : PoolId) → applied changes at.all (PoolFile id) ≡ at.all (PoolFile id)
    file id = applied_contents changes at.all (PoolFile id) are refl

    certain : (id : PoolId) → uncertain mid.journal (PoolFile id) ≡ false
    certain id = (written.committed.certain (ap is_some at.told_is)).each (PoolFile id) refl

    fits_new : IsAccepted ids count (slots old) (slots new)
        → Fits n.digest_of (slots new) (uncertain mid.journal) (applied changes at.all)
    fits_new accepted =
        fits_less n.digest_of (with_added ids (slots old)) (slots new) (uncertain mid.journal) (uncertain mid.journal) (applied changes at.all)
        (applied changes at.all)
        (record {
          given = λ id e. (accepted.go id).was_given e;
          size = λ id e. (accepted.go id).size e;
          file = λ id e. refl;
          live = λ id e. was_live id (with_added ids (slots old) id) (slots new id) (accepted.go id).live e;
        })
        (λ id live. certain id)
        (fits_accepted n.digest_of ids [] [] [] (slots old) (with_added ids (slots old)) (uncertain old.journal) (uncertain mid.journal) at.all
        (applied changes at.all) (λ id. refl) file certain at.fits)

    pub running_committed : IsAccepted ids count (slots old) (slots new) → new.pool.in_one_file ≡ false
        → ((id : PoolId) → claims_in new.sessions id + count id ≡ claims_in old.sessions id)
        → Stands n.digest_of (index_of (with_added ids (slots old))) shown (applied changes at.all) after.durable
        → TellsIn false (index_of (with_added ids (slots old))) (applied changes at.all)
        → AreSessions n.holds (given (slots old)) (contents_of at.all) (staging_of at.all names) after.volatile new.sessions
        → IsKeptView new.views.kept after.hosts shown → AreCountsOf new.counts shown → new.partials ≡ heads_of after.hosts
        → AreSound after names → WriteNoFirst changes
        → new.journal ≡ mid.journal → new.catalog ≡ known_of_office after.durable → new.halted ≡ mid.halted → IsRunning new after names
    running_committed accepted form claims stands tells sessions view counted parked sound second journal catalog halted = record {
      working = record {
        ready = halted ∙ written.stays (λ e. absurd cc) ∙ at.ready;
        stored = record {
          journal_ready = subst (λ (j : Journal D d). j.halted ≡ false) (sym journal) written.committed.ready;
          all = applied changes at.all;
          shown = shown;
          told_is = subst (λ (j : Journal D d). told j ≡ Some (applied changes at.all)) (sym journal)
              (written.committed.done ∙ ap (option_map (applied changes)) at.told_is);
          stands = subst (λ (index : Index). Stands n.digest_of index shown (applied changes at.all) after.durable) (sym index) stands;
          tells = subst (λ (b : Bool). TellsIn b (index_of (slots new)) (applied changes at.all)) (sym form)
              (subst (λ (index : Index). TellsIn false index (applied changes at.all)) (sym index) tells);
          fits = subst (λ (j : Journal D d). Fits n.digest_of (slots new) (uncertain j) (applied changes at.all)) (sym journal) (fits_new accepted);
          all_used = λ id there. used id ∙ at.all_used id (ap is_some (sym (file id)) ∙ there);
          used = record {
            distinct = at.used.distinct;
            slot = λ id among. used id ∙ at.used.slot id among;
            among = λ id e. at.used.among id (sym (used id) ∙ e);
            near = λ id e. at.used.near id (sym (used id) ∙ e);
          };
          digest = at.digest;
          second = second_applied names.old_hosts at.all changes second at.second;
          catalog_is = catalog;
        };
        counted = counted;
        parked = parked;
        sessions = AreSessions-claimed n.holds (given (slots old)) (contents_of at.all) (given (slots new)) (contents_of (applied changes at.all))
            (staging_of at.all names) (staging_of (applied changes at.all) names) after.volatile new.sessions
            (record {
              staged = λ i stage there. applied_contents changes at.all (StageFile stage.number) are refl;
              next_stage = refl;
              next_reader = refl;
            })
            (λ id g some. (
              accepted_given ids count (slots old) (slots new) accepted id g (subst (λ (m : ℕ). 0 < m) (sym (claimed id)) some),
              sym (ap (λ (c : PoolId → List ℕ). c id) (contents_written changes at.all are)),
            )) sessions;
        view = view;
        sound = sound;
      };
      claimed = claimed;
    }
      where
        index : index_of (slots new) ≡ index_of (with_added ids (slots old))
        index = accepted_index ids count (slots old) (slots new) accepted

        used : (id : PoolId) → is_some (slots new id) ≡ is_some (slots old id)
        used id = accepted_used ids count (slots old) (slots new) accepted id

        claimed : (id : PoolId) → claims_of (slots new id) ≡ claims_in new.sessions id
        claimed id = omega (arith, accepted_claims ids count (slots old) (slots new) accepted id, at.claimed id, claims id)
