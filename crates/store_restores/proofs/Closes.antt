-- What a close leaves.
use Rattle.std.specs.Prelude.{◌≡◌, ◌≤◌, ℕ, Some, Ok, Err, slice_get}
use Rattle.std.specs.List.{remove}
use Rattle.std.proofs.Common.{refl, subst, arith}
use Rattle.disk_trait.specs.declared.ids.PoolId.{PoolId}
use Rattle.disk_trait.specs.declared.disk.Disk.{Ghosts as DiskGhosts}
use Rattle.pool_name.specs.declared.namer.Namer.{Ghosts as NamerGhosts}
use Rattle.fault_counts.specs.Counts.{Counted}
use Rattle.journal_view.specs.View.{Quiet}
use Rattle.pool_changes.specs.Slots.{claims_of}
use Rattle.merge_view.specs.Views.{Rows}
use Rattle.stored_trees.specs.Occurrences.{occurrences}
use Rattle.open_sessions.specs.declared.sessions.OpenRestore.{OpenRestore}
use Rattle.open_sessions.specs.Opened.{claims_in, OnlyRestores}
use Rattle.open_sessions.specs.SessionLaws.{claims_in_restores-remove, AreSessions-claimed}
use Rattle.open_sessions.specs.CallLaws.{AreSessions-restore_taken, claims_in-restore_taken}
use Rattle.receipts.specs.declared.session.SessionName.{SessionName}
use Rattle.office_model.specs.declared.answer.Answer.TheVariants.{Done}
use Rattle.office_model.specs.declared.event.Event.TheVariants.{CloseRead}
use Rattle.office_model.specs.declared.refusal.BrokenRule.TheVariants.{NoSession}
use Rattle.office_model.specs.Office.{Office, Names, with_restores}
use Rattle.office_model.specs.Parts.{restore_at}
use Rattle.office_model.specs.laws.StateLaws.{AreSound-carried}
use Rattle.office_model.specs.events.CloseRead as CloseReadEvent
use Rattle.office_files.specs.Pooled.{contents_of}
use Rattle.store_parts.specs.declared.parts.StoreParts.{StoreParts}
use Rattle.store_parts.specs.Held.{given}
use Rattle.store_parts.specs.States.{slots, IsRunning, staging_of}
use Rattle.store_parts.specs.Runs.{Runs}
use Rattle.store_dumps.specs.Claims.{LetsGo}
use Rattle.store_restores.specs.Finding.{place_of}
use Rattle.store_restores.proofs.Found.{restore_found}
use Rattle.store_restores.proofs.Running.{same_staging, count_of, near_lost, running_stays, runs_ok}

-- there is no such restore
pub no_restore_close : (session : SessionName) (office : Office) (names : Names) → restore_at office.restores session ≡ Err NoSession
    → CloseReadEvent.carried session office ≡ Err NoSession
no_restore_close session office names e = rw e refl

module _ {D N S : Type 0} {d : DiskGhosts D} {n : NamerGhosts N S} (old : StoreParts D N S d n) (session : SessionName) where
  module _ (new : StoreParts D N S d n) (index : ℕ) (restore : OpenRestore S)
      (e : Some index ≡ place_of old.sessions.restores.items session) (there : slice_get old.sessions.restores.items index ≡ Some restore)
      (quiet : Quiet old.journal new.journal) (catalog : new.catalog ≡ old.catalog) (counts : new.counts ≡ old.counts)
      (partials : new.partials ≡ old.partials) (views : new.views ≡ old.views)
      (halted : new.halted ≡ old.halted)
      (rows : Rows) (rows_are : rows ≡ restore.whole)
      (go : ((id : PoolId) → occurrences id rows ≤ claims_of (slots old id)) → LetsGo (λ id. occurrences id rows) (slots old) (slots new))
      (form : new.pool.in_one_file ≡ old.pool.in_one_file)
      (restores : new.sessions.restores.items ≡ remove old.sessions.restores.items index)
      (only : OnlyRestores old.sessions new.sessions) where
    gone : (office : Office) (names : Names) → IsRunning old office names
        → LetsGo (λ id. occurrences id restore.whole) (slots old) (slots new)
    gone office names at =
        subst (λ (rs : Rows). ((id : PoolId) → occurrences id rs ≤ claims_of (slots old id))
        → LetsGo (λ id. occurrences id rs) (slots old) (slots new))
        rows_are go (λ id. omega (arith, at.claimed id, claims_in_restores-remove old.sessions.restores.items id index restore there))

    abbrev without : Office → Office
    without office = with_restores office (remove office.restores index)

    running_closed : (office : Office) (names : Names) (at : IsRunning old office names)
        → CloseReadEvent.carried session office ≡ Ok (record { answer = Done; after = without office })
        → IsRunning new (without office) names
    running_closed office names at judged =
        running_stays old new office (without office) names at
        (record {
          quiet = quiet;
          catalog = catalog;
          counts = counts;
          partials = partials;
          views = views;
          halted = halted;
          form = form;
          names = near_lost (slots old) (slots new) (λ id. occurrences id restore.whole) (gone office names at);
        })
        (AreSessions-claimed n.holds (given (slots old)) (contents_of at.all) (given (slots new)) (contents_of at.all)
        (staging_of at.all names) (staging_of at.all names) (without office).volatile new.sessions
        (same_staging office.stages (staging_of at.all names))
        (λ id g some. ((gone office names at id).given g (let same = claimed id in omega (arith, same, some)), refl))
        (AreSessions-restore_taken old.sessions new.sessions only.beside n.holds (given (slots old)) (contents_of at.all)
        (staging_of at.all names) office.volatile at.sessions index restores only.sequence))
        claimed refl refl
        (AreSound-carried office names (CloseRead session) Done (without office) names at.sound judged refl)
      where
        claimed : (id : PoolId) → claims_of (slots new id) ≡ claims_in new.sessions id
        claimed id = omega (
          arith,
          (gone office names at id).claims,
          at.claimed id,
          claims_in-restore_taken old.sessions new.sessions only.beside id index restore there restores,
        )

    pub runs_closed : {failed : Type 0} → Counted (count_of old) (count_of new) failed → (failed → ⊥)
        → Runs old (CloseRead session) (Ok Done) new
    runs_closed counted fine =
        runs_ok old new (CloseRead session) quiet halted counted fine Done
        (λ office names at.
        let found = restore_found old session index restore e there office names at in
        let judged : CloseReadEvent.carried session office ≡ Ok (record { answer = Done; after = without office }) = rw found.is_at refl in
        record { next = without office; judged = judged; running = running_closed office names at judged })
        (λ office names. refl) refl
