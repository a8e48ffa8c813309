-- Parts at work whose open sessions claim more contents.
--     running_gains      they are at work with other sessions, if what those claim more was added
use Rattle.std.specs.Prelude.{◌≡◌, ◌+◌, ℕ}
use Rattle.std.proofs.Common.{refl, sym, ap, ◌∙◌, subst, arith}
use Rattle.disk_trait.specs.declared.ids.PoolId.{PoolId}
use Rattle.disk_trait.specs.declared.disk.Disk.{Ghosts as DiskGhosts}
use Rattle.pool_name.specs.declared.namer.Namer.{Ghosts as NamerGhosts}
use Rattle.intent_journal.specs.declared.journal.Journal.{Journal}
use Rattle.journal_view.specs.View.{told, uncertain}
use Rattle.pool_changes.specs.Slots.{claims_of}
use Rattle.pool_store.specs.FitsLaws.{fits_less}
use Rattle.pool_store.specs.Pools.{IsCertain}
use Rattle.open_sessions.specs.Opened.{AreSessions, claims_in}
use Rattle.office_model.specs.Office.{Office, Names}
use Rattle.office_model.specs.UsedNames.{AreSound}
use Rattle.office_files.specs.Pooled.{contents_of}
use Rattle.store_parts.specs.declared.parts.StoreParts.{StoreParts}
use Rattle.store_parts.specs.Held.{given}
use Rattle.store_parts.specs.States.{slots, IsWorking, IsRunning, staging_of}
use Rattle.store_dumps.specs.Claims.{Gains}
use Rattle.store_dumps.specs.ClaimLaws.{lets_go_none}
use Rattle.store_dumps.specs.RunningLaws.{was_live, running_let_go}
use Rattle.store_parts.specs.StagingLaws.{HasStaged, working_staged}

module _ {D N S : Type 0} {d : DiskGhosts D} {n : NamerGhosts N S} where
  -- the same files, and claims more on given names
  unfoldable pub staged_gains : (old mid : StoreParts D N S d n) (office : Office) (names : Names) (at : IsRunning old office names)
      (count : PoolId → ℕ) → Gains count (slots old) (slots mid) → mid.journal ≡ old.journal → HasStaged old mid names office.stages at.all
  staged_gains old mid office names at count gains journal = record {
    used' = names.used;
    all' = at.all;
    told_is = ap told journal ∙ at.told_is;
    grows = record {
      given = λ id g. (gains id).given ∙ g;
      file = λ id g. refl;
      metadata = λ asked e. refl;
      live = λ id. (gains id).live;
      stage = λ i stage there. refl;
    };
    fits = fits_less n.digest_of (slots old) (slots mid) (uncertain old.journal) (uncertain mid.journal) at.all at.all (record {
      given = λ id g. sym (gains id).given ∙ g;
      size = λ id g. (gains id).size;
      file = λ id g. refl;
      live = λ id g. was_live id (slots old id) (slots mid id) (gains id).live g;
    }) (subst (λ (j : Journal D d). IsCertain (slots old) (uncertain j)) (sym journal) at.fits.certain) at.fits;
    all_used = λ id there. (gains id).used ∙ at.all_used id there;
    used = record {
      distinct = at.used.distinct;
      slot = λ id among. (gains id).used ∙ at.used.slot id among;
      among = λ id e. at.used.among id (sym (gains id).used ∙ e);
      near = λ id e. at.used.near id (sym (gains id).used ∙ e);
    };
  }

  pub running_gains : (old new : StoreParts D N S d n) (office next : Office) (names : Names) (count : PoolId → ℕ)
      (at : IsRunning old office names) → Gains count (slots old) (slots new) → new.journal ≡ old.journal → new.catalog ≡ old.catalog
      → new.counts ≡ old.counts → new.partials ≡ old.partials → new.views ≡ old.views → new.halted ≡ old.halted
      → new.pool.in_one_file ≡ old.pool.in_one_file
      → ((id : PoolId) → claims_in new.sessions id ≡ claims_in old.sessions id + count id)
      → (AreSessions n.holds (given (slots new)) (contents_of at.all) (staging_of at.all names) office.volatile old.sessions
      → AreSessions n.holds (given (slots new)) (contents_of at.all) (staging_of at.all names) next.volatile new.sessions)
      → next.durable ≡ office.durable → next.hosts ≡ office.hosts → AreSound next names → IsRunning new next names
  unfolding working_staged staged_gains
  running_gains old new office next names count at gains journal catalog counts partials views halted form claims opens same hosts sound =
      running_let_go mid new office next names (λ id. 0) (λ id. claims_of (slots new id)) working (λ id. refl) refl refl refl refl refl refl
      (lets_go_none (slots new) (slots new) (λ id. 0) (λ id. refl)) refl
      (λ id. omega (arith, claims id, at.claimed id, (gains id).claims)) (opens working.sessions) same hosts sound
    where
      mid : StoreParts D N S d n
      mid = record new { sessions = old.sessions }

      working : IsWorking mid office names
      working = working_staged old mid office names at catalog counts partials refl views halted form (ap (λ (j : Journal D d). j.halted) journal)
          (staged_gains old mid office names at count gains journal)
