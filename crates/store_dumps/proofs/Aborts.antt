-- What an abort leaves.
use Rattle.std.specs.Prelude.{◌≡◌, ◌≤◌, ℕ, Some, Ok, Err, slice_get}
use Rattle.std.specs.List.{remove}
use Rattle.std.proofs.Common.{refl, arith}
use Rattle.disk_trait.specs.declared.ids.PoolId.{PoolId}
use Rattle.disk_trait.specs.declared.disk.Disk.{Ghosts as DiskGhosts}
use Rattle.pool_name.specs.declared.namer.Namer.{Ghosts as NamerGhosts}
use Rattle.pool_changes.specs.Slots.{claims_of}
use Rattle.open_sessions.specs.declared.sessions.OpenDump.{OpenDump}
use Rattle.open_sessions.specs.declared.sessions.Sessions.{Sessions}
use Rattle.open_sessions.specs.Opened.{OnlyDumps, OnlyStages, claims_of_dump, claims_in}
use Rattle.open_sessions.specs.Staging.{without_those_of}
use Rattle.open_sessions.specs.SessionLaws.{claims_in_dumps-remove}
use Rattle.receipts.specs.declared.session.SessionName.{SessionName}
use Rattle.office_model.specs.declared.answer.Answer.TheVariants.{Done}
use Rattle.office_model.specs.declared.event.Event.TheVariants.{Abort}
use Rattle.office_model.specs.declared.refusal.BrokenRule.TheVariants.{NoSession}
use Rattle.office_model.specs.Office.{Office, Names, with_dumps, with_stages, stages_left}
use Rattle.office_model.specs.Parts.{dump_at}
use Rattle.office_model.specs.laws.StateLaws.{AreSound-carried}
use Rattle.office_model.specs.events.Abort as AbortEvent
use Rattle.office_files.specs.Pooled.{contents_of}
use Rattle.store_parts.specs.declared.parts.StoreParts.{StoreParts}
use Rattle.store_parts.specs.Held.{given}
use Rattle.store_parts.specs.States.{slots, IsRunning, staging_of}
use Rattle.store_parts.specs.Runs.{Runs}
use Rattle.store_parts.specs.EndLaws.{sessions_ended, claims_ended}
use Rattle.store_dumps.specs.Claims.{LetsGo}
use Rattle.store_dumps.specs.DumpLaws.{place_of, dump_found}
use Rattle.store_dumps.specs.RunningLaws.{running_let_go, runs_kept}

-- there is no such dump
pub no_dump_abort : (session : SessionName) (office : Office) (names : Names) → dump_at office.dumps session ≡ Err NoSession
    → AbortEvent.carried session office ≡ Err NoSession
no_dump_abort session office names e = rw e refl

module _ {D N S : Type 0} {d : DiskGhosts D} {n : NamerGhosts N S} where
  module _ (old : StoreParts D N S d n) (session : SessionName) where
    pub abort_enough : (index : ℕ) (dump : OpenDump) → slice_get old.sessions.dumps.items index ≡ Some dump
        → (office : Office) (names : Names) → IsRunning old office names → (id : PoolId) → claims_of_dump dump id ≤ claims_of (slots old id)
    abort_enough index dump there office names at id =
        omega (arith, at.claimed id, claims_in_dumps-remove old.sessions.dumps.items id index dump there)

    -- the dump was taken out, and then its stages
    module _ (new : StoreParts D N S d n) (index : ℕ) (dump : OpenDump) (e : Some index ≡ place_of old.sessions.dumps.items session)
        (there : slice_get old.sessions.dumps.items index ≡ Some dump) (mid : Sessions S) (dump_out : OnlyDumps old.sessions mid)
        (dumps : mid.dumps.items ≡ remove old.sessions.dumps.items index) (stages_out : OnlyStages mid new.sessions)
        (stages : new.sessions.stages.items.items ≡ without_those_of session mid.stages.items.items)
        (next_stage : new.sessions.stages.next ≡ mid.stages.next) where
      abbrev without : Office → Office
      without office = with_stages (with_dumps office (remove office.dumps index)) (stages_left session office.stages)

      pub runs_aborted : new.journal ≡ old.journal → new.catalog ≡ old.catalog → new.counts ≡ old.counts → new.partials ≡ old.partials → new.views ≡ old.views
          → new.halted ≡ old.halted
          → (((id : PoolId) → claims_of_dump dump id ≤ claims_of (slots old id))
          → LetsGo (λ id. claims_of_dump dump id) (slots old) (slots new))
          → new.pool.in_one_file ≡ old.pool.in_one_file → Runs old (Abort session) (Ok Done) new
      runs_aborted journal catalog counts partials views halted go form =
          runs_kept old new (Abort session) Done journal halted
          (λ office names at.
          let found = dump_found old session index dump e there office names at in
          let next : Office = without office in
          let judged : AbortEvent.carried session office ≡ Ok (record { answer = Done; after = next }) = rw found.is_at refl in
          record {
            next = next;
            made = judged;
            running = running_let_go old new office next names (λ id. claims_of_dump dump id)
                (claims_in old.sessions) at.working at.claimed journal catalog counts partials views halted
                (go (abort_enough index dump there office names at)) form
                (claims_ended old.sessions mid new.sessions dump_out stages_out index dumps dump there)
                (sessions_ended old.sessions mid new.sessions dump_out stages_out index dumps n.holds (given (slots old)) (contents_of at.all)
                (staging_of at.all names) office.volatile at.sessions session stages next_stage)
                refl refl
                (AreSound-carried office names (Abort session) Done next names at.sound judged refl);
          })
          (λ office names. refl) refl
