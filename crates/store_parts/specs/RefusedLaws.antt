-- Events that are refused before anything is written.
--     runs_broken, runs_no_memory      a rule was broken, or memory was wanting, and nothing was done
--     runs_no_host, runs_no_dump, runs_no_restore      there is no host, open dump or open restore of the name
--     runs_no_stage, runs_no_reader      there is no open stage or open reader of the number
--     runs_not_planned      what was read for the plan of a commit couldn't be read, or memory was wanting
use Rattle.std.specs.Prelude.{◌≡◌, ◌⊎◌, ◌==◌, ℕ, List, None, Ok, Err, IsErrOf}
use Rattle.std.specs.List.{position_from}
use Rattle.std.specs.Result.{IsErrAnd}
use Rattle.std.proofs.Common.{refl, sym, ap, ◌∙◌, subst, inl, inr}
use Rattle.fault_counts.specs.Counts.{Counted}
use Rattle.disk_trait.specs.declared.disk.Disk.{Ghosts as DiskGhosts}
use Rattle.pool_name.specs.declared.namer.Namer.{Ghosts as NamerGhosts}
use Rattle.open_sessions.specs.SessionLaws.{dump_index-sessions, restore_index-sessions, stage_index-sessions, reader_index-sessions}
use Rattle.office_model.specs.declared.event.Event.{Event}
use Rattle.office_model.specs.declared.refusal.BrokenRule.{BrokenRule}
use Rattle.office_model.specs.declared.refusal.BrokenRule.TheVariants.{NoHost, NoSession}
use Rattle.office_model.specs.declared.refusal.Refusal.{Refusal}
use Rattle.office_model.specs.declared.refusal.Refusal.TheVariants.{Broken, Halted, DiskFault, Memory}
use Rattle.receipts.specs.declared.session.SessionName.{SessionName}
use Rattle.receipts.specs.Session.{is_same_session}
use Rattle.office_model.specs.Office.{Office, Names, dump_index, restore_index, stage_index, reader_index}
use Rattle.office_model.specs.Parts.{host_at, dump_at, restore_at, stage_at, reader_at}
use Rattle.office_model.specs.Meaning.{Reply, ReadsAndCommits}
use Rattle.office_model.specs.Step.{Running, IsStep, meaning_of}
use Rattle.office_model.specs.History.{IsUndamaged}
use Rattle.office_catalog.specs.Known.{host_named, names_of}
use Rattle.office_files.specs.Pooled.{contents_of}
use Rattle.office_known.specs.CatalogLaws.{no_named}
use Rattle.store_parts.specs.declared.parts.StoreParts.{StoreParts}
use Rattle.store_parts.specs.Held.{given}
use Rattle.store_parts.specs.States.{slots, staging_of, IsRunning}
use Rattle.store_parts.specs.Runs.{Runs, Reads}
use Rattle.store_parts.specs.StepLaws.{step_memory, step_plan_fault}
use Rattle.store_parts.specs.RunLaws.{runs_reads, runs_refused, runs_memory, reads_still, counted_still}

module _ {D N S : Type 0} {d : DiskGhosts D} {n : NamerGhosts N S} where
  pub runs_broken : (old : StoreParts D N S d n) (event : Event) (rule : BrokenRule)
      → ((office : Office) (names : Names) → IsRunning old office names → (meaning_of event).carried office names ≡ Err rule)
      → Runs old event (Err (Broken rule)) old
  runs_broken old event rule broken =
      runs_refused old old event rule (reads_still old) broken (counted_still (d.fault_count old.journal.disk) ⊥ (λ e. e))

  pub runs_no_memory : (old : StoreParts D N S d n) (event : Event) (reply : Reply) → IsErrAnd reply (λ refusal. refusal ≡ Memory)
      → Runs old event reply old
  runs_no_memory old event (Ok answer) e = absurd e
  runs_no_memory old event (Err refusal) e =
      subst (λ (r : Refusal). Runs old event (Err r) old) (sym e)
      (runs_memory old old event (reads_still old) (counted_still (d.fault_count old.journal.disk) ⊥ (λ e. e)))

  -- ---- look-ups

  pub runs_no_host : (old : StoreParts D N S d n) (event : Event) (name : List ℕ) → None ≡ host_named (names_of old.catalog.hosts) name
      → ((office : Office) (names : Names) → host_at office.hosts name ≡ Err NoHost → (meaning_of event).carried office names ≡ Err NoHost)
      → Runs old event (Err (Broken NoHost)) old
  runs_no_host old event name none broken =
      runs_broken old event NoHost (λ office names at. broken office names (no_named office.durable old.catalog name at.catalog_is none))

  pub runs_no_dump : (old : StoreParts D N S d n) (event : Event) (name : SessionName)
      → None ≡ position_from (λ dump. is_same_session dump.name name) 0 old.sessions.dumps.items
      → ((office : Office) (names : Names) → dump_at office.dumps name ≡ Err NoSession → (meaning_of event).carried office names ≡ Err NoSession)
      → Runs old event (Err (Broken NoSession)) old
  runs_no_dump old event name none broken = runs_broken old event NoSession (λ office names at.
      let is : dump_index office.dumps name ≡ None =
      dump_index-sessions (given (slots old)) (contents_of at.all) office.dumps old.sessions.dumps.items at.sessions.dumps name ∙ sym none in
      broken office names (rw is refl))

  pub runs_no_restore : (old : StoreParts D N S d n) (event : Event) (name : SessionName)
      → None ≡ position_from (λ restore. is_same_session restore.name name) 0 old.sessions.restores.items
      → ((office : Office) (names : Names) → restore_at office.restores name ≡ Err NoSession → (meaning_of event).carried office names ≡ Err NoSession)
      → Runs old event (Err (Broken NoSession)) old
  runs_no_restore old event name none broken = runs_broken old event NoSession (λ office names at.
      let is : restore_index office.restores name ≡ None =
      restore_index-sessions (given (slots old)) (contents_of at.all) n.holds office.restores old.sessions.restores.items at.sessions.restores
      name ∙ sym none in
      broken office names (rw is refl))

  pub runs_no_stage : (old : StoreParts D N S d n) (event : Event) (number : ℕ)
      → None ≡ position_from (λ stage. stage.number == number) 0 old.sessions.stages.items.items
      → ((office : Office) (names : Names) → stage_at office.stages number ≡ Err NoSession
      → (meaning_of event).carried office names ≡ Err NoSession)
      → Runs old event (Err (Broken NoSession)) old
  runs_no_stage old event number none broken = runs_broken old event NoSession (λ office names at.
      let is : stage_index office.stages number ≡ None =
      stage_index-sessions n.holds (staging_of at.all names).staged office.stages old.sessions.stages.items.items at.sessions.stages
      number ∙ sym none in
      broken office names (rw is refl))

  pub runs_no_reader : (old : StoreParts D N S d n) (event : Event) (number : ℕ)
      → None ≡ position_from (λ reader. reader.number == number) 0 old.sessions.readers.items.items
      → ((office : Office) (names : Names) → reader_at office.readers number ≡ Err NoSession
      → (meaning_of event).carried office names ≡ Err NoSession)
      → Runs old event (Err (Broken NoSession)) old
  runs_no_reader old event number none broken = runs_broken old event NoSession (λ office names at.
      let is : reader_index office.readers number ≡ None =
      reader_index-sessions (given (slots old)) (contents_of at.all) n.holds office.readers old.sessions.readers.items.items
      at.sessions.readers
      number ∙ sym none in
      broken office names (rw is refl))

  -- ---- plans

  pub runs_not_planned : {Plan : Type 0} (old mid : StoreParts D N S d n) (event : Event) (refusal : Refusal) → Reads old mid
      → ((office : Office) (names : Names) → IsRunning old office names → (meaning_of event).touches office names ≡ ReadsAndCommits)
      → ((office : Office) (names : Names) → IsRunning old office names → (refusal ≡ DiskFault) ⊎ (refusal ≡ Memory))
      → (refusal ≡ Halted → ⊥)
      → Counted (d.fault_count old.journal.disk) (d.fault_count mid.journal.disk) (IsErrOf {T = Plan} (Err refusal) DiskFault)
      → Runs old event (Err refusal) mid
  runs_not_planned old mid event refusal reads touches kind awake counted =
      runs_reads old mid event (Err refusal) reads (λ office names at. step office names at refusal (kind office names at))
      (λ office names at. undamaged refusal (kind office names at)) tt (λ e. awake (let same : refusal ≡ Halted = cc in same)) (record {
        later = counted.later;
        rose = λ e. counted.rose (let same : refusal ≡ DiskFault = cc in ap (λ (r : Refusal). Err r) same);
        stays = λ not. counted.stays (λ e. not (let same : refusal ≡ DiskFault = cc in ap (λ (r : Refusal). Err r) same));
      })
    where
      step : (office : Office) (names : Names) → IsRunning old office names → (refusal : Refusal)
          → (refusal ≡ DiskFault) ⊎ (refusal ≡ Memory) → IsStep (Running office names) event (Err refusal) (Running office names)
      step office names at refusal (inl e) =
          subst (λ (r : Refusal). IsStep (Running office names) event (Err r) (Running office names)) (sym e)
          (step_plan_fault office names event at.used.distinct (touches office names at))
      step office names at refusal (inr e) =
          subst (λ (r : Refusal). IsStep (Running office names) event (Err r) (Running office names)) (sym e)
          (step_memory office names event at.used.distinct)

      undamaged : (refusal : Refusal) → (refusal ≡ DiskFault) ⊎ (refusal ≡ Memory) → IsUndamaged (Err refusal)
      undamaged refusal (inl e) = subst (λ (r : Refusal). IsUndamaged (Err r)) (sym e) tt
      undamaged refusal (inr e) = subst (λ (r : Refusal). IsUndamaged (Err r)) (sym e) tt
