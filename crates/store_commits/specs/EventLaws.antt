-- A plan that was made, or refused, is no step yet.
--     planned_read      of parts that were planned with, and are as before but for the journal, the plan is one of theirs
--     runs_again      a dump that isn't open has the answer of its receipt
--     runs_not_planned      a refusal before anything is written
use Rattle.std.specs.Prelude.{◌≡◌, ℕ, zero, suc, ◌<◌, List, [], ◌∷◌, length, Option, Some, None, Ok, Err, is_some, IsErrOf, slice_get, if◌then◌else◌}
use Rattle.std.specs.Option.{option_map}
use Rattle.std.proofs.Common.{refl, sym, ap, ◌∙◌, subst, arith}
use Rattle.fault_counts.specs.Counts.{Counted}
use Rattle.disk_trait.specs.declared.disk.Disk.{Ghosts as DiskGhosts}
use Rattle.disk_trait.specs.Files.{Files}
use Rattle.pool_name.specs.declared.namer.Namer.{Ghosts as NamerGhosts}
use Rattle.intent_journal.specs.declared.journal.Journal.{Journal}
use Rattle.journal_view.specs.View.{Quiet}
use Rattle.backup_rules.specs.declared.lines.Line.{Line}
use Rattle.merge_view.specs.Views.{Rows}
use Rattle.ref_counts.specs.Numbers.{Items}
use Rattle.host_partials.specs.Held.{head_at}
use Rattle.open_sessions.specs.declared.sessions.OpenDump.{OpenDump}
use Rattle.open_sessions.specs.SessionLaws.{dump_index-sessions}
use Rattle.receipts.specs.declared.receipt.Receipt.{Receipt}
use Rattle.receipts.specs.declared.session.SessionName.{SessionName}
use Rattle.office_catalog.specs.Known.{Known, receipt_named}
use Rattle.office_model.specs.declared.answer.Answer.{Answer}
use Rattle.office_model.specs.declared.answer.Answer.TheVariants.{Committed}
use Rattle.office_model.specs.declared.event.Event.{Event}
use Rattle.office_model.specs.declared.refusal.BrokenRule.TheVariants.{NoSession}
use Rattle.office_model.specs.declared.refusal.Refusal.{Refusal}
use Rattle.office_model.specs.declared.refusal.Refusal.TheVariants.{DiskFault, Halted}
use Rattle.office_model.specs.Meaning.{Meaning, Reply}
use Rattle.office_model.specs.Office.{Office, Names, dump_index}
use Rattle.office_model.specs.Parts.{dump_at}
use Rattle.office_model.specs.Repeats.{again, receipt_named as named}
use Rattle.office_model.specs.Step.{Running, IsStep, meaning_of}
use Rattle.office_model.specs.UsedNames.{AreSound, AreNamesAfter}
use Rattle.office_model.specs.events.Commit as CommitEvent
use Rattle.office_files.specs.Pooled.{contents_of}
use Rattle.store_parts.specs.KnownOffice.{receipt_known}
use Rattle.store_parts.specs.declared.parts.StoreParts.{StoreParts}
use Rattle.store_parts.specs.Held.{given}
use Rattle.store_parts.specs.States.{slots, IsRunning}
use Rattle.store_parts.specs.Runs.{Runs}
use Rattle.store_parts.specs.StepLaws.{carried_pooling}
use Rattle.store_parts.specs.RunLaws.{counted_still, reads_behind, reads_still, runs_reads}
use Rattle.store_parts.specs.RefusedLaws.{runs_broken, runs_not_planned as runs_plan_refused}
use Rattle.store_commits.specs.declared.former.Folding.{Folding}
use Rattle.store_commits.specs.declared.judge.Lines.{Lines}
use Rattle.store_commits.specs.declared.plan.Plan.{Plan}
use Rattle.store_commits.specs.Committing.{EndsAs}
use Rattle.store_commits.specs.Former.{IsFolded}
use Rattle.store_commits.specs.MovedLaws.{ids_still}
use Rattle.store_commits.specs.Parked.{AreParked}
use Rattle.store_commits.specs.Planned.{IsBuilt, IsPlanned, IsPlanFault}
use Rattle.store_commits.specs.ReadyLaws.{running_ready}
use Rattle.store_commits.specs.Tables.{place_of, again_of}

-- an event that ends dumps leaves the names
pub named_still : (event : Event) (name : SessionName) (ending : CommitEvent.Ending) → meaning_of event ≡ CommitEvent.ends name ending
    → (office : Office) (names : Names) (answer : Answer) → AreNamesAfter office names (meaning_of event) (Ok answer) names
named_still event name ending means office names answer =
    subst (λ (m : Meaning). AreNamesAfter office names m (Ok answer) names) (sym means) refl

pub there_within : {A : Type 0} (xs : List A) (i : ℕ) → i < length xs → (x : A) × (slice_get xs i ≡ Some x)
there_within [] i within = absurd (omega (arith, within))
there_within (x ∷ xs) zero within = (x, refl)
there_within (x ∷ xs) (suc i) within = there_within xs i (omega (arith, within))

module _ {D N S : Type 0} {d : DiskGhosts D} {n : NamerGhosts N S} where
  pub place_is : (old : StoreParts D N S d n) (name : SessionName) (place : Option ℕ) → place ≡ place_of old.sessions.dumps.items name
      → (office : Office) (names : Names) → IsRunning old office names → dump_index office.dumps name ≡ place
  place_is old name place e office names at =
      dump_index-sessions (given (slots old)) (contents_of at.all) office.dumps old.sessions.dumps.items at.sessions.dumps name ∙ sym e

  -- the event ends dumps of a name, of which none is open
  module _ (old : StoreParts D N S d n) (event : Event) (name : SessionName) (ending : CommitEvent.Ending)
      (means : meaning_of event ≡ CommitEvent.ends name ending) (none : None ≡ place_of old.sessions.dumps.items name) where
    -- what it is to an office that the parts hold
    carried_again : (office : Office) (names : Names) → IsRunning old office names → (found : Option Receipt)
        → receipt_named old.catalog.hosts name ≡ found
        → (meaning_of event).carried office names
        ≡ again office (option_map (λ (receipt : Receipt). Committed receipt.number) found) (Err NoSession)
    carried_again office names at found is =
        let none_open : dump_index office.dumps name ≡ None = place_is old name None none office names at in
        let no_dump : dump_at office.dumps name ≡ Err NoSession = rw none_open refl in
        let ended : CommitEvent.ended name ending office ≡ Err NoSession = rw no_dump refl in
        let repeated : CommitEvent.repeated name office.hosts office.dumps ≡ option_map (λ (receipt : Receipt). Committed receipt.number) found =
        ap (λ (place : Option ℕ). if is_some place then None else option_map (λ (receipt : Receipt). Committed receipt.number)
        (named office.hosts name)) none_open
        ∙ ap (option_map (λ (receipt : Receipt). Committed receipt.number))
        (sym (receipt_known office.hosts name) ∙ ap (λ (k : Known). receipt_named k.hosts name) (sym at.catalog_is) ∙ is) in
        ap (λ (m : Meaning). m.carried office names) means ∙ (λ i. again office (repeated i) (ended i))

    again_as : (found : Option Receipt) → receipt_named old.catalog.hosts name ≡ found → Runs old event (again_of found) old
    again_as None is = runs_broken old event NoSession (λ office names at. carried_again office names at None is)
    again_as (Some receipt) is =
        runs_reads old old event (Ok (Committed receipt.number)) (reads_still old)
        (λ office names at. step office names at.sound (carried_again office names at (Some receipt) is)) (λ office names at. tt)
        (sym (ap (λ (m : Meaning). m.kind) means)) (λ e. absurd cc)
        (counted_still (d.fault_count old.journal.disk) (Ok (Committed receipt.number) ≡ Err DiskFault) (λ e. absurd cc))
      where
        step : (office : Office) (names : Names) → AreSound office names
            → (meaning_of event).carried office names ≡ Ok (record { answer = Committed receipt.number; after = office })
            → IsStep (Running office names) event (Ok (Committed receipt.number)) (Running office names)
        step office names sound is = (
          carried_pooling event office names (record { answer = Committed receipt.number; after = office })
              (ap (λ (m : Meaning). m.pools) means) is (ids_still names office.durable sound.ids),
          named_still event name ending means office names (Committed receipt.number),
        )

    pub runs_again : (reply : Reply) → reply ≡ again_of (receipt_named old.catalog.hosts name) → Runs old event reply old
    runs_again reply is =
        subst (λ (r : Reply). Runs old event r old) (sym is) (again_as (receipt_named old.catalog.hosts name) refl)

  built_read : (old : StoreParts D N S d n) (journal : Journal D d) (host : ℕ) (lines : Lines) (parked : Option Rows) (folding : Option Folding)
      (counts : Items) (rows : Rows) (plan : Plan) → IsBuilt old host lines parked folding counts rows plan
      → IsBuilt (record old { journal = journal }) host lines parked folding counts rows plan
  built_read old journal host lines parked folding counts rows plan b = record {
    number = b.number;
    host_is = b.host_is;
    rows_are = b.rows_are;
    counts_are = b.counts_are;
    after_is = b.after_is;
    listed = b.listed;
    lists = b.lists;
    fits = b.fits;
    pooled = b.pooled;
    of_ids = b.of_ids;
    leads = b.leads;
    files = b.files;
    changes = b.changes;
    table = b.table;
    former = b.former;
    parked_is = b.parked_is;
    counted = b.counted;
  }

  pub planned_read : (old mid : StoreParts D N S d n) → Quiet old.journal mid.journal → mid ≡ record old { journal = mid.journal }
      → (session : OpenDump) (line : Line) (plan : Plan) → IsPlanned old session line plan → IsPlanned mid session line plan
  planned_read old mid quiet others session line plan p =
      subst (λ (parts : StoreParts D N S d n). IsPlanned parts session line plan) (sym others) (record {
        lines = p.lines;
        judged = p.judged;
        folding = p.folding;
        parked = p.parked;
        counts = p.counts;
        folded = subst (λ (t : Option Files). IsFolded t p.lines.file p.lines.dropped session.tree p.folding) (sym quiet.told_same)
            p.folded;
        are_parked = subst (λ (t : Option Files). AreParked t (head_at old.partials session.host) p.lines.file p.parked) (sym quiet.told_same)
            p.are_parked;
        are_counted = p.are_counted;
        within = p.within;
        built = built_read old mid.journal session.host p.lines p.parked p.folding p.counts session.tree plan p.built;
      })

  -- the plan was refused
  pub runs_not_planned : (old mid : StoreParts D N S d n) (event : Event) (name : SessionName) (place : ℕ) (line : Line) (refusal : Refusal)
      → EndsAs old event name place line
      → place < length old.sessions.dumps.items → Quiet old.journal mid.journal → mid ≡ record old { journal = mid.journal }
      → ((session : OpenDump) → slice_get old.sessions.dumps.items place ≡ Some session → IsPlanFault old session refusal)
      → ((session : OpenDump) → slice_get old.sessions.dumps.items place ≡ Some session → refusal ≡ Halted → ⊥)
      → Counted (d.fault_count old.journal.disk) (d.fault_count mid.journal.disk) (IsErrOf {T = Plan} (Err refusal) DiskFault)
      → Runs old event (Err refusal) mid
  runs_not_planned old mid event name place line refusal ends within quiet others kind awake counted =
      let w = there_within old.sessions.dumps.items place within in
      runs_plan_refused old mid event refusal (reads_behind old mid quiet others)
      (λ office names at. ap (λ (m : Meaning). m.touches office names) ends.means)
      (λ office names at. kind w.0 w.1 at.all at.told_is (running_ready old place w.0 office names at w.1)) (awake w.0 w.1) counted
