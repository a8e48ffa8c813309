-- An event that changes readers and claims was answered, or memory was wanting for it.
--     near_lost, near_gained      names that lost claims, or gained some, are near
--     still_stays      parts of which at most readers and names are others
--     runs_made      the event was answered
--     runs_kept      memory was wanting, and the same is open
use Rattle.std.specs.Prelude.{ℕ, Ok, Err}
use Rattle.std.proofs.Common.{◌≡◌, sym, ap, ◌∙◌, subst}
use Rattle.fault_counts.specs.Counts.{Counted}
use Rattle.disk_trait.specs.declared.ids.PoolId.{PoolId}
use Rattle.disk_trait.specs.declared.disk.Disk.{Ghosts as DiskGhosts}
use Rattle.pool_name.specs.declared.namer.Namer.{Ghosts as NamerGhosts}
use Rattle.intent_journal.specs.declared.journal.Journal.{Journal}
use Rattle.journal_view.specs.View.{Quiet}
use Rattle.journal_view.specs.ViewLaws.{Quiet-still}
use Rattle.pool_changes.specs.Slots.{Slots, claims_of}
use Rattle.open_sessions.specs.ReaderCallLaws.{AreSessions-readers_kept, claims_in-readers_kept}
use Rattle.office_model.specs.declared.answer.Answer.{Answer}
use Rattle.office_model.specs.declared.event.Event.{Event}
use Rattle.office_model.specs.declared.refusal.Refusal.TheVariants.{Memory}
use Rattle.office_model.specs.Office.{Office, Names}
use Rattle.office_model.specs.Step.{Running, IsAnswerTo, meaning_of}
use Rattle.office_model.specs.laws.StateLaws.{AreSound-carried}
use Rattle.office_files.specs.Pooled.{contents_of}
use Rattle.store_parts.specs.declared.parts.StoreParts.{StoreParts}
use Rattle.store_parts.specs.Held.{given}
use Rattle.store_parts.specs.States.{slots, staging_of, IsRunning}
use Rattle.store_parts.specs.Runs.{Runs}
use Rattle.store_parts.specs.StepLaws.{step_memory}
use Rattle.store_parts.specs.RunLaws.{counted_still, counted_fine, works_same}
use Rattle.store_parts.specs.Opens.{AreNear, Stays, Opens, with_open}
use Rattle.store_parts.specs.OpenLaws.{near_same, alike_still, running_opened, crash_stays}
use Rattle.store_dumps.specs.Claims.{LetsGo, Gains}
use Rattle.store_readers.specs.Opening.{OnlyOpen, HasKept}

module _ (old new : Slots) (count : PoolId → ℕ) where
  pub near_lost : LetsGo count old new → AreNear old new
  near_lost go id = record {
    was_given = (go id).was_given;
    size = (go id).size;
    given = (go id).given;
    live = (go id).live;
    used = (go id).used;
  }

  pub near_gained : Gains count old new → AreNear old new
  near_gained gains id = record {
    was_given = λ e. sym (gains id).given ∙ e;
    size = λ e. (gains id).size;
    given = λ e some. (gains id).given ∙ e;
    live = (gains id).live;
    used = (gains id).used;
  }

module _ {D N S : Type 0} {d : DiskGhosts D} {n : NamerGhosts N S} where
  abbrev pub count_of : StoreParts D N S d n → ℕ
  count_of parts = d.fault_count parts.journal.disk

  pub quiet_same : (old new : StoreParts D N S d n) → OnlyOpen old new → Quiet old.journal new.journal
  quiet_same old new only = subst (λ (j : Journal D d). Quiet old.journal j) (sym only.journal) (Quiet-still old.journal)

  pub counted_same : (old new : StoreParts D N S d n) → OnlyOpen old new → Counted (count_of old) (count_of new) ⊥
  counted_same old new only =
      subst (λ (j : Journal D d). Counted (count_of old) (d.fault_count j.disk) ⊥) (sym only.journal) (counted_still (count_of old) ⊥ (λ e. e))

  pub still_stays : (old new : StoreParts D N S d n) → OnlyOpen old new → AreNear (slots old) (slots new) → Stays old new
  still_stays old new only near = record {
    quiet = quiet_same old new only;
    catalog_same = only.catalog;
    counts_same = only.counts;
    partials_same = only.partials;
    views_same = only.views;
    halted_same = only.halted;
    form_same = only.form;
    names = near;
  }

  -- what is open is that of the office after the event, in parts that at most read files before
  pub record Makes (mid : StoreParts D N S d n) (event : Event) (answer : Answer) (office : Office) (names : Names)
      (new : StoreParts D N S d n) : Type 0 where
    pub at : IsRunning mid office names
    pub stays : Stays mid new
    pub opens : Opens mid event answer office names at new

  module _ (old mid new : StoreParts D N S d n) (event : Event) (quiet : Quiet old.journal new.journal) (halted : new.halted ≡ old.halted)
      {failed : Type 0} (counted : Counted (count_of old) (count_of new) failed) (fine : failed → ⊥) where
    pub runs_made : (answer : Answer)
        → ((office : Office) (names : Names) → IsRunning old office names → Makes mid event answer office names new)
        → IsAnswerTo event answer → Runs old event (Ok answer) new
    runs_made answer makes in_kind = record {
      steps = λ office names at.
          let made = makes office names at in
          let to = made.opens in
          record {
            next = Running (with_open office to.now) to.names';
            step = (to.judged, to.renamed);
            undamaged = tt;
            in_state = running_opened mid new office to.now names to.names' made.at.working made.stays to.alike to.sessions to.claimed
                (AreSound-carried office names event answer (with_open office to.now) to.names' at.sound to.judged to.renamed);
          };
      crash = λ office names at. crash_stays old new office names at quiet (meaning_of event).pools ((meaning_of event).carried office names);
      in_kind = in_kind;
      awake = λ e. absurd cc;
      halts = λ not. works_same old new halted quiet.halted_same;
      counted = counted_fine counted fine (λ e. absurd cc);
      untouched = λ none damage. absurd (damage tt);
    }

    pub runs_kept : HasKept mid new → ((office : Office) (names : Names) → IsRunning old office names → IsRunning mid office names)
        → Runs old event (Err Memory) new
    runs_kept kept still = record {
      steps = λ office names at. record {
        next = Running office names;
        step = step_memory office names event at.used.distinct;
        undamaged = tt;
        in_state = running_kept office names (still office names at);
      };
      crash = λ office names at. crash_stays old new office names at quiet (meaning_of event).pools ((meaning_of event).carried office names);
      in_kind = tt;
      awake = λ e. absurd cc;
      halts = λ not. works_same old new halted quiet.halted_same;
      counted = counted_fine counted fine (λ e. absurd cc);
      untouched = λ none damage. absurd (damage tt);
    }
      where
        running_kept : (office : Office) (names : Names) → IsRunning mid office names → IsRunning new office names
        running_kept office names at =
            running_opened mid new office office.volatile names names at.working
            (still_stays mid new kept.only (near_same (slots mid) (slots new) kept.names)) (alike_still names)
            (AreSessions-readers_kept mid.sessions new.sessions kept.sessions.only n.holds (given (slots mid)) (contents_of at.all)
            (staging_of at.all names) office.volatile at.sessions kept.sessions.readers kept.sessions.next)
            (λ id. ap claims_of (kept.names id) ∙ at.claimed id
            ∙ sym (claims_in-readers_kept mid.sessions new.sessions kept.sessions.only id kept.sessions.readers))
            at.sound
