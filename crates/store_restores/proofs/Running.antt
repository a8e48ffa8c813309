-- Parts at work whose claims and open restores have changed.
--     AreNear old new      names are what they were, but for their claims
--     Stays old new      nothing else has changed
--     running_stays      then the parts are at work, if the sessions are those of the office and claim what is claimed
--     runs_ok, runs_err, runs_kept      an event was answered as promised
use Rattle.std.specs.Prelude.{◌≡◌, ℕ, Bool, true, List, Option, Some, None, Ok, Err, is_some}
use Rattle.std.proofs.Common.{refl, sym, ap, ◌∙◌, subst}
use Rattle.fault_counts.specs.Counts.{Counted}
use Rattle.disk_trait.specs.declared.ids.PoolId.{PoolId}
use Rattle.disk_trait.specs.declared.ids.FileId.TheVariants.{Pool as PoolFile}
use Rattle.disk_trait.specs.declared.disk.Disk.{Ghosts as DiskGhosts}
use Rattle.pool_name.specs.declared.namer.Namer.{Ghosts as NamerGhosts}
use Rattle.journal_view.specs.Found.{IsAlikeBut}
use Rattle.journal_view.specs.View.{uncertain, FindsOnly, Quiet}
use Rattle.journal_view.specs.ViewLaws.{FindsOnly-each}
use Rattle.pool_index.specs.Index.{Index, TellsIn}
use Rattle.pool_changes.specs.declared.slot.Slot.{Slot}
use Rattle.pool_changes.specs.declared.slot.Slot.TheVariants.{Live, Staged, Doomed}
use Rattle.pool_changes.specs.Slots.{Slots, is_live, is_given, size_of, claims_of}
use Rattle.pool_changes.specs.Kept.{IsSame}
use Rattle.pool_changes.specs.Listed.{item_of, index_of}
use Rattle.pool_store.specs.Fits.{IsLess}
use Rattle.pool_store.specs.FitsLaws.{fits_less}
use Rattle.backup_views.specs.declared.kept.Views.{Views}
use Rattle.ref_counts.specs.Numbers.{Items}
use Rattle.office_model.specs.declared.answer.Answer.{Answer}
use Rattle.office_model.specs.declared.event.Event.{Event}
use Rattle.office_model.specs.declared.refusal.Refusal.TheVariants.{Memory}
use Rattle.office_model.specs.Meaning.{Carried, Judged}
use Rattle.office_model.specs.Office.{Office, Durable, Volatile, Host, Names, Stage}
use Rattle.office_model.specs.Step.{Running, IsMade, IsAnswerTo, meaning_of}
use Rattle.office_model.specs.UsedNames.{AreSound, AreNamesAfter}
use Rattle.office_files.specs.Pooled.{contents_of}
use Rattle.office_files.specs.Stands.{Stands}
use Rattle.store_parts.specs.KnownOffice.{known_of_office}
use Rattle.open_sessions.specs.Opened.{Staging, SameStaging, AreSessions, claims_in}
use Rattle.open_sessions.specs.SessionLaws.{AreSessions-kept, AreSessions-alike, claims_in-alike}
use Rattle.store_parts.specs.declared.parts.StoreParts.{StoreParts}
use Rattle.store_parts.specs.Held.{given, AreCountsOf, heads_of, IsKeptView}
use Rattle.store_parts.specs.States.{slots, IsRunning, staging_of}
use Rattle.store_parts.specs.Runs.{MayRecover, Runs}
use Rattle.store_parts.specs.StoredLaws.{stored_found}
use Rattle.store_parts.specs.StepLaws.{step_memory, recover_before}
use Rattle.store_parts.specs.RunLaws.{counted_fine, works_same}
use Rattle.store_dumps.specs.Claims.{LetsGo, Gains}
use Rattle.store_restores.specs.Opening.{HasKept}

-- ---- names

-- what is given was given, with the same size; live and used names are the same
pub record IsNear (id : PoolId) (old new : Option Slot) : Type 0 where
  pub was_given : is_given new ≡ true → is_given old ≡ true
  pub size : is_given new ≡ true → size_of new ≡ size_of old
  pub live : item_of id new ≡ item_of id old
  pub used : is_some new ≡ is_some old

abbrev pub AreNear : Slots → Slots → Type 0
AreNear old new = (id : PoolId) → IsNear id (old id) (new id)

module _ (old new : Slots) where
  pub near_same : IsSame old new → AreNear old new
  near_same same id = record {
    was_given = λ e. sym (ap is_given (same id)) ∙ e;
    size = λ e. ap size_of (same id);
    live = ap (item_of id) (same id);
    used = ap is_some (same id);
  }

  pub near_lost : (count : PoolId → ℕ) → LetsGo count old new → AreNear old new
  near_lost count go id = record {
    was_given = (go id).was_given;
    size = (go id).size;
    live = (go id).live;
    used = (go id).used;
  }

  pub near_gained : (count : PoolId → ℕ) → Gains count old new → AreNear old new
  near_gained count gains id = record {
    was_given = λ e. sym (gains id).given ∙ e;
    size = λ e. (gains id).size;
    live = (gains id).live;
    used = (gains id).used;
  }

-- stages stay where their files do
pub same_staging : (stages : List Stage) (staging : Staging) → SameStaging stages staging staging
same_staging stages staging = record { staged = λ i stage there. refl; next_stage = refl; next_reader = refl }

live_is : (id : PoolId) (slot : Option Slot) → is_live slot ≡ is_some (item_of id slot)
live_is id None = refl
live_is id (Some (Live size mark claims)) = refl
live_is id (Some (Staged size claims)) = refl
live_is id (Some Doomed) = refl

was_live : (id : PoolId) (old new : Option Slot) → item_of id new ≡ item_of id old → is_live new ≡ true → is_live old ≡ true
was_live id old new same live = live_is id old ∙ ap is_some (sym same) ∙ sym (live_is id new) ∙ live

-- ---- parts

module _ {D N S : Type 0} {d : DiskGhosts D} {n : NamerGhosts N S} where
  abbrev pub count_of : StoreParts D N S d n → ℕ
  count_of parts = d.fault_count parts.journal.disk

  pub record Stays (old new : StoreParts D N S d n) : Type 0 where
    pub quiet : Quiet old.journal new.journal
    pub catalog : new.catalog ≡ old.catalog
    pub counts : new.counts ≡ old.counts
    pub partials : new.partials ≡ old.partials
    pub views : new.views ≡ old.views
    pub halted : new.halted ≡ old.halted
    pub form : new.pool.in_one_file ≡ old.pool.in_one_file
    pub names : AreNear (slots old) (slots new)

  pub running_stays : (old new : StoreParts D N S d n) (office next : Office) (names : Names) (at : IsRunning old office names)
      → Stays old new → AreSessions n.holds (given (slots new)) (contents_of at.all) (staging_of at.all names) next.volatile new.sessions
      → ((id : PoolId) → claims_of (slots new id) ≡ claims_in new.sessions id)
      → next.durable ≡ office.durable → next.hosts ≡ office.hosts → AreSound next names → IsRunning new next names
  running_stays old new office next names at stays sessions claimed same hosts sound = record {
    working = record {
      ready = stays.halted ∙ at.ready;
      stored = record {
        journal_ready = stays.quiet.halted_same ∙ at.journal_ready;
        all = at.all;
        shown = at.shown;
        told_is = stays.quiet.told_same ∙ at.told_is;
        stands = subst (λ (o : Durable). Stands n.digest_of (index_of (slots new)) at.shown at.all o) (sym same)
            (subst (λ (index : Index). Stands n.digest_of index at.shown at.all office.durable) (sym index) at.stands);
        tells = subst (λ (index : Index). TellsIn new.pool.in_one_file index at.all) (sym index)
            (subst (λ (form : Bool). TellsIn form (index_of (slots old)) at.all) (sym stays.form) at.tells);
        fits = fits_less n.digest_of (slots old) (slots new) (uncertain old.journal) (uncertain new.journal) at.all at.all less
            (λ id live. stays.quiet.certain.each (PoolFile id) (at.fits.certain id live)) at.fits;
        all_used = λ id there. (stays.names id).used ∙ at.all_used id there;
        used = record {
          distinct = at.used.distinct;
          slot = λ id among. (stays.names id).used ∙ at.used.slot id among;
          among = λ id e. at.used.among id (sym (stays.names id).used ∙ e);
          near = λ id e. at.used.near id (sym (stays.names id).used ∙ e);
        };
        digest = at.digest;
        second = at.second;
        catalog_is = stays.catalog ∙ at.catalog_is ∙ ap known_of_office (sym same);
      };
      counted = subst (λ (counts : List Items). AreCountsOf counts at.shown) (sym stays.counts) at.counted;
      parked = stays.partials ∙ at.parked ∙ ap heads_of (sym hosts);
      sessions = sessions;
      view = subst (λ (v : Views). IsKeptView v.kept next.hosts at.shown) (sym stays.views)
          (subst (λ (hosts : List Host). IsKeptView old.views.kept hosts at.shown) (sym hosts) at.view);
      sound = sound;
    };
    claimed = claimed;
  }
    where
      index : index_of (slots new) ≡ index_of (slots old)
      index = λ i id. (stays.names id).live i

      less : IsLess (slots old) (slots new) at.all at.all
      less = record {
        given = λ id e. (stays.names id).was_given e;
        size = λ id e. (stays.names id).size e;
        file = λ id e. refl;
        live = λ id e. was_live id (slots old id) (slots new id) (stays.names id).live e;
      }

  -- ---- the same is open

  pub stays_kept : (old new : StoreParts D N S d n) → HasKept old new → Stays old new
  stays_kept old new kept = record {
    quiet = kept.quiet;
    catalog = kept.catalog;
    counts = kept.counts;
    partials = kept.partials;
    views = kept.views;
    halted = kept.halted;
    form = kept.form;
    names = near_same (slots old) (slots new) kept.names;
  }

  module _ (old new : StoreParts D N S d n) (office : Office) (names : Names) (at : IsRunning old office names) where
    -- names that stay given name the same contents
    pub sessions_given : (next : Volatile) → ((id : PoolId) → given (slots old) id → given (slots new) id)
        → AreSessions n.holds (given (slots old)) (contents_of at.all) (staging_of at.all names) next new.sessions
        → AreSessions n.holds (given (slots new)) (contents_of at.all) (staging_of at.all names) next new.sessions
    sessions_given next still = AreSessions-kept n.holds (given (slots old)) (contents_of at.all) (given (slots new))
        (contents_of at.all) (staging_of at.all names) (staging_of at.all names) next new.sessions
        (same_staging next.stages (staging_of at.all names)) (λ id g. (still id g, refl))

    pub running_kept : HasKept old new → IsRunning new office names
    running_kept kept =
        running_stays old new office office names at (stays_kept old new kept)
        (sessions_given office.volatile (λ id g. ap is_given (kept.names id) ∙ g)
        (AreSessions-alike n.holds (given (slots old)) (contents_of at.all) (staging_of at.all names) office.volatile old.sessions
        new.sessions at.sessions kept.sessions))
        (λ id. ap claims_of (kept.names id) ∙ at.claimed id ∙ sym (claims_in-alike old.sessions new.sessions kept.sessions id))
        refl refl at.sound

  -- ---- events

  -- meanwhile a crash leaves what is durable
  crash_quiet : (old new : StoreParts D N S d n) (office : Office) (names : Names) → IsRunning old office names
      → Quiet old.journal new.journal → (pools : Bool) (judged : Judged Carried)
      → FindsOnly old.journal new.journal (MayRecover n.digest_of pools names office judged)
  crash_quiet old new office names at quiet pools judged =
      FindsOnly-each (IsAlikeBut at.all (uncertain old.journal)) (MayRecover n.digest_of pools names office judged) old.journal new.journal
      (λ found alike. recover_before n.digest_of pools names office judged found
      (stored_found old.journal old.pool old.catalog office.durable names at.stored found alike))
      (quiet.crash at.all at.told_is)

  -- the event breaks no rule, and the parts hold the office after it
  pub record Makes (event : Event) (answer : Answer) (office : Office) (names : Names) (new : StoreParts D N S d n) : Type 0 where
    pub next : Office
    pub judged : IsMade (meaning_of event).pools names office ((meaning_of event).carried office names) answer next
    pub running : IsRunning new next names

  module _ (old new : StoreParts D N S d n) (event : Event) (quiet : Quiet old.journal new.journal) (halted : new.halted ≡ old.halted) {failed : Type 0}
      (counted : Counted (count_of old) (count_of new) failed) (fine : failed → ⊥) where
    pub runs_ok : (answer : Answer)
        → ((office : Office) (names : Names) → IsRunning old office names → Makes event answer office names new)
        → ((office : Office) (names : Names) → AreNamesAfter office names (meaning_of event) (Ok answer) names) → IsAnswerTo event answer
        → Runs old event (Ok answer) new
    runs_ok answer makes stay in_kind = record {
      steps = λ office names at.
          let made = makes office names at in
          record { next = Running made.next names; step = (made.judged, stay office names); undamaged = tt; in_state = made.running };
      crash = λ office names at. crash_quiet old new office names at quiet (meaning_of event).pools ((meaning_of event).carried office names);
      in_kind = in_kind;
      awake = λ e. absurd cc;
      halts = λ not. works_same old new halted quiet.halted_same;
      counted = counted_fine counted fine (λ e. absurd cc);
      untouched = λ none damage. absurd (damage tt);
    }

    -- memory is wanting, and the office is the same
    pub runs_same : ((office : Office) (names : Names) → IsRunning old office names → IsRunning new office names)
        → Runs old event (Err Memory) new
    runs_same same = record {
      steps = λ office names at. record {
        next = Running office names;
        step = step_memory office names event at.used.distinct;
        undamaged = tt;
        in_state = same office names at;
      };
      crash = λ office names at. crash_quiet old new office names at quiet (meaning_of event).pools ((meaning_of event).carried office names);
      in_kind = tt;
      awake = λ e. absurd cc;
      halts = λ not. works_same old new halted quiet.halted_same;
      counted = counted_fine counted fine (λ e. absurd cc);
      untouched = λ none damage. absurd (damage tt);
    }
