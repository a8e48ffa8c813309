-- Parts at work of which what is open has changed, and no file.
--     near_same      names that are the same are near
--     stays_still, stays_sessions      nothing was done, or the sessions alone are others
--     running_opened      the parts are at work, if the sessions are those of an office that is durably the same
--     running_alike      and with the same office, if the same is open
--     runs_opened      an event was answered that changes what is open
--     runs_same_memory, runs_same_broken      it was refused, and the office is the same
--     runs_never      what no store at work replies
use Rattle.std.specs.Prelude.{◌≡◌, ◌<◌, ℕ, Bool, true, List, Option, Some, None, Ok, Err, IfOk, is_some}
use Rattle.std.proofs.Common.{refl, sym, ap, ◌∙◌, subst}
use Rattle.fault_counts.specs.Counts.{Counted}
use Rattle.disk_trait.specs.declared.ids.PoolId.{PoolId}
use Rattle.disk_trait.specs.declared.ids.FileId.TheVariants.{Pool as PoolFile}
use Rattle.disk_trait.specs.declared.disk.Disk.{Ghosts as DiskGhosts}
use Rattle.pool_name.specs.declared.namer.Namer.{Ghosts as NamerGhosts}
use Rattle.journal_view.specs.Found.{IsAlikeBut}
use Rattle.journal_view.specs.View.{told, uncertain, FindsOnly, Quiet}
use Rattle.journal_view.specs.ViewLaws.{FindsOnly-each, Quiet-still}
use Rattle.pool_index.specs.Index.{Index, TellsIn}
use Rattle.pool_changes.specs.declared.slot.Slot.{Slot}
use Rattle.pool_changes.specs.declared.slot.Slot.TheVariants.{Live, Staged, Doomed}
use Rattle.pool_changes.specs.Slots.{Slots, is_live, is_given, size_of, claims_of}
use Rattle.pool_changes.specs.Kept.{IsSame}
use Rattle.pool_changes.specs.Listed.{item_of, index_of}
use Rattle.pool_store.specs.Fits.{IsLess}
use Rattle.pool_store.specs.FitsLaws.{fits_less}
use Rattle.backup_views.specs.declared.kept.Views.{Views}
use Rattle.ref_counts.specs.Numbers.{Items}
use Rattle.open_sessions.specs.Opened.{AreSessions, AreAlike, claims_in}
use Rattle.open_sessions.specs.SessionLaws.{AreSessions-claimed, AreSessions-alike, claims_in-alike}
use Rattle.office_model.specs.declared.answer.Answer.{Answer}
use Rattle.office_model.specs.declared.event.Event.{Event}
use Rattle.office_model.specs.declared.refusal.BrokenRule.{BrokenRule}
use Rattle.office_model.specs.declared.refusal.Refusal.{Refusal}
use Rattle.office_model.specs.declared.refusal.Refusal.TheVariants.{Broken, Halted, DiskFault, Memory}
use Rattle.office_model.specs.Office.{Office, Volatile, Names}
use Rattle.office_model.specs.Meaning.{Carried, Judged, Reply}
use Rattle.office_model.specs.Step.{Running, IsStep, IsAnswerTo, meaning_of}
use Rattle.office_model.specs.History.{IsUndamaged}
use Rattle.office_model.specs.UsedNames.{AreSound}
use Rattle.office_model.specs.laws.StateLaws.{AreSound-carried}
use Rattle.office_files.specs.Pooled.{contents_of}
use Rattle.office_files.specs.Stands.{Stands}
use Rattle.office_files.specs.TableLayouts.{AreSecondBut}
use Rattle.store_parts.specs.declared.parts.StoreParts.{StoreParts}
use Rattle.store_parts.specs.Held.{given, AreUsed, AreCountsOf, IsKeptView}
use Rattle.store_parts.specs.States.{slots, staging_of, IsWorking, IsRunning}
use Rattle.store_parts.specs.Runs.{MayRecover, StaysAtWork, Runs}
use Rattle.store_parts.specs.StoredLaws.{stored_found}
use Rattle.store_parts.specs.StepLaws.{step_refused, step_memory, recover_before}
use Rattle.store_parts.specs.RunLaws.{counted_still, counted_fine, works_same}
use Rattle.store_parts.specs.Opens.{IsNear, AreNear, AreNamedAlike, Stays, Opens, with_open}

-- ---- names

pub near_same : (old new : Slots) → IsSame old new → AreNear old new
near_same old new same id = record {
  was_given = λ e. sym (ap is_given (same id)) ∙ e;
  size = λ e. ap size_of (same id);
  given = λ e some. ap is_given (same id) ∙ e;
  live = ap (item_of id) (same id);
  used = ap is_some (same id);
}

live_is : (id : PoolId) (slot : Option Slot) → is_live slot ≡ is_some (item_of id slot)
live_is id None = refl
live_is id (Some (Live size mark claims)) = refl
live_is id (Some (Staged size claims)) = refl
live_is id (Some Doomed) = refl

was_live : (id : PoolId) (old new : Option Slot) → IsNear id old new → is_live new ≡ true → is_live old ≡ true
was_live id old new near live = live_is id old ∙ ap is_some (sym near.live) ∙ sym (live_is id new) ∙ live

pub alike_still : (names : Names) → AreNamedAlike names names
alike_still names = record { used = refl; digest_of = refl; old_hosts = refl }

-- ---- parts

module _ {D N S : Type 0} {d : DiskGhosts D} {n : NamerGhosts N S} where
  pub stays_still : (parts : StoreParts D N S d n) → Stays parts parts
  stays_still parts = record {
    quiet = Quiet-still parts.journal;
    catalog_same = refl;
    counts_same = refl;
    partials_same = refl;
    views_same = refl;
    halted_same = refl;
    form_same = refl;
    names = near_same (slots parts) (slots parts) (λ id. refl);
  }

  pub works_stays : (old new : StoreParts D N S d n) → Stays old new → StaysAtWork old new
  works_stays old new stays = works_same old new stays.halted_same stays.quiet.halted_same

  -- the sessions alone are others
  abbrev pub OnlySessions : StoreParts D N S d n → StoreParts D N S d n → Type 0
  OnlySessions old new = new ≡ record old { sessions = new.sessions }

  pub stays_sessions : (old new : StoreParts D N S d n) → OnlySessions old new → Stays old new
  stays_sessions old new only = record {
    quiet = subst (λ (p : StoreParts D N S d n). Quiet old.journal p.journal) (sym only) (Quiet-still old.journal);
    catalog_same = ap (λ (p : StoreParts D N S d n). p.catalog) only;
    counts_same = ap (λ (p : StoreParts D N S d n). p.counts) only;
    partials_same = ap (λ (p : StoreParts D N S d n). p.partials) only;
    views_same = ap (λ (p : StoreParts D N S d n). p.views) only;
    halted_same = ap (λ (p : StoreParts D N S d n). p.halted) only;
    form_same = ap (λ (p : StoreParts D N S d n). p.pool.in_one_file) only;
    names = near_same (slots old) (slots new) (λ id. ap (λ (p : StoreParts D N S d n). slots p id) only);
  }

  pub counted_sessions : (old new : StoreParts D N S d n) → OnlySessions old new
      → Counted (d.fault_count old.journal.disk) (d.fault_count new.journal.disk) ⊥
  counted_sessions old new only =
      subst (λ (p : StoreParts D N S d n). Counted (d.fault_count old.journal.disk) (d.fault_count p.journal.disk) ⊥) (sym only)
      (counted_still (d.fault_count old.journal.disk) ⊥ (λ e. e))

  pub running_opened : (old new : StoreParts D N S d n) (office : Office) (now : Volatile) (names names' : Names)
      (at : IsWorking old office names) → Stays old new → AreNamedAlike names names'
      → AreSessions n.holds (given (slots old)) (contents_of at.all) (staging_of at.all names') now new.sessions
      → ((id : PoolId) → claims_of (slots new id) ≡ claims_in new.sessions id) → AreSound (with_open office now) names'
      → IsRunning new (with_open office now) names'
  running_opened old new office now names names' at stays alike sessions claimed sound = record {
    working = record {
      ready = stays.halted_same ∙ at.ready;
      stored = record {
        journal_ready = stays.quiet.halted_same ∙ at.journal_ready;
        all = at.all;
        shown = at.shown;
        told_is = stays.quiet.told_same ∙ at.told_is;
        stands = subst (λ (i : Index). Stands n.digest_of i at.shown at.all office.durable) (sym index) at.stands;
        tells = subst (λ (i : Index). TellsIn new.pool.in_one_file i at.all) (sym index)
            (subst (λ (form : Bool). TellsIn form (index_of (slots old)) at.all) (sym stays.form_same) at.tells);
        fits = fits_less n.digest_of (slots old) (slots new) (uncertain old.journal) (uncertain new.journal) at.all at.all less
            (λ id live. stays.quiet.certain.each (PoolFile id) (at.fits.certain id live)) at.fits;
        all_used = λ id there. (stays.names id).used ∙ at.all_used id there;
        used = subst (AreUsed (slots new)) (sym alike.used) (record {
          distinct = at.used.distinct;
          slot = λ id among. (stays.names id).used ∙ at.used.slot id among;
          among = λ id e. at.used.among id (sym (stays.names id).used ∙ e);
          near = λ id e. at.used.near id (sym (stays.names id).used ∙ e);
        });
        digest = alike.digest_of ∙ at.digest;
        second = subst (λ (hosts : List ℕ). AreSecondBut hosts at.all) (sym alike.old_hosts) at.second;
        catalog_is = stays.catalog_same ∙ at.catalog_is;
      };
      counted = subst (λ (counts : List Items). AreCountsOf counts at.shown) (sym stays.counts_same) at.counted;
      parked = stays.partials_same ∙ at.parked;
      sessions = AreSessions-claimed n.holds (given (slots old)) (contents_of at.all) (given (slots new)) (contents_of at.all)
          (staging_of at.all names') (staging_of at.all names') now new.sessions
          (record { staged = λ i stage there. refl; next_stage = refl; next_reader = refl })
          (λ id g some. ((stays.names id).given g (subst (λ (m : ℕ). 0 < m) (sym (claimed id)) some), refl)) sessions;
      view = subst (λ (v : Views). IsKeptView v.kept office.hosts at.shown) (sym stays.views_same) at.view;
      sound = sound;
    };
    claimed = claimed;
  }
    where
      index : index_of (slots new) ≡ index_of (slots old)
      index = λ i id. (stays.names id).live i

      less : IsLess (slots old) (slots new) at.all at.all
      less = record {
        given = λ id e. (stays.names id).was_given e;
        size = λ id e. (stays.names id).size e;
        file = λ id e. refl;
        live = λ id e. was_live id (slots old id) (slots new id) (stays.names id) e;
      }

  -- the same is open, and claimed
  pub running_alike : (old new : StoreParts D N S d n) (office : Office) (names : Names) (at : IsRunning old office names) → Stays old new
      → AreAlike old.sessions new.sessions → ((id : PoolId) → claims_of (slots new id) ≡ claims_of (slots old id))
      → IsRunning new office names
  running_alike old new office names at stays alike claims =
      running_opened old new office office.volatile names names at.working stays (alike_still names)
      (AreSessions-alike n.holds (given (slots old)) (contents_of at.all) (staging_of at.all names) office.volatile old.sessions
      new.sessions at.sessions alike)
      (λ id. claims id ∙ at.claimed id ∙ sym (claims_in-alike old.sessions new.sessions alike id)) at.sound

  -- ---- events

  -- meanwhile a crash leaves what is durable
  pub crash_stays : (old new : StoreParts D N S d n) (office : Office) (names : Names) → IsRunning old office names
      → Quiet old.journal new.journal
      → (pools : Bool) (judged : Judged Carried)
      → FindsOnly old.journal new.journal (MayRecover n.digest_of pools names office judged)
  crash_stays old new office names at quiet pools judged =
      FindsOnly-each (IsAlikeBut at.all (uncertain old.journal)) (MayRecover n.digest_of pools names office judged) old.journal new.journal
      (λ found alike. recover_before n.digest_of pools names office judged found
      (stored_found old.journal old.pool old.catalog office.durable names at.stored found alike))
      (quiet.crash at.all at.told_is)

  module _ (old new : StoreParts D N S d n) (event : Event) (stays : Stays old new) {failed : Type 0}
      (counted : Counted (d.fault_count old.journal.disk) (d.fault_count new.journal.disk) failed) (fine : failed → ⊥) where
    pub runs_opened : (answer : Answer)
        → ((office : Office) (names : Names) (at : IsRunning old office names) → Opens old event answer office names at new)
        → IsAnswerTo event answer → Runs old event (Ok answer) new
    runs_opened answer opens in_kind = record {
      steps = λ office names at.
          let to = opens office names at in
          record {
            next = Running (with_open office to.now) to.names';
            step = (to.judged, to.renamed);
            undamaged = tt;
            in_state = running_opened old new office to.now names to.names' at.working stays to.alike to.sessions to.claimed
                (AreSound-carried office names event answer (with_open office to.now) to.names' at.sound to.judged to.renamed);
          };
      crash = λ office names at.
          crash_stays old new office names at stays.quiet (meaning_of event).pools ((meaning_of event).carried office names);
      in_kind = in_kind;
      awake = λ e. absurd cc;
      halts = λ not. works_stays old new stays;
      counted = counted_fine counted fine (λ e. absurd cc);
      untouched = λ none damage. absurd (damage tt);
    }

    -- refused, and at work with the same office
    module _ (same : (office : Office) (names : Names) → IsRunning old office names → IsRunning new office names) where
      runs_same : (refusal : Refusal)
          → ((office : Office) (names : Names) → IsRunning old office names
          → IsStep (Running office names) event (Err refusal) (Running office names))
          → IsUndamaged (Err refusal) → (refusal ≡ Halted → ⊥) → (refusal ≡ DiskFault → ⊥) → Runs old event (Err refusal) new
      runs_same refusal step undamaged at_work other = record {
        steps = λ office names at. record {
          next = Running office names;
          step = step office names at;
          undamaged = undamaged;
          in_state = same office names at;
        };
        crash = λ office names at.
            crash_stays old new office names at stays.quiet (meaning_of event).pools ((meaning_of event).carried office names);
        in_kind = tt;
        awake = λ e. at_work (let f : refusal ≡ Halted = cc in f);
        halts = λ not. works_stays old new stays;
        counted = counted_fine counted fine (λ e. other (let f : refusal ≡ DiskFault = cc in f));
        untouched = λ none damage. stays.quiet.told_same;
      }

      pub runs_same_memory : Runs old event (Err Memory) new
      runs_same_memory = runs_same Memory (λ office names at. step_memory office names event at.used.distinct) tt (λ e. absurd cc)
          (λ e. absurd cc)

      pub runs_same_broken : (rule : BrokenRule)
          → ((office : Office) (names : Names) → IsRunning old office names → (meaning_of event).carried office names ≡ Err rule)
          → Runs old event (Err (Broken rule)) new
      runs_same_broken rule broken =
          runs_same (Broken rule) (λ office names at. step_refused office names event rule at.used.distinct (broken office names at)) tt
          (λ e. absurd cc) (λ e. absurd cc)

  -- what no store at work replies
  pub runs_never : (old new : StoreParts D N S d n) (event : Event) (reply : Reply)
      → ((office : Office) (names : Names) → IsRunning old office names → ⊥) → IfOk reply (IsAnswerTo event)
      → (reply ≡ Err Halted → ⊥) → StaysAtWork old new → told new.journal ≡ told old.journal
      → Counted (d.fault_count old.journal.disk) (d.fault_count new.journal.disk) (reply ≡ Err DiskFault) → Runs old event reply new
  runs_never old new event reply never in_kind awake works same counted = record {
    steps = λ office names at. absurd (never office names at);
    crash = λ office names at. absurd (never office names at);
    in_kind = in_kind;
    awake = awake;
    halts = λ not. works;
    counted = counted;
    untouched = λ none damage. same;
  }
