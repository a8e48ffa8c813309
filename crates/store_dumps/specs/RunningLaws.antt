-- Parts at work whose open sessions have changed.
--     same_staging      stages stay where their files do
--     stored_let_go      a pool that lost claims is stored as it was
--     running_let_go      parts are at work with other sessions, if what those don't claim was let go
--     reads_same      parts to which nothing was done
--     runs_kept_memory, runs_alike_memory, runs_alike_refused      an event was refused, and the same is open
--     runs_read_then      an event read files before it was answered
--     runs_kept      an event that leaves the journal was answered as promised
use Rattle.std.specs.Prelude.{◌≡◌, ◌<◌, ◌+◌, ℕ, Bool, true, false, List, Option, Some, None, Ok, Err, is_some}
use Rattle.std.proofs.Common.{refl, sym, ap, ◌∙◌, subst, arith}
use Rattle.disk_trait.specs.declared.ids.PoolId.{PoolId}
use Rattle.disk_trait.specs.declared.disk.Disk.{Ghosts as DiskGhosts}
use Rattle.pool_name.specs.declared.namer.Namer.{Ghosts as NamerGhosts}
use Rattle.fault_counts.specs.Counts.{Counted}
use Rattle.intent_journal.specs.declared.journal.Journal.{Journal}
use Rattle.journal_view.specs.View.{told, uncertain, FindsOnly, Quiet}
use Rattle.journal_view.specs.ViewLaws.{FindsOnly-still, FindsOnly-then, Quiet-still}
use Rattle.pool_index.specs.Index.{Index, TellsIn}
use Rattle.pool_changes.specs.declared.slot.Slot.{Slot}
use Rattle.pool_changes.specs.declared.slot.Slot.TheVariants.{Live, Staged, Doomed}
use Rattle.pool_changes.specs.Slots.{is_live, claims_of}
use Rattle.pool_changes.specs.Kept.{slots_of}
use Rattle.pool_changes.specs.Listed.{item_of, index_of}
use Rattle.pool_store.specs.declared.pool.Pool.{Pool}
use Rattle.pool_store.specs.Fits.{Fits, IsLess}
use Rattle.pool_store.specs.FitsLaws.{fits_less}
use Rattle.backup_views.specs.declared.kept.Views.{Views}
use Rattle.office_catalog.specs.Known.{Known}
use Rattle.ref_counts.specs.Numbers.{Items}
use Rattle.open_sessions.specs.Opened.{Staging, SameStaging, AreSessions, claims_in, AreAlike}
use Rattle.open_sessions.specs.SessionLaws.{AreSessions-claimed, AreSessions-alike, claims_in-alike}
use Rattle.office_model.specs.declared.answer.Answer.{Answer}
use Rattle.office_model.specs.declared.event.Event.{Event}
use Rattle.office_model.specs.declared.refusal.Refusal.{Refusal}
use Rattle.office_model.specs.declared.refusal.Refusal.TheVariants.{Broken, Halted, DiskFault, Memory}
use Rattle.office_model.specs.declared.refusal.BrokenRule.{BrokenRule}
use Rattle.office_model.specs.Meaning.{Reply}
use Rattle.office_model.specs.Office.{Office, Durable, Host, Stage, Names}
use Rattle.office_model.specs.Step.{Running, IsStep, IsAnswerTo, meaning_of}
use Rattle.office_model.specs.History.{IsUndamaged}
use Rattle.office_model.specs.UsedNames.{AreSound, AreNamesAfter}
use Rattle.office_files.specs.Pooled.{contents_of}
use Rattle.office_files.specs.Stands.{Stands}
use Rattle.store_parts.specs.KnownOffice.{known_of_office}
use Rattle.store_parts.specs.declared.parts.StoreParts.{StoreParts}
use Rattle.store_parts.specs.Held.{given, AreCountsOf, heads_of, IsKeptView, IsStored}
use Rattle.store_parts.specs.States.{slots, IsWorking, IsRunning, staging_of}
use Rattle.store_parts.specs.Runs.{IsCarried, MayRecover, Runs, Reads}
use Rattle.store_parts.specs.RunLaws.{running_reads, crash_quiet, counted_still, counted_then, works_same, works_reads, works_then}
use Rattle.store_parts.specs.StepLaws.{step_memory, step_refused}
use Rattle.store_dumps.specs.ClaimLaws.{lets_go_same}
use Rattle.store_dumps.specs.Claims.{LetsGo}
use Rattle.store_dumps.specs.Opening.{HasKept}

live_is : (id : PoolId) (slot : Option Slot) → is_live slot ≡ is_some (item_of id slot)
live_is id None = refl
live_is id (Some (Live size mark claims)) = refl
live_is id (Some (Staged size claims)) = refl
live_is id (Some Doomed) = refl

pub was_live : (id : PoolId) (old new : Option Slot) → item_of id new ≡ item_of id old → is_live new ≡ true → is_live old ≡ true
was_live id old new same live = live_is id old ∙ ap is_some (sym same) ∙ sym (live_is id new) ∙ live

pub same_staging : (stages : List Stage) (staging : Staging) → SameStaging stages staging staging
same_staging stages staging = record { staged = λ i stage there. refl; next_stage = refl; next_reader = refl }

abbrev IsFault : Reply → Type 0
IsFault reply = reply ≡ Err DiskFault

module _ {D N S : Type 0} {d : DiskGhosts D} {n : NamerGhosts N S} where
  pub stored_let_go : (journal : Journal D d) (pool pool' : Pool N S n) (catalog : Known) (office : Durable) (names : Names)
      (count : PoolId → ℕ)
      → IsStored journal pool catalog office names → LetsGo count (slots_of pool.names) (slots_of pool'.names)
      → pool'.in_one_file ≡ pool.in_one_file → IsStored journal pool' catalog office names
  stored_let_go journal pool pool' catalog office names count at go form = record {
    journal_ready = at.journal_ready;
    all = at.all;
    shown = at.shown;
    told_is = at.told_is;
    stands = subst (λ (index : Index). Stands n.digest_of index at.shown at.all office) (sym index) at.stands;
    tells = subst (λ (index : Index). TellsIn pool'.in_one_file index at.all) (sym index)
        (subst (λ (form : Bool). TellsIn form (index_of (slots_of pool.names)) at.all) (sym form) at.tells);
    fits = fits_less n.digest_of (slots_of pool.names) (slots_of pool'.names) (uncertain journal) (uncertain journal) at.all at.all
        less at.fits.certain at.fits;
    all_used = λ id there. (go id).used ∙ at.all_used id there;
    used = record {
      distinct = at.used.distinct;
      slot = λ id among. (go id).used ∙ at.used.slot id among;
      among = λ id e. at.used.among id (sym (go id).used ∙ e);
      near = λ id e. at.used.near id (sym (go id).used ∙ e);
    };
    digest = at.digest;
    second = at.second;
    catalog_is = at.catalog_is;
  }
    where
      index : index_of (slots_of pool'.names) ≡ index_of (slots_of pool.names)
      index = λ i id. (go id).live i

      less : IsLess (slots_of pool.names) (slots_of pool'.names) at.all at.all
      less = record {
        given = λ id e. (go id).was_given e;
        size = λ id e. (go id).size e;
        file = λ id e. refl;
        live = λ id e. was_live id (slots_of pool.names id) (slots_of pool'.names id) (go id).live e;
      }

  -- The new sessions are those of the office by what was given, and each name has lost what they don't claim.
  pub running_let_go : (old new : StoreParts D N S d n) (office next : Office) (names : Names) (count total : PoolId → ℕ)
      (at : IsWorking old office names) → ((id : PoolId) → claims_of (slots old id) ≡ total id)
      → new.journal ≡ old.journal → new.catalog ≡ old.catalog → new.counts ≡ old.counts → new.partials ≡ old.partials
      → new.views ≡ old.views → new.halted ≡ old.halted
      → LetsGo count (slots old) (slots new) → new.pool.in_one_file ≡ old.pool.in_one_file
      → ((id : PoolId) → claims_in new.sessions id + count id ≡ total id)
      → AreSessions n.holds (given (slots old)) (contents_of at.all) (staging_of at.all names) next.volatile new.sessions
      → next.durable ≡ office.durable → next.hosts ≡ office.hosts → AreSound next names → IsRunning new next names
  unfolding stored_let_go
  running_let_go old new office next names count total at claims_are journal catalog counts partials views halted go form claims sessions same
      hosts sound = record {
        working = record {
          ready = halted ∙ at.ready;
          stored = record {
            journal_ready = subst (λ (j : Journal D d). j.halted ≡ false) (sym journal) stored.journal_ready;
            all = at.all;
            shown = at.shown;
            told_is = ap told journal ∙ at.told_is;
            stands = subst (λ (o : Durable). Stands n.digest_of (index_of (slots new)) at.shown at.all o) (sym same) stored.stands;
            tells = stored.tells;
            fits = subst (λ (j : Journal D d). Fits n.digest_of (slots new) (uncertain j) at.all) (sym journal) stored.fits;
            all_used = stored.all_used;
            used = stored.used;
            digest = stored.digest;
            second = at.second;
            catalog_is = catalog ∙ at.catalog_is ∙ ap known_of_office (sym same);
          };
          counted = subst (λ (cs : List Items). AreCountsOf cs at.shown) (sym counts) at.counted;
          parked = partials ∙ at.parked ∙ ap heads_of (sym hosts);
          sessions = AreSessions-claimed n.holds (given (slots old)) (contents_of at.all) (given (slots new)) (contents_of at.all)
              (staging_of at.all names) (staging_of at.all names) next.volatile new.sessions
              (same_staging next.stages (staging_of at.all names))
              (λ id g some. ((go id).given g (subst (λ (m : ℕ). 0 < m) (sym (claimed id)) some), refl)) sessions;
          view = subst (λ (v : Views). IsKeptView v.kept next.hosts at.shown) (sym views)
              (subst (λ (hosts : List Host). IsKeptView old.views.kept hosts at.shown) (sym hosts) at.view);
          sound = sound;
        };
        claimed = claimed;
      }
    where
      stored : IsStored old.journal new.pool old.catalog office.durable names
      stored = stored_let_go old.journal old.pool new.pool old.catalog office.durable names count at.stored go form

      claimed : (id : PoolId) → claims_of (slots new id) ≡ claims_in new.sessions id
      claimed id = omega (arith, (go id).claims, claims_are id, claims id)

  -- nothing was done
  pub reads_same : (old new : StoreParts D N S d n) → new.journal ≡ old.journal → new.pool ≡ old.pool → new.catalog ≡ old.catalog
      → new.counts ≡ old.counts → new.partials ≡ old.partials → new.sessions ≡ old.sessions → new.views ≡ old.views
      → new.halted ≡ old.halted → Reads old new
  reads_same old new journal pool catalog counts partials sessions views halted = record {
    quiet = subst (λ (j : Journal D d). Quiet old.journal j) (sym journal) (Quiet-still old.journal);
    pool_same = pool;
    catalog_same = catalog;
    counts_same = counts;
    partials_same = partials;
    sessions_same = sessions;
    halted_same = halted;
    view = λ office names at. subst (λ (v : Views). IsKeptView v.kept office.hosts at.shown) (sym views) at.view;
  }

  -- the event breaks no rule, and the parts hold the office after it
  pub record Makes (event : Event) (answer : Answer) (office : Office) (names : Names) (new : StoreParts D N S d n) : Type 0 where
    pub next : Office
    pub made : IsCarried event office names (record { answer = answer; after = next })
    pub running : IsRunning new next names

  pub runs_kept : (old new : StoreParts D N S d n) (event : Event) (answer : Answer) → new.journal ≡ old.journal → new.halted ≡ old.halted
      → ((office : Office) (names : Names) → IsRunning old office names → Makes event answer office names new)
      → ((office : Office) (names : Names) → AreNamesAfter office names (meaning_of event) (Ok answer) names) → IsAnswerTo event answer
      → Runs old event (Ok answer) new
  runs_kept old new event answer journal halted makes stay in_kind = record {
    steps = λ office names at.
        let made = makes office names at in
        record { next = Running made.next names; step = (made.made, stay office names); undamaged = tt; in_state = made.running };
    crash = λ office names at.
        subst (λ (j : Journal D d). FindsOnly old.journal j (MayRecover n.digest_of (meaning_of event).pools names office ((meaning_of event).carried office names)))
        (sym journal)
        (FindsOnly-still old.journal (MayRecover n.digest_of (meaning_of event).pools names office ((meaning_of event).carried office names)));
    in_kind = in_kind;
    awake = λ e. absurd cc;
    halts = λ not. works_same old new halted (ap (λ (j : Journal D d). j.halted) journal);
    counted = subst (λ (j : Journal D d). Counted (d.fault_count old.journal.disk) (d.fault_count j.disk) (Ok answer ≡ Err DiskFault))
        (sym journal)
        (counted_still (d.fault_count old.journal.disk) (Ok answer ≡ Err DiskFault) (λ e. absurd cc));
    untouched = λ none damage. absurd (damage tt);
  }

  -- nothing was done to what is open: the event was refused
  pub runs_alike : (old new : StoreParts D N S d n) (event : Event) (refusal : Refusal) → HasKept old new
      → ((office : Office) (names : Names) → IsRunning old office names
      → IsStep (Running office names) event (Err refusal) (Running office names))
      → IsUndamaged (Err refusal) → (refusal ≡ Halted → ⊥) → (IsFault (Err refusal) → ⊥) → Runs old event (Err refusal) new
  runs_alike old new event refusal kept step undamaged at_work fine = record {
    steps = λ office names at. record {
      next = Running office names;
      step = step office names at;
      undamaged = undamaged;
      in_state = running_let_go old new office office names (λ id. 0)
          (claims_in old.sessions) at.working at.claimed kept.journal kept.catalog kept.counts kept.partials kept.views
          kept.halted
          (lets_go_same (slots old) (slots new) kept.names) kept.form
          (λ id. omega (arith, claims_in-alike old.sessions new.sessions kept.sessions id))
          (AreSessions-alike n.holds (given (slots old)) (contents_of at.all) (staging_of at.all names) office.volatile old.sessions
          new.sessions at.sessions kept.sessions)
          refl refl at.sound;
    };
    crash = λ office names at.
        subst (λ (j : Journal D d). FindsOnly old.journal j (MayRecover n.digest_of (meaning_of event).pools names office ((meaning_of event).carried office names)))
        (sym kept.journal)
        (FindsOnly-still old.journal (MayRecover n.digest_of (meaning_of event).pools names office ((meaning_of event).carried office names)));
    in_kind = tt;
    awake = λ e. at_work (let same : refusal ≡ Halted = cc in same);
    halts = λ not. works_same old new kept.halted (ap (λ (j : Journal D d). j.halted) kept.journal);
    counted = subst (λ (j : Journal D d). Counted (d.fault_count old.journal.disk) (d.fault_count j.disk) (IsFault (Err refusal)))
        (sym kept.journal)
        (counted_still (d.fault_count old.journal.disk) (IsFault (Err refusal)) fine);
    untouched = λ none damage. ap (λ (j : Journal D d). told j) kept.journal;
  }

  pub runs_kept_memory : (old new : StoreParts D N S d n) (event : Event) → HasKept old new → Runs old event (Err Memory) new
  runs_kept_memory old new event kept =
      runs_alike old new event Memory kept (λ office names at. step_memory office names event at.used.distinct) tt
      (λ e. absurd cc) (λ e. absurd cc)

  kept_of : (old new : StoreParts D N S d n) → new.journal ≡ old.journal → new.pool ≡ old.pool → new.catalog ≡ old.catalog
      → new.counts ≡ old.counts → new.partials ≡ old.partials → new.views ≡ old.views → new.halted ≡ old.halted
      → AreAlike old.sessions new.sessions → HasKept old new
  kept_of old new journal pool catalog counts partials views halted alike = record {
    journal = journal;
    catalog = catalog;
    counts = counts;
    partials = partials;
    views = views;
    halted = halted;
    form = ap (λ (p : Pool N S n). p.in_one_file) pool;
    sessions = alike;
    names = λ id. ap (λ (p : Pool N S n). slots_of p.names id) pool;
  }

  pub runs_alike_memory : (old new : StoreParts D N S d n) (event : Event) → new.journal ≡ old.journal → new.pool ≡ old.pool
      → new.catalog ≡ old.catalog → new.counts ≡ old.counts → new.partials ≡ old.partials → new.views ≡ old.views → new.halted ≡ old.halted
      → AreAlike old.sessions new.sessions → Runs old event (Err Memory) new
  runs_alike_memory old new event journal pool catalog counts partials views halted alike =
      runs_kept_memory old new event (kept_of old new journal pool catalog counts partials views halted alike)

  pub runs_alike_refused : (old new : StoreParts D N S d n) (event : Event) (rule : BrokenRule) → new.journal ≡ old.journal
      → new.pool ≡ old.pool → new.catalog ≡ old.catalog → new.counts ≡ old.counts → new.partials ≡ old.partials
      → new.views ≡ old.views → new.halted ≡ old.halted → AreAlike old.sessions new.sessions
      → ((office : Office) (names : Names) → IsRunning old office names → (meaning_of event).carried office names ≡ Err rule)
      → Runs old event (Err (Broken rule)) new
  runs_alike_refused old new event rule journal pool catalog counts partials views halted alike broken =
      runs_alike old new event (Broken rule) (kept_of old new journal pool catalog counts partials views halted alike)
      (λ office names at. step_refused office names event rule at.used.distinct (broken office names at)) tt
      (λ e. absurd cc) (λ e. absurd cc)

  -- files were read before
  pub runs_read_then : (old mid new : StoreParts D N S d n) (event : Event) (reply : Reply) {failed : Type 0} → Reads old mid
      → Counted (d.fault_count old.journal.disk) (d.fault_count mid.journal.disk) failed → (failed → ⊥) → Runs mid event reply new
      → Runs old event reply new
  runs_read_then old mid new event reply reads counted fine runs = record {
    steps = λ office names at. runs.steps office names (running_reads old mid office names at reads);
    crash = λ office names at.
        FindsOnly-then (MayRecover n.digest_of (meaning_of event).pools names office ((meaning_of event).carried office names)) old.journal mid.journal new.journal
        (crash_quiet old mid office names at reads (meaning_of event).pools ((meaning_of event).carried office names))
        (runs.crash office names (running_reads old mid office names at reads));
    in_kind = runs.in_kind;
    awake = runs.awake;
    halts = λ not. works_then old mid new (works_reads old mid reads) (runs.halts not);
    counted = counted_then counted fine runs.counted;
    untouched = λ none damage. runs.untouched none damage ∙ reads.quiet.told_same;
  }
