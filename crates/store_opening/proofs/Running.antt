-- A store that was opened again, and the step of the model that it took.
use Rattle.std.specs.Prelude.{IsErrOf, is_some, nat_le, ◌||◌}
use Rattle.std.proofs.Common.{◌≡◌, ℕ, ◌+◌, ◌<◌, ◌≤◌, Bool, false, true, List, Option, None, Some, Ok, Err, refl, sym, ap, ◌∙◌, subst, inl, inr, arith}
use Rattle.std.proofs.lemmas.Bool.Decides.{nat_tests}
use Rattle.fault_counts.specs.Counts.{Counted}
use Rattle.disk_trait.specs.declared.ids.FileId.{FileId}
use Rattle.disk_trait.specs.declared.ids.FileId.TheVariants as F
use Rattle.disk_trait.specs.declared.disk.Disk.{Ghosts as DiskGhosts}
use Rattle.disk_trait.specs.Files.{Files}
use Rattle.pool_name.specs.declared.namer.Namer.{Ghosts as NamerGhosts}
use Rattle.intent_journal.specs.declared.journal.Journal.{Journal}
use Rattle.journal_view.specs.Found.{IsAlikeBut}
use Rattle.journal_view.specs.View.{told, uncertain, Quiet, FindsNow, FindsOnly}
use Rattle.journal_view.specs.ViewLaws.{FindsNow-each, working_finds}
use Rattle.pool_changes.specs.declared.slot.Slot.{Slot}
use Rattle.pool_changes.specs.declared.slot.Slot.TheVariants.{Live, Staged, Doomed}
use Rattle.pool_changes.specs.Slots.{claims_of}
use Rattle.pool_changes.specs.Kept.{slots_of}
use Rattle.pool_changes.specs.Listed.{index_of}
use Rattle.pool_store.specs.declared.pool.Pool.{Pool}
use Rattle.pool_store.specs.Opened.{IsFresh}
use Rattle.pool_store.specs.Opening.{AreFresh, AreThePoolFiles}
use Rattle.backup_views.specs.declared.kept.KeptView.{KeptView}
use Rattle.ref_counts.specs.Numbers.{Items}
use Rattle.ref_counts.specs.Stored.{StoredHost}
use Rattle.host_partials.specs.declared.held.PartialHead.{PartialHead}
use Rattle.open_sessions.specs.Opened.{AreNumbers}
use Rattle.open_sessions.specs.SessionLaws.{AreSessions-none, claims_in-none}
use Rattle.office_catalog.specs.Known.{Known}
use Rattle.office_files.specs.Pooled.{contents_of}
use Rattle.office_files.specs.IdLaws.{are_ids}
use Rattle.office_files.specs.TableLayouts.{AreSecondBut}
use Rattle.office_files.specs.TableLayoutLaws.{second_alike}
use Rattle.office_model.specs.declared.answer.Answer.{Answer}
use Rattle.office_model.specs.declared.answer.Answer.TheVariants.{Reopened as ReopenedAnswer}
use Rattle.office_model.specs.declared.event.Event.TheVariants.{Reopen}
use Rattle.office_model.specs.declared.refusal.BrokenRule.{BrokenRule}
use Rattle.office_model.specs.declared.refusal.BrokenRule.TheVariants.{NumbersSpent}
use Rattle.office_model.specs.declared.refusal.Refusal.{Refusal}
use Rattle.office_model.specs.declared.refusal.Refusal.TheVariants.{Broken, Halted as HaltedReply, DiskFault, Damaged, Memory}
use Rattle.office_model.specs.Ids.{AreIds}
use Rattle.office_model.specs.Office.{Office, Durable, Host, Names, IsSoundDurable, raised, reopened, last_sequence}
use Rattle.office_model.specs.Meaning.{Reply}
use Rattle.office_model.specs.UsedNames.{OnlyUsed}
use Rattle.office_model.specs.laws.ReopenLaws.{IsSound-reopened}
use Rattle.office_model.specs.Step.{State, Running, Halted, IsPicked, names_of}
use Rattle.office_model.specs.events.Reopen.{carried}
use Rattle.store_parts.specs.declared.parts.StoreParts.{StoreParts}
use Rattle.store_parts.specs.Held.{AreUsed, given, IsKeptView, IsStored, MayBe}
use Rattle.store_parts.specs.States.{slots, staging_of, IsRunning, IsHalted, InState}
use Rattle.store_parts.specs.Runs.{Steps, IsAtWork, Reads}
use Rattle.store_parts.specs.RunLaws.{running_reads}
use Rattle.store_parts.specs.WriteLaws.{running_renamed}
use Rattle.store_opening.specs.declared.found.Found.{Found}
use Rattle.store_opening.specs.declared.fault.OpenRefusal.{OpenRefusal}
use Rattle.store_opening.specs.declared.fault.OpenRefusal.TheVariants as O
use Rattle.store_opening.specs.KeptTables.{HasTablesOf, HasTablesFound}
use Rattle.store_opening.specs.KeptTablesLaws.{second_found, second_told}
use Rattle.store_opening.specs.Recovers.{IsHeld, SaysWhy}
use Rattle.store_opening.specs.Begins.{MayLeave, IsPlain, Raised, Begins}
use Rattle.store_opening.specs.Reopens.{reply_of, halts, IsPlainReply, IsStoppingReply, first_of, second_of, with_journal, IsOfFound, Reopened, Goes, GoesTo, Reopens}
use Rattle.store_opening.specs.Opens.{Opened}
use Rattle.store_opening.specs.Whole.{IsLast, SaysSpent, IsAllOf, HasBucketsOf}
use Rattle.store_opening.specs.Settles.{ComesToOne, IsOfOne, Ends, Settles}
use Rattle.store_opening.proofs.Raising.{stored_may}
use Rattle.store_opening.proofs.Whole.{whole_parts, buckets_parts, listed_parts}

-- ---- nothing is open

fresh_claims : (slot : Option Slot) → IsFresh slot → claims_of slot ≡ 0
fresh_claims None fresh = refl
fresh_claims (Some (Live size mark claims)) fresh = fresh
fresh_claims (Some (Staged size claims)) fresh = absurd fresh
fresh_claims (Some Doomed) fresh = refl

kept_none : (kept : Option KeptView) (hosts : List Host) (shown : List StoredHost) → kept ≡ None → IsKeptView kept hosts shown
kept_none kept hosts shown e = subst (λ (k : Option KeptView). IsKeptView k hosts shown) (sym e) tt

abbrev numbered_from : ℕ → ℕ → Names → Names
numbered_from next_stage next_reader names = record names { next_stage = next_stage; next_reader = next_reader }

module _ {D N S : Type 0} {d : DiskGhosts D} {n : NamerGhosts N S} where
  -- what is durable has no number of a stage or a reader
  unfoldable stored_from : (journal : Journal D d) (pool : Pool N S n) (catalog : Known) (office : Durable) (names : Names)
      (next_stage next_reader : ℕ) → IsStored journal pool catalog office names
      → IsStored journal pool catalog office (numbered_from next_stage next_reader names)
  stored_from journal pool catalog office names next_stage next_reader at = record {
    journal_ready = at.journal_ready;
    all = at.all;
    shown = at.shown;
    told_is = at.told_is;
    stands = at.stands;
    tells = at.tells;
    fits = at.fits;
    all_used = at.all_used;
    used = at.used;
    digest = at.digest;
    second = at.second;
    catalog_is = at.catalog_is;
  }

  held_from : (journal : Journal D d) (pool : Pool N S n) (catalog : Known) (counts : List Items) (partials : List (Option PartialHead))
      (office : Durable) (names : Names) (next_stage next_reader : ℕ) → IsHeld journal pool catalog counts partials office names
      → IsHeld journal pool catalog counts partials office (numbered_from next_stage next_reader names)
  unfolding stored_from
  held_from journal pool catalog counts partials office names next_stage next_reader held = record {
    stored = stored_from journal pool catalog office names next_stage next_reader held.stored;
    counted = held.counted;
    parked = held.parked;
  }

  -- the ids of its contents are the names that its files list
  found_ids : (journal : Journal D d) (pool : Pool N S n) (catalog : Known) (office : Durable) (names : Names)
      → IsStored journal pool catalog office names → AreIds names.digest_of office.pool office.ids
  found_ids journal pool catalog office names at =
      subst (λ (digest_of : List ℕ → List ℕ). AreIds digest_of office.pool office.ids) (sym at.digest)
      (are_ids n.digest_of (index_of (slots_of pool.names)) (contents_of at.all) office.pool office.ids at.stands.one at.stands.pool
      at.stands.ids)

  -- a store of these parts is at work
  fresh_running : (parts : StoreParts D N S d n) (found : Found N S n) (office : Durable) (names : Names)
      → IsOfFound parts found names.next_stage names.next_reader → AreFresh (slots parts)
      → IsSoundDurable office → IsHeld parts.journal parts.pool parts.catalog parts.counts parts.partials (raised office) names
      → IsRunning parts (reopened office) names
  fresh_running parts found office names is fresh sound held = record {
    working = record {
      ready = is.ready;
      stored = held.stored;
      counted = held.counted;
      parked = held.parked;
      sessions = AreSessions-none n.holds (given (slots parts)) (contents_of held.stored.all) (staging_of held.stored.all names)
          parts.sessions is.none is.first is.numbers;
      view = kept_none parts.views.kept office.hosts held.stored.shown is.no_view;
      sound = record {
        office = IsSound-reopened office sound;
        names = record {
          distinct = held.stored.used.distinct;
          given = record { stages = λ i s at. absurd cc; readers = λ i r at. absurd cc };
        };
        ids = found_ids parts.journal parts.pool parts.catalog (raised office) names held.stored;
      };
    };
    claimed = λ id. fresh_claims (slots parts id) (fresh id) ∙ sym (claims_in-none parts.sessions is.none id);
  }

  -- what was found is at work, with these numbers
  found_running : (parts : StoreParts D N S d n) (journal : Journal D d) (found : Found N S n) (a b : Durable) (next_stage next_reader : ℕ)
      (rose : Raised journal found a b) → IsOfFound parts found next_stage next_reader → parts.journal ≡ journal
      → IsRunning parts (reopened rose.office) (numbered_from next_stage next_reader rose.names)
  found_running parts journal found a b next_stage next_reader rose is same =
      fresh_running parts found rose.office (numbered_from next_stage next_reader rose.names) is
      (subst (λ (p : Pool N S n). AreFresh (slots_of p.names)) (sym is.pool_is) rose.fresh) rose.sound
      (held_from parts.journal parts.pool parts.catalog parts.counts parts.partials (raised rose.office) rose.names next_stage next_reader held)
    where
      held : IsHeld parts.journal parts.pool parts.catalog parts.counts parts.partials (raised rose.office) rose.names
      held =
          subst (λ (j : Journal D d). IsHeld j parts.pool parts.catalog parts.counts parts.partials (raised rose.office) rose.names) (sym same)
          (subst (λ (p : Pool N S n). IsHeld journal p parts.catalog parts.counts parts.partials (raised rose.office) rose.names) (sym is.pool_is)
          (subst (λ (k : Known). IsHeld journal found.pool k parts.counts parts.partials (raised rose.office) rose.names) (sym is.catalog_is)
          (subst (λ (c : List Items). IsHeld journal found.pool found.catalog c parts.partials (raised rose.office) rose.names)
          (sym is.counts_are)
          (subst (λ (h : List (Option PartialHead)). IsHeld journal found.pool found.catalog found.counts h (raised rose.office) rose.names)
          (sym is.partials_are) rose.held))))

  -- a store that reopened, whose numbers go on
  pub raised_running : (old parts : StoreParts D N S d n) (journal : Journal D d) (found : Found N S n) (a b : Durable) (epoch : ℕ)
      → Raised journal found a b → IsOfFound parts found old.sessions.stages.next old.sessions.readers.next → parts.journal ≡ journal
      → epoch ≡ found.catalog.epoch → Reopened a b (ReopenedAnswer epoch) old parts
  raised_running old parts journal found a b epoch rose is same epoch_is = record {
    office = rose.office;
    is_one = rose.is_one;
    room = rose.room;
    answer_is = ap ReopenedAnswer (epoch_is ∙ ap (λ (k : Known). k.epoch) rose.stored.catalog_is);
    names = numbered_from old.sessions.stages.next old.sessions.readers.next rose.names;
    numbers = record { stage = refl; reader = refl };
    running = found_running parts journal found a b old.sessions.stages.next old.sessions.readers.next rose is same;
  }

  -- a store that opened, whose numbers begin
  pub opened_of : (parts : StoreParts D N S d n) (journal : Journal D d) (found : Found N S n) (a b : Durable) → Raised journal found a b
      → IsOfFound parts found 0 0 → parts.journal ≡ journal → Opened a b parts
  opened_of parts journal found a b rose is same = record {
    office = rose.office;
    is_one = rose.is_one;
    room = rose.room;
    names = numbered_from 0 0 rose.names;
    numbers = is.numbers;
    running = found_running parts journal found a b 0 0 rose is same;
    older = λ all told_is. rose.older all (ap (λ (j : Journal D d). told j) (sym same) ∙ told_is);
  }

  -- whatever the disk
  pub at_work : (parts : StoreParts D N S d n) (journal : Journal D d) (found : Found N S n) (next_stage next_reader : ℕ)
      → journal.halted ≡ false → IsOfFound parts found next_stage next_reader → parts.journal ≡ journal → IsAtWork parts
  at_work parts journal found next_stage next_reader ready is same =
      record { ready = is.ready; journal_ready = ap (λ (j : Journal D d). j.halted) same ∙ ready }

  -- the journal is that of the parts
  pub tables_parts : (parts : StoreParts D N S d n) (journal : Journal D d) → parts.journal ≡ journal → (all : Files)
      → FindsNow journal (HasTablesOf all) → FindsNow parts.journal (HasTablesOf all)
  tables_parts parts journal same all tables = subst (λ (j : Journal D d). FindsNow j (HasTablesOf all)) (sym same) tables

  pub started_of : (old : D) (parts : StoreParts D N S d n) (journal : Journal D d) (found : Found N S n) (a b : Durable)
      → Ends a b (Ok found) old journal → IsOfFound parts found 0 0 → parts.journal ≡ journal
      → (o : Opened a b parts) × IsOfOne d n.digest_of old parts.journal.disk o.office
  unfolding opened_of
  started_of old parts journal found a b ends is same = (
    opened_of parts journal found a b ends.0 is same,
    subst (λ (j : Journal D d). IsOfOne d n.digest_of old j.disk ends.0.office) (sym same) ends.1,
  )

  goes_to_raised : (old new : StoreParts D N S d n) (journal : Journal D d) (found : Found N S n) (a b : Durable) (epoch : ℕ)
      → Settles a b (Ok found) old.journal.disk journal → IsOfFound new found old.sessions.stages.next old.sessions.readers.next
      → new.journal ≡ journal → epoch ≡ found.catalog.epoch → GoesTo a b (Ok (ReopenedAnswer epoch)) old new
  unfolding raised_running
  goes_to_raised old new journal found a b epoch settles is same epoch_is = (
    raised_running old new journal found a b epoch settles.0 is same epoch_is,
    subst (λ (j : Journal D d). ComesToOne d n.digest_of old.journal.disk j.disk a b settles.0.office) (sym same) settles.1,
  )

  -- ---- how it goes

  pub goes_refused : (old new : StoreParts D N S d n) (a b : Durable) (refusal : OpenRefusal) → (halts refusal ≡ true → new.halted ≡ true)
      → Begins {n = n} a b (Err refusal) new.journal → Goes a b (Err (reply_of refusal)) old new
  goes_refused old new a b (O.Foreign file found) halted begins = begins
  goes_refused old new a b O.EpochsSpent halted begins = (refl, begins)
  goes_refused old new a b O.DiskFault halted begins = (halted refl, begins)
  goes_refused old new a b O.Memory halted begins = begins

plain_of : (refusal : OpenRefusal) → IsPlainReply (Err (reply_of refusal)) → IsPlain refusal
plain_of (O.Foreign file found) plain = absurd plain
plain_of O.EpochsSpent plain = tt
plain_of O.DiskFault plain = absurd plain
plain_of O.Memory plain = tt

calm_of : (refusal : OpenRefusal) → IsPlainReply (Err (reply_of refusal)) → halts refusal ≡ false
calm_of (O.Foreign file found) plain = absurd plain
calm_of O.EpochsSpent plain = refl
calm_of O.DiskFault plain = absurd plain
calm_of O.Memory plain = refl

stopping_of : (refusal : OpenRefusal) → IsStoppingReply (Err (reply_of refusal)) → halts refusal ≡ true
stopping_of (O.Foreign file found) stopping = refl
stopping_of O.EpochsSpent stopping = absurd stopping
stopping_of O.DiskFault stopping = refl
stopping_of O.Memory stopping = absurd stopping

abbrev refused : Refusal → Reply
refused refusal = Err refusal

abbrev answered : Answer → Reply
answered answer = Ok answer

fault_to : (refusal : OpenRefusal) → refusal ≡ O.DiskFault → refused (reply_of refusal) ≡ Err DiskFault
fault_to refusal e = ap (λ (r : OpenRefusal). refused (reply_of r)) e

fault_back : (refusal : OpenRefusal) → refused (reply_of refusal) ≡ Err DiskFault → refusal ≡ O.DiskFault
fault_back (O.Foreign file found) e = absurd cc
fault_back O.EpochsSpent e = absurd cc
fault_back O.DiskFault e = refl
fault_back O.Memory e = absurd cc

other_than_halted : (refusal : OpenRefusal) → refused (reply_of refusal) ≡ Err HaltedReply → ⊥
other_than_halted (O.Foreign file found) e = cc
other_than_halted O.EpochsSpent e = cc
other_than_halted O.DiskFault e = cc
other_than_halted O.Memory e = cc

spent_as : (files : Option Files) (refusal : OpenRefusal) (rule : BrokenRule) → SaysSpent files refusal
    → refused (reply_of refusal) ≡ Err (Broken rule) → (rule ≡ NumbersSpent) × ((all : Files) → files ≡ Some all → IsLast all)
spent_as files (O.Foreign file found) rule spent e = absurd cc
spent_as files O.EpochsSpent rule spent e = (cc, spent refl)
spent_as files O.DiskFault rule spent e = absurd cc
spent_as files O.Memory rule spent e = absurd cc

damaged_of : (refusal : OpenRefusal) (file : FileId) (found : Option (List ℕ)) → refused (reply_of refusal) ≡ Err (Damaged file found)
    → refusal ≡ O.Foreign file found
damaged_of (O.Foreign file found) other bytes e = cc
damaged_of O.EpochsSpent other bytes e = absurd cc
damaged_of O.DiskFault other bytes e = absurd cc
damaged_of O.Memory other bytes e = absurd cc

counted_as : (before now : ℕ) (P Q : Type 0) → (P → Q) → (Q → P) → Counted before now P → Counted before now Q
counted_as before now P Q to back counted =
    record { later = counted.later; rose = λ q. counted.rose (back q); stays = λ none. counted.stays (λ p. none (to p)) }

either_halts : (was now : Bool) → now ≡ true → (was || now) ≡ true
either_halts true now e = refl
either_halts false now e = e

neither_halts : (was now : Bool) → now ≡ false → (was || now) ≡ was
neither_halts true now e = refl
neither_halts false now e = e

module _ {D N S : Type 0} {d : DiskGhosts D} {n : NamerGhosts N S} where
  -- ---- what a reopening promises

  pub reopens_raised : (old new : StoreParts D N S d n) (journal : Journal D d) (found : Found N S n) (epoch : ℕ)
      → ((a b : Durable) → MayBe n.digest_of old.journal a b → Begins a b (Ok found) journal)
      → ((a b : Durable) → MayBe n.digest_of old.journal a b → FindsOnly old.journal journal (MayLeave n.digest_of a b))
      → Counted (d.fault_count old.journal.disk) (d.fault_count journal.disk) (IsErrOf (Ok found) O.DiskFault)
      → ((a b : Durable) → MayBe n.digest_of old.journal a b → Settles a b (Ok found) old.journal.disk journal)
      → ((a b : Durable) → MayBe n.digest_of old.journal a b
      → FindsNow journal (HasTablesFound (d.files old.journal.disk) (uncertain old.journal)))
      → IsAllOf (told journal) found → HasBucketsOf (told journal) found → AreThePoolFiles (d.files old.journal.disk) (slots_of found.pool.names)
      → journal.halted ≡ false → IsOfFound new found old.sessions.stages.next old.sessions.readers.next → new.journal ≡ journal → epoch ≡ found.catalog.epoch
      → Reopens old (Ok (ReopenedAnswer epoch)) new
  reopens_raised old new journal found epoch begins crash counted settles tables whole buckets listed ready is same epoch_is = record {
    goes = λ a b may. raised_running old new journal found a b epoch (begins a b may) is same epoch_is;
    crash = λ a b may. subst (λ (j : Journal D d). FindsOnly old.journal j (MayLeave n.digest_of a b)) (sym same) (crash a b may);
    settles = λ a b may. goes_to_raised old new journal found a b epoch (settles a b may) is same epoch_is;
    tables = λ a b may.
        subst (λ (j : Journal D d). FindsNow j (HasTablesFound (d.files old.journal.disk) (uncertain old.journal))) (sym same)
        (tables a b may);
    stays = λ refusal e. absurd cc;
    halted_same = λ plain. absurd plain;
    quiet = λ plain. absurd plain;
    ready = at_work new journal found old.sessions.stages.next old.sessions.readers.next ready is same;
    awake = λ e. absurd cc;
    works = λ plain. absurd plain;
    stops = λ stopping. absurd stopping;
    damaged = λ file found e. absurd cc;
    whole = whole_parts new found is journal same whole;
    buckets = buckets_parts new found is journal same buckets;
    listed = listed_parts new found is (d.files old.journal.disk) listed;
    spent = λ rule e. absurd cc;
    in_kind = refl;
    counted = subst (λ (j : Journal D d). Counted (d.fault_count old.journal.disk) (d.fault_count j.disk) (answered
        (ReopenedAnswer epoch) ≡ Err DiskFault)) (sym same)
        (counted_as _ _ (IsErrOf (Ok found) O.DiskFault) (answered (ReopenedAnswer epoch) ≡ Err DiskFault) (λ p. absurd cc)
        (λ q. absurd cc) counted);
  }

  pub reopens_refused : (old new : StoreParts D N S d n) (refusal : OpenRefusal) (reply : Refusal) → reply ≡ reply_of refusal
      → new ≡ with_journal old new.journal new.halted → new.halted ≡ (old.halted || halts refusal)
      → ((a b : Durable) → MayBe n.digest_of old.journal a b → Begins {n = n} a b (Err refusal) new.journal)
      → ((a b : Durable) → MayBe n.digest_of old.journal a b → FindsOnly old.journal new.journal (MayLeave n.digest_of a b))
      → (IsPlain refusal → old.journal.halted ≡ false → is_some (told old.journal) ≡ true → Quiet old.journal new.journal)
      → (IsPlain refusal → old.journal.halted ≡ false → new.journal.halted ≡ false)
      → Counted (d.fault_count old.journal.disk) (d.fault_count new.journal.disk) (IsErrOf {T = Found N S n} (Err refusal) O.DiskFault)
      → SaysWhy (d.files old.journal.disk) (d.files new.journal.disk) refusal → SaysSpent (told new.journal) refusal
      → ((a b : Durable) → MayBe n.digest_of old.journal a b → Settles {n = n} a b (Err refusal) old.journal.disk new.journal)
      → ((a b : Durable) → MayBe n.digest_of old.journal a b
      → FindsNow new.journal (HasTablesFound (d.files old.journal.disk) (uncertain old.journal)))
      → Reopens old (Err reply) new
  reopens_refused old new refusal reply reply_is stays halted begins crash quiet ready counted says spent settles tables =
      subst (λ (r : Refusal). Reopens old (Err r) new) (sym reply_is) (record {
        goes = λ a b may. goes_refused old new a b refusal (λ e. halted ∙ either_halts old.halted (halts refusal) e) (begins a b may);
        crash = crash;
        settles = settles;
        tables = tables;
        stays = λ r e. stays;
        halted_same = λ plain. halted ∙ neither_halts old.halted (halts refusal) (calm_of refusal plain);
        quiet = λ plain. quiet (plain_of refusal plain);
        ready = tt;
        awake = λ e. other_than_halted refusal e;
        works = λ plain. record {
          parts = λ e. halted ∙ neither_halts old.halted (halts refusal) (calm_of refusal plain) ∙ e;
          journal = ready (plain_of refusal plain);
        };
        stops = λ stopping. halted ∙ either_halts old.halted (halts refusal) (stopping_of refusal stopping);
        damaged = λ file found e. says file found (damaged_of refusal file found e);
        whole = tt;
        buckets = tt;
        listed = tt;
        spent = λ rule e. spent_as (told new.journal) refusal rule spent e;
        in_kind = tt;
        counted = counted_as _ _ (IsErrOf {T = Found N S n} (Err refusal) O.DiskFault) (refused (reply_of refusal) ≡ Err DiskFault)
            (λ p. fault_to refusal cc) (λ q. ap (λ (r : OpenRefusal). Err r) (fault_back refusal q)) counted;
      })

-- ---- the step of the model

room_is : (epoch : ℕ) → epoch < last_sequence → nat_le last_sequence epoch ≡ false
room_is epoch room = grind (arith, nat_tests)

last_is : (epoch : ℕ) → last_sequence ≤ epoch → nat_le last_sequence epoch ≡ true
last_is epoch last = grind (arith, nat_tests)

carried_at : (office : Durable) → office.epoch < last_sequence
    → carried office ≡ Ok (record { answer = ReopenedAnswer (office.epoch + 1); after = reopened office })
carried_at office room = rw (room_is office.epoch room) refl

spent_at : (office : Durable) → last_sequence ≤ office.epoch → carried office ≡ Err NumbersSpent
spent_at office last = rw (last_is office.epoch last) refl

-- the same names, but for those of hosts
abbrev of_hosts : List ℕ → Names → Names
of_hosts hosts names = record names { old_hosts = hosts }

-- names of the same digest, the same numbers and the same old hosts
only_used : (names names' : Names) → names'.digest_of ≡ names.digest_of → names'.next_stage ≡ names.next_stage
    → names'.next_reader ≡ names.next_reader → OnlyUsed names (of_hosts names.old_hosts names')
only_used names names' same stage reader =
    λ i. record { digest_of = same i; used = names'.used; next_stage = stage i; next_reader = reader i; old_hosts = names.old_hosts }

one_of : (x office : Durable) → IsPicked x x office → office ≡ x
one_of x office (inl e) = e
one_of x office (inr e) = e

module _ {D N S : Type 0} {d : DiskGhosts D} {n : NamerGhosts N S} where
  -- files were read, or made durable
  reads_of : (old new : StoreParts D N S d n) → new ≡ with_journal old new.journal new.halted → new.halted ≡ old.halted
      → Quiet old.journal new.journal → Reads old new
  reads_of old new stays halted quiet = record {
    quiet = quiet;
    pool_same = ap (λ (p : StoreParts D N S d n). p.pool) stays;
    catalog_same = ap (λ (p : StoreParts D N S d n). p.catalog) stays;
    counts_same = ap (λ (p : StoreParts D N S d n). p.counts) stays;
    partials_same = ap (λ (p : StoreParts D N S d n). p.partials) stays;
    sessions_same = ap (λ (p : StoreParts D N S d n). p.sessions) stays;
    halted_same = halted;
    view = λ office names at.
        subst (λ (p : StoreParts D N S d n). IsKeptView p.views.kept office.hosts at.shown) (sym stays) at.view;
  }

  may_of : (parts : StoreParts D N S d n) (state : State) → InState parts state
      → MayBe n.digest_of parts.journal (first_of state) (second_of state)
  may_of parts (Running office names) at = stored_may parts.journal parts.pool parts.catalog office.durable names at.stored
      office.durable
  may_of parts (Halted a b names) at = at.may_be

  -- no host but its old ones has a table of the first layout, and none gets one
  second_in : (parts : StoreParts D N S d n) (state : State) → InState parts state
      → FindsNow parts.journal (AreSecondBut (names_of state).old_hosts)
  second_in parts (Running office names) at =
      FindsNow-each (IsAlikeBut at.all (uncertain parts.journal)) (AreSecondBut names.old_hosts) parts.journal
      (λ found alike. second_alike names.old_hosts at.all found (λ host number. alike.metadata (F.Table host number) refl) at.second)
      (working_finds parts.journal at.all at.journal_ready at.told_is)
  second_in parts (Halted a b names) at = at.second

  second_after : (old new : StoreParts D N S d n) (reply : Reply) (state : State) → Reopens old reply new → InState old state
      → FindsNow new.journal (AreSecondBut (names_of state).old_hosts)
  second_after old new reply state reopens at =
      second_found (names_of state).old_hosts (d.files old.journal.disk) (uncertain old.journal) (d.files new.journal.disk)
      (uncertain new.journal) (second_in old state at)
      (reopens.tables (first_of state) (second_of state) (may_of old state at))

  -- parts at work, of which these are the old hosts
  running_of : (parts : StoreParts D N S d n) (office : Office) (names : Names) (hosts : List ℕ) (at : IsRunning parts office names)
      → FindsNow parts.journal (AreSecondBut hosts) → IsRunning parts office (of_hosts hosts names)
  running_of parts office names hosts at second =
      running_renamed parts office names hosts at
      (λ all told_is. second_told parts.journal all at.journal_ready told_is hosts second)

  -- refused without a fault of the disk, the parts are in the state that they were in
  still_in : (old new : StoreParts D N S d n) (state : State) → InState old state → new ≡ with_journal old new.journal new.halted
      → new.halted ≡ old.halted → (old.journal.halted ≡ false → is_some (told old.journal) ≡ true → Quiet old.journal new.journal)
      → MayBe n.digest_of new.journal (first_of state) (second_of state)
      → FindsNow new.journal (AreSecondBut (names_of state).old_hosts) → InState new state
  still_in old new (Running office names) at stays halted quiet may second =
      running_reads old new office names at (reads_of old new stays halted (quiet at.journal_ready (ap is_some at.told_is)))
  still_in old new (Halted a b names) at stays halted quiet may second = record {
    stuck = halted ∙ at.stuck;
    may_be = may;
    used = subst (λ (p : StoreParts D N S d n). AreUsed (slots p) names.used) (sym stays) at.used;
    digest = at.digest;
    second = second;
    numbers = subst (λ (p : StoreParts D N S d n). AreNumbers names.next_stage names.next_reader p.sessions) (sym stays) at.numbers;
  }

  -- a fault of the disk: the parts are halted
  halted_in : (old new : StoreParts D N S d n) (state : State) (names : Names) (a b : Durable) → InState old state
      → AreUsed (slots old) names.used → names.digest_of ≡ n.digest_of → AreNumbers names.next_stage names.next_reader old.sessions
      → new ≡ with_journal old new.journal new.halted → new.halted ≡ true → MayBe n.digest_of new.journal a b
      → FindsNow new.journal (AreSecondBut names.old_hosts) → IsHalted new a b names
  halted_in old new state names a b at used digest numbers stays stuck may second = record {
    stuck = stuck;
    may_be = may;
    used = subst (λ (p : StoreParts D N S d n). AreUsed (slots p) names.used) (sym stays) used;
    digest = digest;
    second = second;
    numbers = subst (λ (p : StoreParts D N S d n). AreNumbers names.next_stage names.next_reader p.sessions) (sym stays) numbers;
  }

  -- of a store at work
  steps_running : (old new : StoreParts D N S d n) (reply : Reply) (office : Office) (names : Names) → Reopens old reply new
      → IsRunning old office names → Goes office.durable office.durable reply old new → Steps (Running office names) Reopen reply new
  steps_running old new (Ok answer) office names reopens at r =
      let one = one_of office.durable r.office r.is_one in
      let room : office.epoch < last_sequence = subst (λ (o : Durable). o.epoch < last_sequence) one r.room in
      record {
        next = Running (reopened r.office) (of_hosts names.old_hosts r.names);
        step = (
          carried_at office.durable room ∙ (λ i. Ok (record { answer = answer_at i; after = reopened (one_back i) })),
          (
            only_used names r.names (r.running.digest ∙ sym at.digest)
                (sym r.numbers.stage ∙ at.sessions.numbers.stage) (sym r.numbers.reader ∙ at.sessions.numbers.reader),
            r.running.used.distinct,
          ),
        );
        undamaged = tt;
        in_state = running_of new (reopened r.office) r.names names.old_hosts r.running
            (second_after old new (Ok answer) (Running office names) reopens at);
      }
    where
      one_back : office.durable ≡ r.office
      one_back = sym (one_of office.durable r.office r.is_one)

      answer_at : ReopenedAnswer (office.epoch + 1) ≡ answer
      answer_at = ap (λ (o : Durable). ReopenedAnswer (o.epoch + 1)) one_back ∙ sym r.answer_is
  steps_running old new (Err (Broken rule)) office names reopens at goes =
      let one = one_of office.durable goes.1.office goes.1.is_one in
      let last : last_sequence ≤ office.epoch = subst (λ (o : Durable). last_sequence ≤ o.epoch) one goes.1.last in
      record {
        next = Running office names;
        step = ((spent_at office.durable last ∙ ap (λ (r : BrokenRule). Err r) (sym goes.0), refl), refl);
        undamaged = tt;
        in_state = still_in old new (Running office names) at (reopens.stays (Broken rule) refl) (reopens.halted_same tt)
            (reopens.quiet tt) goes.1.now (second_after old new (Err (Broken rule)) (Running office names) reopens at);
      }
  steps_running old new (Err HaltedReply) office names reopens at goes = absurd goes
  steps_running old new (Err (Damaged file found)) office names reopens at goes = absurd goes
  steps_running old new (Err Memory) office names reopens at goes = record {
    next = Running office names;
    step = (refl, refl);
    undamaged = tt;
    in_state = still_in old new (Running office names) at (reopens.stays Memory refl) (reopens.halted_same tt) (reopens.quiet tt) goes
        (second_after old new (Err Memory) (Running office names) reopens at);
  }
  steps_running old new (Err DiskFault) office names reopens at goes = elim goes.1 [
    | inl may ↦ record {
      next = Halted office.durable office.durable names;
      step = ((refl, inl refl), refl);
      undamaged = tt;
      in_state = halted_in old new (Running office names) names office.durable office.durable at at.used at.digest at.sessions.numbers
          (reopens.stays DiskFault refl) goes.0 may (second_after old new (Err DiskFault) (Running office names) reopens at);
    }
    | inr w ↦ record {
      next = Halted w.0 (raised w.0) names;
      step = ((one_of office.durable w.0 w.1, inr (ap raised (one_of office.durable w.0 w.1))), refl);
      undamaged = tt;
      in_state = halted_in old new (Running office names) names w.0 (raised w.0) at at.used at.digest at.sessions.numbers
          (reopens.stays DiskFault refl) goes.0 w.2 (second_after old new (Err DiskFault) (Running office names) reopens at);
    }
  ]

  -- of a halted store
  steps_halted : (old new : StoreParts D N S d n) (reply : Reply) (a b : Durable) (names : Names) → Reopens old reply new
      → IsHalted old a b names → Goes a b reply old new → Steps (Halted a b names) Reopen reply new
  steps_halted old new (Ok answer) a b names reopens at r = record {
    next = Running (reopened r.office) (of_hosts names.old_hosts r.names);
    step = (
      (r.office, r.is_one, carried_at r.office r.room ∙ (λ i. Ok (record { answer = sym r.answer_is i; after = reopened r.office }))),
      (
        only_used names r.names (r.running.digest ∙ sym at.digest)
            (sym r.numbers.stage ∙ at.numbers.stage) (sym r.numbers.reader ∙ at.numbers.reader),
        r.running.used.distinct,
      ),
    );
    undamaged = tt;
    in_state = running_of new (reopened r.office) r.names names.old_hosts r.running
        (second_after old new (Ok answer) (Halted a b names) reopens at);
  }
  steps_halted old new (Err (Broken rule)) a b names reopens at goes = record {
    next = Halted a b names;
    step = (
      ((goes.1.office, goes.1.is_one, spent_at goes.1.office goes.1.last ∙ ap (λ (r : BrokenRule). Err r) (sym goes.0)), refl, refl),
      refl,
    );
    undamaged = tt;
    in_state = still_in old new (Halted a b names) at (reopens.stays (Broken rule) refl) (reopens.halted_same tt)
        (reopens.quiet tt) goes.1.now (second_after old new (Err (Broken rule)) (Halted a b names) reopens at);
  }
  steps_halted old new (Err HaltedReply) a b names reopens at goes = absurd goes
  steps_halted old new (Err (Damaged file found)) a b names reopens at goes = absurd goes
  steps_halted old new (Err Memory) a b names reopens at goes = record {
    next = Halted a b names;
    step = ((refl, refl), refl);
    undamaged = tt;
    in_state = still_in old new (Halted a b names) at (reopens.stays Memory refl) (reopens.halted_same tt) (reopens.quiet tt) goes
        (second_after old new (Err Memory) (Halted a b names) reopens at);
  }
  steps_halted old new (Err DiskFault) a b names reopens at goes = elim goes.1 [
    | inl may ↦ record {
      next = Halted a b names;
      step = (inl (refl, refl), refl);
      undamaged = tt;
      in_state = halted_in old new (Halted a b names) names a b at at.used at.digest at.numbers (reopens.stays DiskFault refl) goes.0 may
          (second_after old new (Err DiskFault) (Halted a b names) reopens at);
    }
    | inr w ↦ record {
      next = Halted w.0 (raised w.0) names;
      step = (inr (w.1, refl), refl);
      undamaged = tt;
      in_state = halted_in old new (Halted a b names) names w.0 (raised w.0) at at.used at.digest at.numbers
          (reopens.stays DiskFault refl) goes.0 w.2 (second_after old new (Err DiskFault) (Halted a b names) reopens at);
    }
  ]

  pub reopen_steps : (old new : StoreParts D N S d n) (reply : Reply) → Reopens old reply new → (state : State) → InState old state
      → Steps state Reopen reply new
  reopen_steps old new reply reopens (Running office names) at =
      steps_running old new reply office names reopens at
      (reopens.goes office.durable office.durable (may_of old (Running office names) at))
  reopen_steps old new reply reopens (Halted a b names) at = steps_halted old new reply a b names reopens at (reopens.goes a b at.may_be)

  pub reopen_crash : (old new : StoreParts D N S d n) (reply : Reply) → Reopens old reply new → (state : State) → InState old state
      → FindsOnly old.journal new.journal (MayLeave n.digest_of (first_of state) (second_of state))
  reopen_crash old new reply reopens state at = reopens.crash (first_of state) (second_of state) (may_of old state at)
