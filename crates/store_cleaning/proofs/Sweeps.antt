-- What a sweep leaves.
--     IsSweptTo old new names stages all      the pool and the files have changed, and some of the names in use are left
--     all_swept      without doomed names there is a name for each content that is held, and no other
--     runs_swept, runs_unswept      the answers
use Rattle.std.specs.Prelude.{◌≡◌, ◌⊎◌, ℕ, zero, suc, Bool, true, false, List, [], ◌∷◌, map, Option, Some, None, Ok, Err, is_some, option_map, slice_get, if◌then◌else◌}
use Rattle.std.specs.List.{filter}
use Rattle.std.proofs.Common.{refl, sym, ap, ◌∙◌, subst, inl, inr}
use Rattle.std.proofs.lemmas.Bool.{false≢true}
use Rattle.std.proofs.lemmas.Option.{slice_get-map}
use Rattle.fault_counts.specs.Counts.{Counted}
use Rattle.disk_trait.specs.declared.ids.PoolId.{PoolId}
use Rattle.disk_trait.specs.declared.ids.FileId.{FileId}
use Rattle.disk_trait.specs.declared.ids.FileId.TheVariants as F
use Rattle.disk_trait.specs.declared.disk.Disk.{Ghosts as DiskGhosts}
use Rattle.disk_trait.specs.Names.{is_metadata, is_same_file}
use Rattle.disk_trait.specs.NamesLaws.{is_same_file-itself}
use Rattle.disk_trait.specs.Files.{Files}
use Rattle.disk_trait.specs.Images.{LeavesOnly}
use Rattle.pool_name.specs.declared.namer.Namer.{Ghosts as NamerGhosts}
use Rattle.intent_journal.specs.Overlay.{ComesTo}
use Rattle.journal_view.specs.Found.{seen, is_seen}
use Rattle.journal_view.specs.FoundLaws.{told_raw, seen_there}
use Rattle.journal_view.specs.View.{told, uncertain, FindsOnly}
use Rattle.journal_view.specs.ViewLaws.{FindsOnly-each}
use Rattle.pool_changes.specs.declared.slot.Slot.{Slot}
use Rattle.pool_changes.specs.declared.slot.Slot.TheVariants.{Live, Staged, Doomed}
use Rattle.pool_changes.specs.Slots.{Slots, is_given, claims_of, unlisted, one_id}
use Rattle.pool_changes.specs.Listed.{item_of}
use Rattle.pool_changes.specs.Named.{NoneDoomed}
use Rattle.pool_store.specs.Pools.{IsCertain}
use Rattle.pool_store.specs.FitsLaws.{fits_less, less_swept}
use Rattle.pool_store.specs.Sweeps.{IsPruned, IsKept, Sweeps}
use Rattle.office_pool.specs.FitLaws.{given_one, given_digest}
use Rattle.open_sessions.specs.Opened.{claims_in}
use Rattle.open_sessions.specs.declared.sessions.Sessions.{Sessions}
use Rattle.office_model.specs.declared.answer.Answer.TheVariants.{Done}
use Rattle.office_model.specs.declared.event.Event.TheVariants.{Sweep}
use Rattle.office_model.specs.declared.refusal.Refusal.TheVariants.{DiskFault}
use Rattle.office_model.specs.Office.{Office, Names, Stage, is_held}
use Rattle.office_model.specs.Step.{Running, meaning_of}
use Rattle.office_model.specs.UsedNames.{Among, AreSome, AreSwept}
use Rattle.office_files.specs.Pooled.{contents_of}
use Rattle.office_files.specs.Stands.{StandsFor}
use Rattle.store_parts.specs.declared.parts.StoreParts.{StoreParts}
use Rattle.store_parts.specs.Held.{AreUsed, given}
use Rattle.store_parts.specs.States.{slots, IsRunning}
use Rattle.store_parts.specs.Runs.{MayRecover, Runs}
use Rattle.store_parts.specs.StepLaws.{recover_before}
use Rattle.store_parts.specs.RunLaws.{counted_fine, counted_failed, works_same}
use Rattle.store_parts.specs.ListLaws.{mapped, kept_were, kept_stay, kept_distinct}
use Rattle.store_parts.specs.StagingLaws.{HasStaged, with_used, working_staged, crash_staged}
use Rattle.store_parts.specs.HoldingLaws.{given_held, held_given}

-- ---- names

is_used : Slots → PoolId → Bool
is_used slots id = is_some (slots id)

module _ (old new : Slots) (pruned : IsPruned old new) where
  given_same : (id : PoolId) → is_given (old id) ≡ true → new id ≡ old id
  given_same id given = step (pruned id)
    where
      step : (new id ≡ old id) ⊎ ((old id ≡ Some Doomed) × (new id ≡ None)) → new id ≡ old id
      step (inl same) = same
      step (inr freed) = absurd (false≢true (sym (ap is_given freed.0) ∙ given))

  -- what a doomed name and a free one have alike
  alike : {A : Type 0} (f : Option Slot → A) → f (Some Doomed) ≡ f None → (id : PoolId) → f (new id) ≡ f (old id)
  alike {A} f same_f id = step (pruned id)
    where
      step : (new id ≡ old id) ⊎ ((old id ≡ Some Doomed) × (new id ≡ None)) → f (new id) ≡ f (old id)
      step (inl same) = ap f same
      step (inr freed) = ap f freed.1 ∙ sym same_f ∙ sym (ap f freed.0)

  was_used : (id : PoolId) → is_some (new id) ≡ true → is_some (old id) ≡ true
  was_used id used = step (pruned id)
    where
      step : (new id ≡ old id) ⊎ ((old id ≡ Some Doomed) × (new id ≡ None)) → is_some (old id) ≡ true
      step (inl same) = sym (ap is_some same) ∙ used
      step (inr freed) = ap is_some freed.0

  -- the names in use that are left
  left_used : (used : List PoolId) → AreUsed old used → AreUsed new (filter (is_used new) used)
  unfolding is_used
  left_used used are = record {
    distinct = kept_distinct (is_used new) used are.distinct;
    slot = λ id among. (kept_were (is_used new) used id among).1;
    among = λ id e. kept_stay (is_used new) used id (are.among id (was_used id e)) e;
    near = λ id e. are.near id (was_used id e);
  }

  some_left : (used : List PoolId) → AreUsed old used → AreSome used (filter (is_used new) used)
  some_left used are = record {
    were = λ id among. (kept_were (is_used new) used id among).0;
    distinct = kept_distinct (is_used new) used are.distinct;
  }

-- ---- files

sweeps_seen : (old new : Slots) (raw : Files) (raw' : Option Files) → Sweeps old new raw' raw
    → Sweeps old new (option_map seen raw') (seen raw)
sweeps_seen old new raw raw' sweeps = record {
  now = seen sweeps.now;
  is = ap (option_map seen) sweeps.is;
  same = λ file kept. ap (λ (bytes : Option (List ℕ)). if is_seen file then bytes else None) (sweeps.same file kept);
  gone = λ id doomed free. seen_there sweeps.now (F.Pool id) refl ∙ sweeps.gone id doomed free;
}

metadata_kept : (old : Slots) (asked : FileId) → is_metadata asked ≡ true → IsKept old asked
metadata_kept old asked kind id is doomed = false≢true (sym (ap is_metadata is) ∙ kind)

one_file : (a b : PoolId) → F.Pool a ≡ F.Pool b → a ≡ b
one_file a b same = one_id a b (subst (λ (f : FileId). is_same_file (F.Pool a) f ≡ true) same (is_same_file-itself (F.Pool a)))

slot_kept : (old : Slots) (id : PoolId) → (old id ≡ Some Doomed → ⊥) → IsKept old (F.Pool id)
slot_kept old id not other is doomed = not (ap old (one_file id other is) ∙ doomed)

given_kept : (old : Slots) (id : PoolId) → is_given (old id) ≡ true → IsKept old (F.Pool id)
given_kept old id given = slot_kept old id (λ doomed. false≢true (sym (ap is_given doomed) ∙ given))

module _ {D N S : Type 0} {d : DiskGhosts D} {n : NamerGhosts N S} where
  pub record IsSweptTo (old new : StoreParts D N S d n) (names : Names) (stages : List Stage) (all : Files) : Type 0 where
    pub has : HasStaged old new names stages all
    pub some : AreSome names.used has.used'

  module _ (old new : StoreParts D N S d n) (office : Office) (names : Names) (at : IsRunning old office names)
      (certain : IsCertain (slots old) (uncertain new.journal)) (pruned : IsPruned (slots old) (slots new)) where
    swept_seen : Sweeps (slots old) (slots new) (told new.journal) at.all → IsSweptTo old new names office.stages at.all
    swept_seen sweeps = record {
      has = record {
        used' = filter (is_used (slots new)) names.used;
        all' = sweeps.now;
        told_is = sweeps.is;
        grows = record {
          given = λ id g. ap is_given (given_same (slots old) (slots new) pruned id g) ∙ g;
          file = λ id g. sweeps.same (F.Pool id) (given_kept (slots old) id g);
          metadata = λ asked kind. sweeps.same asked (metadata_kept (slots old) asked kind);
          live = λ id. alike (slots old) (slots new) pruned (item_of id) refl id;
          stage = λ i stage there. sweeps.same (F.Stage stage.number) (λ id e. absurd cc);
        };
        fits = fits_less n.digest_of (slots old) (slots new) (uncertain old.journal) (uncertain new.journal) at.all sweeps.now
            (less_swept (slots old) (slots new) (told new.journal) at.all sweeps pruned) certain at.fits;
        all_used = λ id there. still id there (slots old id) refl (pruned id);
        used = left_used (slots old) (slots new) pruned names.used at.used;
      };
      some = some_left (slots old) (slots new) pruned names.used at.used;
    }
      where
        still : (id : PoolId) → is_some (sweeps.now (F.Pool id)) ≡ true → (slot : Option Slot) → slots old id ≡ slot
            → (slots new id ≡ slots old id) ⊎ ((slots old id ≡ Some Doomed) × (slots new id ≡ None)) → is_some (slots new id) ≡ true
        still id there slot e (inr freed) = absurd (false≢true (sym (ap is_some (sweeps.gone id freed.0 freed.1)) ∙ there))
        still id there (Some slot) e (inl same) = ap is_some same ∙ ap is_some e
        still id there None e (inl same) =
            let kept = slot_kept (slots old) id (λ doomed. false≢true (sym (ap is_some e) ∙ ap is_some doomed)) in
            ap is_some same ∙ at.all_used id (ap is_some (sym (sweeps.same (F.Pool id) kept)) ∙ there)

    pub swept_to : ((all : Files) → d.files old.journal.disk ≡ Some all
        → Sweeps (slots old) (slots new) (d.files new.journal.disk) all) → IsSweptTo old new names office.stages at.all
    swept_to sweeps =
        let raw = told_raw (d.files old.journal.disk) at.all at.told_is in
        swept_seen (subst (λ (f : Files). Sweeps (slots old) (slots new) (told new.journal) f) raw.2
        (sweeps_seen (slots old) (slots new) raw.0 (d.files new.journal.disk) (sweeps raw.0 raw.1)))

-- ---- a name for each content

-- names of the same digest
same_digest : (office : Office) (names names' : Names) (used : List PoolId) → names'.digest_of ≡ names.digest_of
    → AreSwept office names' used → AreSwept office names used
same_digest office names names' used same swept = record {
  contents = swept.contents;
  once = swept.once;
  held = swept.held;
  all = swept.all;
  named = swept.named ∙ ap (λ f. map f swept.contents) same;
}

-- two maps of one list
map_same : {A B C : Type 0} (f : A → B) (g : C → B) (h : A → C) (xs : List A)
    → ((i : ℕ) (x : A) → slice_get xs i ≡ Some x → f x ≡ g (h x)) → map f xs ≡ map g (map h xs)
map_same f g h [] same = refl
map_same f g h (x ∷ xs) same = λ i. same zero x refl i ∷ map_same f g h xs (λ j y e. same (suc j) y e) i

module _ {D N S : Type 0} {d : DiskGhosts D} {n : NamerGhosts N S} where
  module _ (parts : StoreParts D N S d n) (office : Office) (names : Names) (at : IsRunning parts office names)
      (none : NoneDoomed (slots parts)) where
    content : PoolId → List ℕ
    content id = contents_of at.all id

    used_given : (id : PoolId) → Among names.used id → given (slots parts) id
    used_given id among = step (slots parts id) refl (at.used.slot id among)
      where
        step : (slot : Option Slot) → slots parts id ≡ slot → is_some slot ≡ true → given (slots parts) id
        step None e used = absurd (false≢true used)
        step (Some (Live size mark claims)) e used = ap is_given e
        step (Some (Staged size claims)) e used = ap is_given e
        step (Some Doomed) e used = absurd (none id e)

    given_used : (slot : Option Slot) → is_given slot ≡ true → is_some slot ≡ true
    given_used None g = g
    given_used (Some slot) g = refl

    pub all_swept : AreSwept office names names.used
    unfolding content
    all_swept = record {
      contents = map content names.used;
      once = λ i j a b e f same.
          let v = mapped content names.used i a e in
          let w = mapped content names.used j b f in
          at.used.distinct i j v.0 w.0 v.1 w.1
          ((given_one n.digest_of (slots parts) (uncertain parts.journal) at.all at.fits).one v.0 w.0 (used_given v.0 (i, v.1))
          (used_given w.0 (j, w.1)) (v.2 ∙ same ∙ sym w.2));
      held = λ i c e.
          let w = mapped content names.used i c e in
          subst (λ (c : List ℕ). is_held office.pool office.dumps c ≡ true) w.2
          (given_held parts office names at w.0 (used_given w.0 (i, w.1)));
      all = λ c held.
          let w = held_given parts office names at c held in
          let among = at.used.among w.id (given_used (slots parts w.id) w.is_given) in (
            among.0,
            slice_get-map content names.used among.0 ∙ ap (option_map content) among.1 ∙ ap Some w.is,
          );
      named = map_same (λ (id : PoolId). id.digest) names.digest_of content names.used (λ i id e.
          given_digest n.digest_of (slots parts) (uncertain parts.journal) at.all at.fits id (used_given id (i, e))
          ∙ ap (λ f. f (content id)) (sym at.digest));
    }

  -- ---- the answers

  module _ (old new : StoreParts D N S d n) (catalog : new.catalog ≡ old.catalog) (counts : new.counts ≡ old.counts)
      (partials : new.partials ≡ old.partials) (sessions : new.sessions ≡ old.sessions)
      (views : new.views ≡ old.views) (halted : new.halted ≡ old.halted) (form : new.pool.in_one_file ≡ old.pool.in_one_file)
      (stays : new.journal.halted ≡ old.journal.halted) (pruned : IsPruned (slots old) (slots new))
      (sweeps : (all : Files) → d.files old.journal.disk ≡ Some all → Sweeps (slots old) (slots new) (d.files new.journal.disk) all)
      (certain : IsCertain (slots old) (uncertain old.journal) → IsCertain (slots old) (uncertain new.journal))
      (crash : (all : Files) → d.files old.journal.disk ≡ Some all → IsCertain (slots old) (d.uncertain old.journal.disk)
      → LeavesOnly d.moment d.left_since old.journal.disk new.journal.disk (ComesTo all (unlisted (slots old)))) where
    module _ (office : Office) (names : Names) (at : IsRunning old office names) where
      abbrev swept : IsSweptTo old new names office.stages at.all
      swept = swept_to old new office names at (certain at.fits.certain) pruned sweeps

      abbrev names' : Names
      names' = with_used names swept.has.used'

      running : IsRunning new office names'
      running = record {
        working = working_staged old new office names at catalog counts partials sessions views halted form stays swept.has;
        claimed = λ id. alike (slots old) (slots new) pruned claims_of refl id ∙ at.claimed id
            ∙ ap (λ (s : Sessions S). claims_in s id) (sym sessions);
      }

      crash_swept : FindsOnly old.journal new.journal (MayRecover n.digest_of false names office ((meaning_of Sweep).carried office names))
      crash_swept =
          FindsOnly-each (λ found. StandsFor n.digest_of found office.durable)
          (MayRecover n.digest_of false names office ((meaning_of Sweep).carried office names)) old.journal new.journal
          (λ found stands. recover_before n.digest_of false names office ((meaning_of Sweep).carried office names) found stands)
          (crash_staged old new office names at (λ all told c.
          let only = crash all told c in record { later = only.later; since = only.since }))

    pub runs_swept : {failed : Type 0} → NoneDoomed (slots new)
        → Counted (d.fault_count old.journal.disk) (d.fault_count new.journal.disk) failed → (failed → ⊥) → Runs old Sweep (Ok Done) new
    runs_swept none counted fine = record {
      steps = λ office names at. record {
        next = Running office (names' office names at);
        step = (
          refl,
          (
            refl,
            (swept office names at).some,
            same_digest office names (names' office names at) (names' office names at).used refl
                (all_swept new office (names' office names at) (running office names at) none),
          ),
        );
        undamaged = tt;
        in_state = running office names at;
      };
      crash = crash_swept;
      in_kind = refl;
      awake = λ e. absurd cc;
      halts = λ not. works_same old new halted stays;
      counted = counted_fine counted fine (λ e. absurd cc);
      untouched = λ none damage. absurd (damage tt);
    }

    pub runs_unswept : {failed : Type 0} → Counted (d.fault_count old.journal.disk) (d.fault_count new.journal.disk) failed → failed
        → Runs old Sweep (Err DiskFault) new
    runs_unswept counted is = record {
      steps = λ office names at. record {
        next = Running office (names' office names at);
        step = ((tt, tt, refl), (refl, (swept office names at).some));
        undamaged = tt;
        in_state = running office names at;
      };
      crash = crash_swept;
      in_kind = tt;
      awake = λ e. absurd cc;
      halts = λ not. absurd (not refl);
      counted = counted_failed counted is refl;
      untouched = λ none damage. absurd (damage tt);
    }
