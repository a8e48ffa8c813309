-- What becomes of the files of stages, and of the parts of a store, while those of stages that aren't open are taken away.
--     drops_none, drops_one, drops_then      no file, one file, and one run of calls behind another
--     dropped_one, dropped_more, dropped_end      the files that are told, as a loop goes on
--     only_open      behind all files that were listed no stage has a file but open ones
--     runs_behind_stages, runs_stages_left      a sweep behind that;  what it answers if that is refused
use Rattle.std.specs.Prelude.{◌≡◌, ◌⊎◌, ◌<◌, ◌+◌, ℕ, length, get_or, drop, Bool, true, false, not, ◌==◌, ◌||◌, if◌then◌else◌, List, [], ◌∷◌, slice_get, Option, Some, None, Result, Ok, Err, IsErrOf, OnOk, is_some, option_map}
use Rattle.std.proofs.Common.{refl, sym, ap, ◌∙◌, subst, inl, inr}
use Rattle.std.proofs.lemmas.Bool.{true≢false}
use Rattle.std.proofs.lemmas.List.{drop_more}
use borrow.Author.Tests.{eq-eqb}
use Rattle.fault_counts.specs.Counts.{Counted}
use Rattle.disk_trait.specs.declared.ids.FileId.{FileId}
use Rattle.disk_trait.specs.declared.ids.FileId.TheVariants as F
use Rattle.disk_trait.specs.declared.disk.Disk.{Ghosts as DiskGhosts}
use Rattle.disk_trait.specs.Names.{is_metadata, is_same_file}
use Rattle.disk_trait.specs.NamesLaws.{same_file}
use Rattle.disk_trait.specs.Files.{Files, lists, with_bytes, changed}
use Rattle.disk_trait.specs.Images.{also}
use Rattle.pool_name.specs.declared.namer.Namer.{Ghosts as NamerGhosts}
use Rattle.intent_journal.specs.declared.journal.Journal.{Journal}
use Rattle.intent_journal.specs.ChangesLaws.{either, with_bytes_there, with_bytes_other}
use Rattle.intent_journal.specs.OverlayLaws.{also_other}
use Rattle.journal_view.specs.Found.{ListsSeen, IsAlikeBut, seen}
use Rattle.journal_view.specs.FoundLaws.{told_raw}
use Rattle.journal_view.specs.View.{told, uncertain, FindsOnly, Quiet, Staged}
use Rattle.journal_view.specs.ViewLaws.{FindsOnly-still, FindsOnly-each, FindsOnly-then}
use Rattle.pool_changes.specs.Slots.{Slots}
use Rattle.pool_changes.specs.Listed.{index_of}
use Rattle.pool_store.specs.FitsLaws.{fits_less}
use Rattle.pool_store.specs.Sweeps.{Sweeps}
use Rattle.open_sessions.specs.declared.stages.OpenStage.{OpenStage}
use Rattle.open_sessions.specs.SessionLaws.{stage_index-sessions}
use Rattle.office_model.specs.declared.event.Event.TheVariants.{Sweep}
use Rattle.office_model.specs.declared.refusal.Refusal.{Refusal}
use Rattle.office_model.specs.declared.refusal.Refusal.TheVariants.{Halted, DiskFault, Memory}
use Rattle.office_model.specs.Meaning.{Carried, Judged, Reply}
use Rattle.office_model.specs.Office.{Office, Names, Stage}
use Rattle.office_model.specs.PlacesLaws.{position-some}
use Rattle.office_model.specs.Step.{Running, IsStep, meaning_of}
use Rattle.office_model.specs.History.{IsUndamaged}
use Rattle.office_model.specs.UsedNames.{AreSome}
use Rattle.store_parts.specs.declared.parts.StoreParts.{StoreParts}
use Rattle.store_parts.specs.States.{slots, staging_of, IsRunning}
use Rattle.store_parts.specs.Runs.{MayRecover, StaysAtWork, Runs}
use Rattle.store_parts.specs.RunLaws.{works_same, works_then}
use Rattle.store_parts.specs.StepLaws.{recover_before, step_memory}
use Rattle.store_parts.specs.StoredLaws.{alike_stands, listed_live}
use Rattle.store_parts.specs.StagingLaws.{HasStaged, working_staged}
use Rattle.store_cleaning.specs.StageFiles.{is_left, without, OnlyOpen, StagesStay, Drops}

-- ---- tests

neither : (a b : Bool) → a ≡ false → b ≡ false → (a || b) ≡ false
neither true b e f = absurd (true≢false e)
neither false b e f = f

not_first : (a b : Bool) → (a || b) ≡ false → a ≡ false
not_first true b e = absurd (true≢false e)
not_first false b e = refl

not_second : (a b : Bool) → (a || b) ≡ false → b ≡ false
not_second true b e = absurd (true≢false e)
not_second false b e = e

-- a file that the test doesn't pass is another than one that it does
apart : (test : FileId → Bool) (file asked : FileId) → test file ≡ true → test asked ≡ false → is_same_file asked file ≡ false
apart test file asked passes out = elim (either (is_same_file asked file)) [
  | inl same ↦ absurd (true≢false (sym passes ∙ ap test (sym (same_file asked file same)) ∙ out))
  | inr other ↦ other
]

module _ {S : Type 0} (opened : List (OpenStage S)) where
  metadata_stays : (asked : FileId) → is_metadata asked ≡ true → is_left opened asked ≡ false
  metadata_stays F.Head kind = refl
  metadata_stays F.Intent kind = refl
  metadata_stays F.Gate kind = refl
  metadata_stays (F.Host host) kind = refl
  metadata_stays (F.Table host number) kind = refl
  metadata_stays (F.Counts host) kind = refl
  metadata_stays F.PoolIndex kind = refl
  metadata_stays (F.PoolBucket byte) kind = refl
  metadata_stays (F.Partial host) kind = refl
  metadata_stays (F.Pool id) kind = refl
  metadata_stays (F.Stage number) kind = absurd (true≢false (sym kind))

-- ---- files

without_none : (test : FileId → Bool) (files : List FileId) (all : Files) (asked : FileId) → all asked ≡ None
    → without test files all asked ≡ None
without_none test [] all asked none = none
without_none test (file ∷ files) all asked none =
    without_none test files (if test file then with_bytes all file None else all) asked (step (test file))
  where
    step : (b : Bool) → (if b then with_bytes all file None else all) asked ≡ None
    step false = none
    step true = elim (either (is_same_file asked file)) [
      | inl same ↦ with_bytes_there all file None asked same
      | inr other ↦ with_bytes_other all file None asked other ∙ none
    ]

without_listed : (test : FileId → Bool) (files : List FileId) (all : Files) (asked : FileId) → test asked ≡ true → lists files asked ≡ true
    → without test files all asked ≡ None
without_listed test [] all asked passes there = absurd (true≢false (sym there))
without_listed test (file ∷ files) all asked passes there = elim (either (is_same_file asked file)) [
  | inl same ↦ without_none test files (if test file then with_bytes all file None else all) asked
      (subst (λ (b : Bool). (if b then with_bytes all file None else all) asked ≡ None)
      (sym (ap test (sym (same_file asked file same)) ∙ passes)) (with_bytes_there all file None asked same))
  | inr other ↦ without_listed test files (if test file then with_bytes all file None else all) asked passes (sym (rw other refl) ∙ there)
]

without_other : (test : FileId → Bool) (files : List FileId) (all : Files) (asked : FileId) → test asked ≡ false
    → without test files all asked ≡ all asked
without_other test [] all asked out = refl
without_other test (file ∷ files) all asked out =
    without_other test files (if test file then with_bytes all file None else all) asked out ∙ step (test file) refl
  where
    step : (b : Bool) → test file ≡ b → (if b then with_bytes all file None else all) asked ≡ all asked
    step false e = refl
    step true e = with_bytes_other all file None asked (apart test file asked e out)

-- what is told behind one file more
pub dropped_one : (test : FileId → Bool) (file : FileId) (files : Option Files) → test file ≡ true
    → changed files file None ≡ option_map (without test (file ∷ [])) files
dropped_one test file None passes = refl
dropped_one test file (Some all) passes = rw passes refl

pub dropped_not : (test : FileId → Bool) (file : FileId) (files : Option Files) → test file ≡ false
    → files ≡ option_map (without test (file ∷ [])) files
dropped_not test file None out = refl
dropped_not test file (Some all) out = rw out refl

pub dropped_next : (test : FileId → Bool) (file : FileId) (rest : List FileId) (files : Option Files)
    → option_map (without test rest) (option_map (without test (file ∷ [])) files) ≡ option_map (without test (file ∷ rest)) files
dropped_next test file rest None = refl
dropped_next test file rest (Some all) = refl

-- as a loop goes on
pub dropped_more : (test : FileId → Bool) (files : List FileId) (i : ℕ) (other : FileId) (now next start : Option Files) → i < length files
    → next ≡ option_map (without test (get_or files i other ∷ [])) now → option_map (without test (drop i files)) now ≡ start
    → option_map (without test (drop (i + 1) files)) next ≡ start
dropped_more test files i other now next start within is before =
    ap (option_map (without test (drop (i + 1) files))) is ∙ dropped_next test (get_or files i other) (drop (i + 1) files) now
    ∙ ap (λ (rest : List FileId). option_map (without test rest) now) (sym (drop_more files i other within)) ∙ before

pub dropped_end : (test : FileId → Bool) (files : Option Files) → option_map (without test []) files ≡ files
dropped_end test None = refl
dropped_end test (Some all) = refl

none_of : (bytes : Option (List ℕ)) → is_some bytes ≡ false → bytes ≡ None
none_of None e = refl
none_of (Some bytes) e = absurd (true≢false e)

-- behind all that were listed
pub only_open : {S : Type 0} (opened : List (OpenStage S)) (all : Files) (list : List FileId) (now : Option Files) → ListsSeen list all
    → now ≡ option_map (without (is_left opened) list) (Some all) → OnlyOpen opened all now
only_open opened all list now listed is = record {
  now = without (is_left opened) list all;
  is = is;
  gone = λ number closed. elim (either (lists list (F.Stage number))) [
    | inl there ↦ without_listed (is_left opened) list all (F.Stage number) (ap not closed) there
    | inr absent ↦ without_none (is_left opened) list all (F.Stage number)
        (none_of (all (F.Stage number)) (sym (listed.each (F.Stage number) refl) ∙ absent))
  ];
  stays = λ number open_is. without_other (is_left opened) list all (F.Stage number) (ap not open_is);
}

pub only_open_still : {S : Type 0} (opened : List (OpenStage S)) (all : Files) (mid now : Option Files) → OnlyOpen opened all mid
    → ((files : Files) → mid ≡ Some files → StagesStay files now) → OnlyOpen opened all now
only_open_still opened all mid now only stay = let w = stay only.now only.is in record {
  now = w.0;
  is = w.1;
  gone = λ number closed. w.2 number ∙ only.gone number closed;
  stays = λ number open_is. w.2 number ∙ only.stays number open_is;
}

-- ---- calls

module _ {D S : Type 0} {d : DiskGhosts D} (opened : List (OpenStage S)) where
  pub drops_quiet : (old new : Journal D d) (all : Files) → told old ≡ Some all → Quiet old new → Drops old (is_left opened) all new
  drops_quiet old new all is quiet = record {
    now = all;
    told_is = quiet.told_same ∙ is;
    others = λ asked out. refl;
    certain = λ asked out sure. quiet.certain.each asked sure;
    halted_same = quiet.halted_same;
    crash = FindsOnly-each (IsAlikeBut all (uncertain old)) (IsAlikeBut all (λ asked. is_left opened asked || uncertain old asked)) old new
        (λ found alike. record {
          metadata = alike.metadata;
          contents = λ asked kind out. alike.contents asked kind (not_second (is_left opened asked) (uncertain old asked) out);
        })
        (quiet.crash all is);
  }

  pub drops_none : (journal : Journal D d) (all : Files) → told journal ≡ Some all → Drops journal (is_left opened) all journal
  drops_none journal all is = record {
    now = all;
    told_is = is;
    others = λ asked out. refl;
    certain = λ asked out sure. sure;
    halted_same = refl;
    crash = FindsOnly-still journal (IsAlikeBut all (λ asked. is_left opened asked || uncertain journal asked));
  }

  pub drops_one : (old new : Journal D d) (file : FileId) (all : Files) → is_left opened file ≡ true → Staged old file all new
      → Drops old (is_left opened) all new
  drops_one old new file all passes staged = record {
    now = staged.now;
    told_is = staged.told_is;
    others = λ asked out. staged.others asked (apart (is_left opened) file asked passes out);
    certain = λ asked out sure.
        staged.certain.each asked (also_other (uncertain old) file asked (apart (is_left opened) file asked passes out) sure);
    halted_same = staged.halted_same;
    crash = FindsOnly-each (IsAlikeBut all (also (uncertain old) file))
        (IsAlikeBut all (λ asked. is_left opened asked || uncertain old asked)) old new (λ found alike. record {
          metadata = alike.metadata;
          contents = λ asked kind out.
              let other = apart (is_left opened) file asked passes (not_first (is_left opened asked) (uncertain old asked) out) in
              alike.contents asked kind
              (also_other (uncertain old) file asked other (not_second (is_left opened asked) (uncertain old asked) out));
        })
        staged.crash;
  }

  pub drops_then : (old mid new : Journal D d) (all : Files) (first : Drops old (is_left opened) all mid)
      → ((files : Files) → told mid ≡ Some files → Drops mid (is_left opened) files new) → Drops old (is_left opened) all new
  drops_then old mid new all first next = let second = next first.now first.told_is in record {
    now = second.now;
    told_is = second.told_is;
    others = λ asked out. second.others asked out ∙ first.others asked out;
    certain = λ asked out sure. second.certain asked out (first.certain asked out sure);
    halted_same = second.halted_same ∙ first.halted_same;
    crash = FindsOnly-then (IsAlikeBut all (λ asked. is_left opened asked || uncertain old asked)) old mid new first.crash
        (FindsOnly-each (IsAlikeBut first.now (λ asked. is_left opened asked || uncertain mid asked))
        (IsAlikeBut all (λ asked. is_left opened asked || uncertain old asked)) mid new
        (λ found alike. record {
          metadata = λ asked kind. alike.metadata asked kind ∙ first.others asked (metadata_stays opened asked kind);
          contents = λ asked kind out.
              let left = not_first (is_left opened asked) (uncertain old asked) out in
              let sure = first.certain asked left (not_second (is_left opened asked) (uncertain old asked) out) in
              alike.contents asked kind (neither (is_left opened asked) (uncertain mid asked) left sure) ∙ first.others asked left;
        })
        second.crash);
  }

-- ---- the parts of a store

pub on_ok : {A E : Type 0} (result : Result A E) (P : Type 0) → P → OnOk result P
on_ok (Ok value) P holds = holds
on_ok (Err fault) P holds = tt

pub undamaged_left : (refusal : Refusal) → (refusal ≡ DiskFault) ⊎ (refusal ≡ Memory) → IsUndamaged (Err refusal)
undamaged_left refusal (inl e) = subst (λ (r : Refusal). IsUndamaged (Err r)) (sym e) tt
undamaged_left refusal (inr e) = subst (λ (r : Refusal). IsUndamaged (Err r)) (sym e) tt

module _ {D N S : Type 0} {d : DiskGhosts D} {n : NamerGhosts N S} where
  abbrev left_of : StoreParts D N S d n → FileId → Bool
  left_of parts = is_left parts.sessions.stages.items.items

  module _ (old : StoreParts D N S d n) (journal : Journal D d)
      (drops : (all : Files) → told old.journal ≡ Some all → Drops old.journal (left_of old) all journal)
      (office : Office) (names : Names) (at : IsRunning old office names) where
    abbrev after : Drops old.journal (left_of old) at.all journal
    after = drops at.all at.told_is

    abbrev mid : StoreParts D N S d n
    mid = record old { journal = journal }

    -- an open stage's file stays
    open_stays : (i : ℕ) (stage : Stage) → slice_get office.stages i ≡ Some stage → left_of old (F.Stage stage.number) ≡ false
    open_stays i stage there =
        let place = position-some (λ (s : Stage). s.number == stage.number) office.stages i stage there
        (eq-eqb stage.number stage.number refl) in
        ap (λ (found : Option ℕ). not (is_some found))
        (sym (stage_index-sessions n.holds (staging_of at.all names).staged office.stages old.sessions.stages.items.items
        at.sessions.stages stage.number)
        ∙ place.1)

    has : HasStaged old mid names office.stages at.all
    has = record {
      used' = names.used;
      all' = after.now;
      told_is = after.told_is;
      grows = record {
        given = λ id g. g;
        file = λ id g. after.others (F.Pool id) refl;
        metadata = λ asked kind. after.others asked (metadata_stays old.sessions.stages.items.items asked kind);
        live = λ id. refl;
        stage = λ i stage there. after.others (F.Stage stage.number) (open_stays i stage there);
      };
      fits = fits_less n.digest_of (slots old) (slots old) (uncertain old.journal) (uncertain journal) at.all after.now
          (record { given = λ id g. g; size = λ id g. refl; file = λ id g. after.others (F.Pool id) refl; live = λ id l. l })
          (λ id live. after.certain (F.Pool id) refl (at.fits.certain id live)) at.fits;
      all_used = λ id there. at.all_used id (ap is_some (sym (after.others (F.Pool id) refl)) ∙ there);
      used = at.used;
    }

    running_at : IsRunning mid office names
    unfolding has
    running_at = record {
      working = working_staged old mid office names at refl refl refl refl refl refl refl after.halted_same has;
      claimed = at.claimed;
    }

    crash_at : (judged : Judged Carried) → FindsOnly old.journal journal (MayRecover n.digest_of false names office judged)
    crash_at judged =
        FindsOnly-each (IsAlikeBut at.all (λ asked. left_of old asked || uncertain old.journal asked))
        (MayRecover n.digest_of false names office judged) old.journal journal
        (λ found alike. recover_before n.digest_of false names office judged found
        (alike_stands n.digest_of (index_of (slots old)) at.shown at.all found office.durable
        (λ asked. left_of old asked || uncertain old.journal asked)
        (λ id listed. at.fits.certain id (listed_live (slots old) id listed)) at.stands alike))
        after.crash

  module _ (old mid : StoreParts D N S d n) (others : mid ≡ record old { journal = mid.journal })
      (drops : (all : Files) → told old.journal ≡ Some all → Drops old.journal (left_of old) all mid.journal)
      (stays : mid.journal.halted ≡ old.journal.halted) where
    works_left : StaysAtWork old mid
    works_left = works_same old mid (ap (λ (p : StoreParts D N S d n). p.halted) others) stays

    running_left : (office : Office) (names : Names) → IsRunning old office names → IsRunning mid office names
    running_left office names at =
        subst (λ (p : StoreParts D N S d n). IsRunning p office names) (sym others) (running_at old mid.journal drops office names at)

    pub runs_behind_stages : (new : StoreParts D N S d n) (reply : Reply) → d.fault_count mid.journal.disk ≡ d.fault_count old.journal.disk
        → IsUndamaged reply → Runs mid Sweep reply new → Runs old Sweep reply new
    runs_behind_stages new reply same undamaged runs = record {
      steps = λ office names at. runs.steps office names (running_left office names at);
      crash = λ office names at.
          FindsOnly-then (MayRecover n.digest_of false names office ((meaning_of Sweep).carried office names)) old.journal mid.journal new.journal
          (crash_at old mid.journal drops office names at ((meaning_of Sweep).carried office names))
          (runs.crash office names (running_left office names at));
      in_kind = runs.in_kind;
      awake = runs.awake;
      halts = λ not. works_then old mid new works_left (runs.halts not);
      counted = subst (λ (k : ℕ). Counted k (d.fault_count new.journal.disk) (reply ≡ Err DiskFault)) same runs.counted;
      untouched = λ none damage. absurd (damage undamaged);
    }

    some_same : (office : Office) (names : Names) → IsRunning old office names → AreSome names.used names.used
    some_same office names at = record { were = λ id among. among; distinct = at.used.distinct }

    pub runs_stages_left : (refusal : Refusal) → (refusal ≡ DiskFault) ⊎ (refusal ≡ Memory)
        → Counted (d.fault_count old.journal.disk) (d.fault_count mid.journal.disk) (IsErrOf {T = Unit {0}} (Err refusal) DiskFault)
        → Runs old Sweep (Err refusal) mid
    runs_stages_left refusal kind counted = record {
      steps = λ office names at. record {
        next = Running office names;
        step = step office names at refusal kind;
        undamaged = undamaged_left refusal kind;
        in_state = running_left office names at;
      };
      crash = λ office names at. crash_at old mid.journal drops office names at ((meaning_of Sweep).carried office names);
      in_kind = tt;
      awake = λ e. awake refusal kind (let same : refusal ≡ Halted = cc in same);
      halts = λ not. works_left;
      counted = record {
        later = counted.later;
        rose = λ e. counted.rose (let same : refusal ≡ DiskFault = cc in ap (λ (r : Refusal). Err r) same);
        stays = λ not. counted.stays (λ e. not (let same : refusal ≡ DiskFault = cc in ap (λ (r : Refusal). Err r) same));
      };
      untouched = λ none damage. absurd (damage (undamaged_left refusal kind));
    }
      where
        step : (office : Office) (names : Names) → IsRunning old office names → (refusal : Refusal)
            → (refusal ≡ DiskFault) ⊎ (refusal ≡ Memory) → IsStep (Running office names) Sweep (Err refusal) (Running office names)
        step office names at refusal (inl e) =
            subst (λ (r : Refusal). IsStep (Running office names) Sweep (Err r) (Running office names)) (sym e)
            ((tt, tt, refl), (refl, some_same office names at))
        step office names at refusal (inr e) =
            subst (λ (r : Refusal). IsStep (Running office names) Sweep (Err r) (Running office names)) (sym e)
            (step_memory office names Sweep at.used.distinct)

        awake : (refusal : Refusal) → (refusal ≡ DiskFault) ⊎ (refusal ≡ Memory) → refusal ≡ Halted → ⊥
        awake refusal (inl e) same = cc
        awake refusal (inr e) same = cc

-- ---- the pool's sweep

pub stages_swept : (old new : Slots) (before now : Option Files) (all : Files) → option_map seen before ≡ Some all
    → ((raw : Files) → before ≡ Some raw → Sweeps old new now raw) → StagesStay all (option_map seen now)
stages_swept old new before now all is sweeps =
    let raw = told_raw before all is in
    let swept = sweeps raw.0 raw.1 in (
      seen swept.now,
      ap (option_map seen) swept.is,
      λ number. swept.same (F.Stage number) (λ id e. absurd cc) ∙ ap (λ (f : Files). f (F.Stage number)) raw.2,
    )
