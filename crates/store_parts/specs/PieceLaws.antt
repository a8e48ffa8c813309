-- Parts at work of which the file of one stage has changed, and what is open.
--     OnlyPiece old new      the journal and what is open alone are others
--     IsStaged old number new      of the journal the file of this stage
--     running_pieced      the parts are at work, if the sessions are those of an office that is durably the same
--     crash_pieced      a crash meanwhile leaves what is durable
--     runs_pieced      a piece of a stage was taken
--     runs_piece_failed      the disk failed, and the stage was dropped
use Rattle.std.specs.Prelude.{◌≡◌, ℕ, true, false, List, [], Some, Ok, Err, is_some}
use Rattle.std.proofs.Common.{refl, sym, ap, ◌∙◌, subst, inl, inr}
use Rattle.std.proofs.lemmas.Bool.{false≢true}
use Rattle.fault_counts.specs.Counts.{Counted}
use Rattle.disk_trait.specs.declared.ids.PoolId.{PoolId}
use Rattle.disk_trait.specs.declared.ids.FileId.{FileId}
use Rattle.disk_trait.specs.declared.ids.FileId.TheVariants as F
use Rattle.disk_trait.specs.declared.disk.Disk.{Ghosts as DiskGhosts}
use Rattle.disk_trait.specs.Names.{is_same_file, is_metadata}
use Rattle.disk_trait.specs.NamesLaws.{same_file}
use Rattle.disk_trait.specs.Files.{Files, bytes_of as file_bytes}
use Rattle.disk_trait.specs.Images.{also}
use Rattle.pool_name.specs.declared.namer.Namer.{Ghosts as NamerGhosts}
use Rattle.intent_journal.specs.ChangesLaws.{either}
use Rattle.intent_journal.specs.OverlayLaws.{also_other}
use Rattle.journal_view.specs.Found.{IsAlikeBut}
use Rattle.journal_view.specs.View.{told, uncertain, FindsOnly, Staged}
use Rattle.journal_view.specs.ViewLaws.{FindsOnly-each}
use Rattle.pool_changes.specs.Slots.{is_given, claims_of}
use Rattle.pool_changes.specs.Kept.{slots_of}
use Rattle.pool_changes.specs.Listed.{item_of, index_of}
use Rattle.pool_store.specs.declared.pool.Pool.{Pool}
use Rattle.pool_store.specs.Fits.{Fits, IsHeld}
use Rattle.pool_store.specs.Sweeps.{AreAllUsed}
use Rattle.open_sessions.specs.Opened.{AreSessions, claims_in}
use Rattle.office_model.specs.declared.answer.Answer.TheVariants.{Done}
use Rattle.office_model.specs.declared.event.Event.TheVariants.{StagePiece}
use Rattle.office_model.specs.declared.refusal.Refusal.TheVariants.{DiskFault}
use Rattle.office_model.specs.Office.{Office, Volatile, Stage, Names, stage_index, with_stages}
use Rattle.office_model.specs.Meaning.{Carried, Judged, Stages, ◌>>=◌}
use Rattle.office_model.specs.Step.{Running, MayFault}
use Rattle.office_model.specs.UsedNames.{AreSound}
use Rattle.office_model.specs.events.StagePiece as StagePieceEvent
use Rattle.office_model.specs.laws.StateLaws.{AreSound-carried}
use Rattle.office_model.specs.laws.StepLaws.{faulted}
use Rattle.office_files.specs.Pooled.{contents_of}
use Rattle.office_files.specs.Stands.{StandsFor}
use Rattle.store_parts.specs.declared.parts.StoreParts.{StoreParts}
use Rattle.store_parts.specs.Held.{given, AreUsed}
use Rattle.store_parts.specs.States.{slots, staging_of, IsRunning}
use Rattle.store_parts.specs.Runs.{MayRecover, Runs}
use Rattle.store_parts.specs.StoredLaws.{alike_stands, listed_live}
use Rattle.store_parts.specs.StepLaws.{names_refused, recover_before}
use Rattle.store_parts.specs.RunLaws.{counted_fine, counted_failed, works_same}
use Rattle.store_parts.specs.StagingLaws.{HasStaged, working_with}
use Rattle.store_parts.specs.Opens.{with_open}

-- ---- files

content_apart : (id : PoolId) (number : ℕ) → is_same_file (F.Pool id) (F.Stage number) ≡ false
unfolding is_same_file
content_apart id number = refl

metadata_apart : (asked : FileId) (number : ℕ) → is_metadata asked ≡ true → is_same_file asked (F.Stage number) ≡ false
metadata_apart asked number kind = elim (either (is_same_file asked (F.Stage number))) [
  | inl same ↦ absurd (false≢true (sym (ap is_metadata (same_file asked (F.Stage number) same)) ∙ kind))
  | inr other ↦ other
]

-- a fault may come in the place of a broken rule
early : (judged : Judged Carried) → MayFault Stages judged
early (Ok carried) = tt
early (Err rule) = refl

module _ {D N S : Type 0} {d : DiskGhosts D} {n : NamerGhosts N S} where
  -- the journal and what is open alone are others
  abbrev pub OnlyPiece : StoreParts D N S d n → StoreParts D N S d n → Type 0
  OnlyPiece old new = new ≡ record old { journal = new.journal; sessions = new.sessions }

  -- the file of a stage was at most written
  abbrev pub IsStaged : StoreParts D N S d n → ℕ → StoreParts D N S d n → Type 0
  IsStaged old number new = (all : Files) → told old.journal ≡ Some all → Staged old.journal (F.Stage number) all new.journal

  module _ (old new : StoreParts D N S d n) (only : OnlyPiece old new) (office : Office) (names : Names) (at : IsRunning old office names)
      (number : ℕ) (staged : Staged old.journal (F.Stage number) at.all new.journal) where
    pool_same : new.pool ≡ old.pool
    pool_same = ap (λ (p : StoreParts D N S d n). p.pool) only

    content_same : (id : PoolId) → staged.now (F.Pool id) ≡ at.all (F.Pool id)
    content_same id = staged.others (F.Pool id) (content_apart id number)

    -- the pool and the files after a piece
    unfoldable staged_piece : HasStaged old new names [] at.all
    staged_piece = record {
      used' = names.used;
      all' = staged.now;
      told_is = staged.told_is;
      grows = record {
        given = λ id g. ap (λ (p : Pool N S n). is_given (slots_of p.names id)) pool_same ∙ g;
        file = λ id g. content_same id;
        metadata = λ asked kind. staged.others asked (metadata_apart asked number kind);
        live = λ id. ap (λ (p : Pool N S n). item_of id (slots_of p.names id)) pool_same;
        stage = λ i stage there. absurd (cc);
      };
      fits = subst (λ (p : Pool N S n). Fits n.digest_of (slots_of p.names) (uncertain new.journal) staged.now) (sym pool_same) (record {
        near = at.fits.near;
        held = λ id g. subst (IsHeld n.digest_of id (slots old id)) (sym (content_same id)) (at.fits.held id g);
        one = λ a b content ga gb ha hb. at.fits.one a b content ga gb (sym (content_same a) ∙ ha) (sym (content_same b) ∙ hb);
        certain = λ id live. staged.certain.each (F.Pool id)
            (also_other (uncertain old.journal) (F.Stage number) (F.Pool id) (content_apart id number) (at.fits.certain id live));
      });
      all_used = subst (λ (p : Pool N S n). AreAllUsed (slots_of p.names) staged.now) (sym pool_same)
          (λ id there. at.all_used id (ap is_some (sym (content_same id)) ∙ there));
      used = subst (λ (p : Pool N S n). AreUsed (slots_of p.names) names.used) (sym pool_same) at.used;
    }

    contents : contents_of staged.now ≡ contents_of at.all
    contents = λ i id. file_bytes (content_same id i)

    -- the sessions are those of the office then, by the contents that were there, and claim the same
    pub running_pieced : (now : Volatile)
        → AreSessions n.holds (given (slots old)) (contents_of at.all) (staging_of staged.now names) now new.sessions
        → ((id : PoolId) → claims_in new.sessions id ≡ claims_in old.sessions id) → AreSound (with_open office now) names
        → IsRunning new (with_open office now) names
    unfolding staged_piece
    running_pieced now sessions claims sound = record {
      working = working_with old new office names at (ap (λ (p : StoreParts D N S d n). p.catalog) only)
          (ap (λ (p : StoreParts D N S d n). p.counts) only) (ap (λ (p : StoreParts D N S d n). p.partials) only)
          (ap (λ (p : StoreParts D N S d n). p.views) only)
          (ap (λ (p : StoreParts D N S d n). p.halted) only)
          (ap (λ (p : Pool N S n). p.in_one_file) pool_same) staged.halted_same staged_piece now
          (subst (λ (p : Pool N S n). AreSessions n.holds (given (slots_of p.names)) (contents_of staged.now)
          (staging_of staged.now names) now
          new.sessions) (sym pool_same)
          (subst (λ (contents : PoolId → List ℕ). AreSessions n.holds (given (slots old)) contents
          (staging_of staged.now names) now new.sessions)
          (sym contents) sessions)) sound;
      claimed = λ id. ap (λ (p : Pool N S n). claims_of (slots_of p.names id)) pool_same ∙ at.claimed id ∙ sym (claims id);
    }

    pub crash_pieced : FindsOnly old.journal new.journal (λ found. StandsFor n.digest_of found office.durable)
    crash_pieced =
        FindsOnly-each (IsAlikeBut at.all (also (uncertain old.journal) (F.Stage number)))
        (λ found. StandsFor n.digest_of found office.durable) old.journal new.journal
        (λ found alike. alike_stands n.digest_of (index_of (slots old)) at.shown at.all found office.durable
        (also (uncertain old.journal) (F.Stage number))
        (λ id listed. also_other (uncertain old.journal) (F.Stage number) (F.Pool id) (content_apart id number)
        (at.fits.certain id (listed_live (slots old) id listed))) at.stands alike)
        staged.crash

  -- the sessions then are those of the office with these stages
  abbrev pub HoldsStages : (old : StoreParts D N S d n) (number : ℕ) (new : StoreParts D N S d n) → IsStaged old number new
      → (office : Office) (names : Names) → IsRunning old office names → List Stage → Type 0
  HoldsStages old number new staged office names at stages =
      AreSessions n.holds (given (slots old)) (contents_of at.all) (staging_of (staged at.all at.told_is).now names)
      (record office.volatile { stages = stages }) new.sessions

  -- the piece breaks no rule
  pub record TakesPiece (old : StoreParts D N S d n) (number : ℕ) (bytes : List ℕ) (new : StoreParts D N S d n)
      (staged : IsStaged old number new)
      (office : Office) (names : Names) (at : IsRunning old office names) : Type 0 where
    pub stages : List Stage
    pub judged : StagePieceEvent.with_piece number bytes office.stages ≡ Ok stages
    pub sessions : HoldsStages old number new staged office names at stages

  module _ (old new : StoreParts D N S d n) (number : ℕ) (bytes : List ℕ) (only : OnlyPiece old new) (staged : IsStaged old number new)
      (claims : (id : PoolId) → claims_in new.sessions id ≡ claims_in old.sessions id) {failed : Type 0}
      (counted : Counted (d.fault_count old.journal.disk) (d.fault_count new.journal.disk) failed) where
    with_stages_running : (office : Office) (names : Names) (at : IsRunning old office names) (stages : List Stage)
        → HoldsStages old number new staged office names at stages → AreSound (with_stages office stages) names
        → IsRunning new (with_stages office stages) names
    with_stages_running office names at stages sessions sound =
        running_pieced old new only office names at number (staged at.all at.told_is) (record office.volatile { stages = stages }) sessions
        claims sound

    crash : (office : Office) (names : Names) → IsRunning old office names → (judged : Judged Carried)
        → FindsOnly old.journal new.journal (MayRecover n.digest_of false names office judged)
    crash office names at judged =
        FindsOnly-each (λ found. StandsFor n.digest_of found office.durable) (MayRecover n.digest_of false names office judged) old.journal
        new.journal (λ found stands. recover_before n.digest_of false names office judged found stands)
        (crash_pieced old new only office names at number (staged at.all at.told_is))

    pub runs_pieced : (failed → ⊥) → new.journal.halted ≡ old.journal.halted
        → ((office : Office) (names : Names) (at : IsRunning old office names) → TakesPiece old number bytes new staged office names at)
        → Runs old (StagePiece number bytes) (Ok Done) new
    runs_pieced fine stays takes = record {
      steps = λ office names at.
          let to = takes office names at in
          let judged = done office to.stages to.judged in
          record {
            next = Running (with_stages office to.stages) names;
            step = (judged, refl);
            undamaged = tt;
            in_state = with_stages_running office names at to.stages to.sessions
                (AreSound-carried office names (StagePiece number bytes) Done (with_stages office to.stages) names at.sound judged refl);
          };
      crash = λ office names at. crash office names at (StagePieceEvent.carried number bytes office);
      in_kind = refl;
      awake = λ e. absurd cc;
      halts = λ not. works_same old new (ap (λ (p : StoreParts D N S d n). p.halted) only) stays;
      counted = counted_fine counted fine (λ e. absurd cc);
      untouched = λ none damage. absurd (damage tt);
    }
      where
        done : (office : Office) (stages : List Stage) → StagePieceEvent.with_piece number bytes office.stages ≡ Ok stages
            → StagePieceEvent.carried number bytes office ≡ Ok (record { answer = Done; after = with_stages office stages })
        done office stages judged =
            ap (λ (j : Judged (List Stage)). j >>= λ stages. Ok (record { answer = Done; after = with_stages office stages })) judged

    pub runs_piece_failed : failed
        → ((office : Office) (names : Names) (at : IsRunning old office names)
        → HoldsStages old number new staged office names at (StagePieceEvent.dropped office.stages (stage_index office.stages number)))
        → Runs old (StagePiece number bytes) (Err DiskFault) new
    runs_piece_failed is sessions = record {
      steps = λ office names at. record {
        next = Running (StagePieceEvent.faulted number office) names;
        step = (
          (early (StagePieceEvent.carried number bytes office), tt, refl),
          names_refused office names (StagePiece number bytes) DiskFault at.used.distinct,
        );
        undamaged = tt;
        in_state = with_stages_running office names at (StagePieceEvent.dropped office.stages (stage_index office.stages number))
            (sessions office names at) (faulted (StagePiece number bytes) office names at.sound);
      };
      crash = λ office names at. crash office names at (StagePieceEvent.carried number bytes office);
      in_kind = tt;
      awake = λ e. absurd cc;
      halts = λ not. absurd (not refl);
      counted = counted_failed counted is refl;
      untouched = λ none damage. absurd (damage tt);
    }
