-- Events of stages, by what memory and the journal do.
--     runs_stage_opened, runs_stage_spent, runs_stage_memory      a stage is opened; no number is left, or no memory
--     runs_stage_dropped      a stage is dropped
--     runs_piece_taken, runs_piece_lost      a stage takes a piece; the disk fails, and the stage is dropped
--     runs_piece_bad, runs_piece_over      a piece breaks a rule
use Rattle.std.specs.Prelude.{◌≡◌, ◌≢◌, ◌<◌, ◌≤◌, ◌+◌, ◌-◌, ◌^◌, ℕ, Bool, true, false, List, [], ◌∷◌, ◌++◌, length, nat_le, nat_lt, Option, Some, Ok, Err, slice_get, slice_set}
use Rattle.std.specs.List.{remove}
use Rattle.std.proofs.Common.{refl, sym, ap, ◌∙◌, subst, inl, inr, arith}
use Rattle.std.proofs.lemmas.Bool.Decides.{nat_tests}
use Rattle.fault_counts.specs.Counts.{Counted}
use Rattle.disk_trait.specs.declared.ids.PoolId.{PoolId}
use Rattle.disk_trait.specs.declared.ids.FileId.{FileId}
use Rattle.disk_trait.specs.declared.ids.FileId.TheVariants as F
use Rattle.disk_trait.specs.declared.disk.Disk.{Ghosts as DiskGhosts}
use Rattle.disk_trait.specs.Names.{is_same_file}
use Rattle.disk_trait.specs.NamesLaws.{same_file, is_same_file-itself}
use Rattle.disk_trait.specs.Files.{Files, with_bytes}
use Rattle.pool_name.specs.declared.namer.Namer.{Ghosts as NamerGhosts}
use Rattle.attr_records.specs.declared.trees.PutRule.TheVariants.{FileTooLarge}
use Rattle.intent_journal.specs.ChangesLaws.{either, with_bytes_there}
use Rattle.journal_view.specs.View.{told}
use Rattle.pool_changes.specs.Slots.{claims_of}
use Rattle.open_sessions.specs.declared.stages.OpenStage.{OpenStage}
use Rattle.open_sessions.specs.Opened.{claims_in, OnlyStages}
use Rattle.open_sessions.specs.Staging.{IsExtended}
use Rattle.open_sessions.specs.SessionLaws.{claims_in-stages}
use Rattle.open_sessions.specs.StageCallLaws.{AreSessions-stages_kept, AreSessions-stage_opened, AreSessions-stage_extended, AreSessions-stage_taken, AreSessions-stage_dropped}
use Rattle.office_model.specs.declared.answer.Answer.TheVariants.{Done, Stage as StageAnswer}
use Rattle.office_model.specs.declared.event.Event.TheVariants.{StageOpen, StagePiece, StageDrop}
use Rattle.office_model.specs.declared.refusal.BrokenRule.TheVariants.{NumbersSpent, BadPiece, Put as PutRule}
use Rattle.office_model.specs.declared.refusal.Refusal.TheVariants.{Broken, DiskFault, Memory}
use Rattle.receipts.specs.declared.session.SessionName.{SessionName}
use Rattle.office_model.specs.Office.{Office, Dump, Stage, Names, last_sequence, content_limit, with_stages}
use Rattle.office_model.specs.Parts.{At, dump_at, stage_at}
use Rattle.office_model.specs.Meaning.{Carried, Judged, ◌>>=◌, ◌>>◌, breaks}
use Rattle.office_model.specs.events.StageOpen as StageOpenEvent
use Rattle.office_model.specs.events.StagePiece as StagePieceEvent
use Rattle.office_model.specs.events.StageDrop as StageDropEvent
use Rattle.office_files.specs.Pooled.{contents_of}
use Rattle.store_parts.specs.declared.parts.StoreParts.{StoreParts}
use Rattle.store_parts.specs.Held.{given}
use Rattle.store_parts.specs.States.{slots, staging_of, IsRunning}
use Rattle.store_parts.specs.Runs.{Runs}
use Rattle.store_parts.specs.RefusedLaws.{runs_broken}
use Rattle.store_parts.specs.FoundLaws.{dump_place, stage_place, dump_there, stage_found}
use Rattle.store_parts.specs.OpenLaws.{OnlySessions, alike_still, stays_sessions, counted_sessions, running_opened, runs_opened, runs_same_memory}
use Rattle.store_parts.specs.PieceLaws.{OnlyPiece, IsStaged, HoldsStages, runs_pieced, runs_piece_failed}

-- ---- numbers

spent : (next : ℕ) → 2 ^ 64 - 1 ≤ next → nat_le last_sequence next ≡ true
spent next h = grind (arith, nat_tests)

unspent : (next : ℕ) → next < 2 ^ 64 - 1 → nat_le last_sequence next ≡ false
unspent next h = grind (arith, nat_tests)

-- ---- the model

abbrev stages_done : Office → List Stage → Judged Carried
stages_done office stages = Ok (record { answer = Done; after = with_stages office stages })

abbrev with_opened : Office → SessionName → ℕ → Office
with_opened office session number = with_stages office (office.stages ++ StageOpenEvent.new_stage session number ∷ [])

module _ (office : Office) (session : SessionName) (next : ℕ) (dump : At Dump) (is_at : dump_at office.dumps session ≡ Ok dump) where
  -- if no number is left, or one is
  abbrev opened_if : Bool → Judged Carried
  opened_if spent = (breaks NumbersSpent spent >> Ok (office.stages ++ StageOpenEvent.new_stage session next ∷ []))
      >>= λ stages. Ok (record { answer = StageAnswer next; after = with_stages office stages })

  open_judged : (spent : Bool) → nat_le last_sequence next ≡ spent → StageOpenEvent.carried session next office ≡ opened_if spent
  open_judged spent is =
      ap (λ (j : Judged (At Dump)).
      (j >>= λ dump. breaks NumbersSpent (nat_le last_sequence next) >> Ok (office.stages ++ StageOpenEvent.new_stage session next ∷ []))
      >>= λ stages. Ok (record { answer = StageAnswer next; after = with_stages office stages })) is_at
      ∙ ap opened_if is

module _ (office : Office) (number : ℕ) (stage : At Stage) (is_at : stage_at office.stages number ≡ Ok stage) where
  drop_judged : StageDropEvent.carried number office ≡ stages_done office (remove office.stages stage.index)
  drop_judged =
      ap (λ (j : Judged (At Stage)). (j >>= λ stage. Ok (remove office.stages stage.index)) >>= stages_done office) is_at

  module _ (bytes : List ℕ) where
    -- if the piece is bad, or too large, or neither
    abbrev taken_if : (bad over : Bool) → Judged (List Stage)
    taken_if bad over =
        breaks BadPiece bad
        >> (breaks (PutRule FileTooLarge) over
        >> Ok (slice_set office.stages stage.index (StagePieceEvent.with_bytes stage.value bytes)))

    piece_judged : (bad over : Bool) → StagePieceEvent.is_bad_piece bytes ≡ bad
        → nat_lt content_limit (length stage.value.bytes + length bytes) ≡ over
        → StagePieceEvent.with_piece number bytes office.stages ≡ taken_if bad over
    piece_judged bad over is_bad is_over =
        ap (λ (j : Judged (At Stage)). j >>= λ stage.
        breaks BadPiece (StagePieceEvent.is_bad_piece bytes)
        >> (breaks (PutRule FileTooLarge) (nat_lt content_limit (length stage.value.bytes + length bytes))
        >> Ok (slice_set office.stages stage.index (StagePieceEvent.with_bytes stage.value bytes)))) is_at
        ∙ ap (λ (b : Bool). taken_if b (nat_lt content_limit (length stage.value.bytes + length bytes))) is_bad
        ∙ ap (taken_if bad) is_over

-- other stages have other files
stage_apart : (a b : ℕ) → a ≢ b → is_same_file (F.Stage a) (F.Stage b) ≡ false
stage_apart a b other = elim (either (is_same_file (F.Stage a) (F.Stage b))) [
  | inl same ↦ let e : F.Stage a ≡ F.Stage b = same_file (F.Stage a) (F.Stage b) same in absurd (other (cc))
  | inr apart ↦ apart
]

-- the files behind a write are these
now_is : (now all : Files) (file : FileId) (bytes : List ℕ) (told : Option Files) → told ≡ Some now
    → told ≡ Some (with_bytes all file (Some bytes)) → now file ≡ Some bytes
now_is now all file bytes told is written =
    let both : Some now ≡ Some (with_bytes all file (Some bytes)) = sym is ∙ written in
    let same : now ≡ with_bytes all file (Some bytes) = cc in
    ap (λ (f : Files). f file) same ∙ with_bytes_there all file (Some bytes) file (is_same_file-itself file)

module _ {D N S : Type 0} {d : DiskGhosts D} {n : NamerGhosts N S} where
  -- ---- what is open alone changes

  module _ (old new : StoreParts D N S d n) (only : OnlySessions old new) (same : OnlyStages old.sessions new.sessions) where
    claimed_same : (office : Office) (names : Names) → IsRunning old office names → (id : PoolId)
        → claims_of (slots new id) ≡ claims_in new.sessions id
    claimed_same office names at id =
        ap (λ (p : StoreParts D N S d n). claims_of (slots p id)) only ∙ at.claimed id
        ∙ sym (claims_in-stages old.sessions new.sessions same id)

    pub runs_stage_opened : (session : SessionName) (index : ℕ) → Some index ≡ dump_place old session
        → old.sessions.stages.next < 2 ^ 64 - 1
        → (digest : S) → n.holds digest []
        → new.sessions.stages.items.items
        ≡ old.sessions.stages.items.items ++ record { number = old.sessions.stages.next; dump = session; size = 0; digest = digest } ∷ []
        → new.sessions.stages.next ≡ old.sessions.stages.next + 1 → (number : ℕ) → number ≡ old.sessions.stages.next
        → Runs old (StageOpen session) (Ok (StageAnswer number)) new
    runs_stage_opened session index e room digest none items next number number_is =
        runs_opened old new (StageOpen session) (stays_sessions old new only) (counted_sessions old new only) (λ e. e) (StageAnswer number)
        (λ office names at.
        let dump = dump_there old office names at session index e in
        record {
          now = record office.volatile { stages = office.stages ++ StageOpenEvent.new_stage session names.next_stage ∷ [] };
          names' = record names { next_stage = names.next_stage + 1 };
          judged =
              open_judged office session names.next_stage (record { index = index; value = dump.0 }) dump.1 false
              (unspent names.next_stage (subst (λ (k : ℕ). k < 2 ^ 64 - 1) at.sessions.numbers.stage room))
              ∙ ap (λ (k : ℕ). Ok (record { answer = StageAnswer k; after = with_opened office session names.next_stage }))
              (sym (number_is ∙ at.sessions.numbers.stage));
          renamed = refl;
          alike = record { used = refl; digest_of = refl; old_hosts = refl };
          sessions = AreSessions-stage_opened old.sessions new.sessions same n.holds (given (slots old)) (contents_of at.all)
              (staging_of at.all names) office.volatile at.sessions session digest none items next;
          claimed = claimed_same office names at;
        }) refl

    pub runs_stage_memory : (session : SessionName) → new.sessions.stages.items.items ≡ old.sessions.stages.items.items
        → new.sessions.stages.next ≡ old.sessions.stages.next → Runs old (StageOpen session) (Err Memory) new
    runs_stage_memory session items next =
        runs_same_memory old new (StageOpen session) (stays_sessions old new only) (counted_sessions old new only) (λ e. e)
        (λ office names at.
        running_opened old new office office.volatile names names at.working (stays_sessions old new only) (alike_still names)
        (AreSessions-stages_kept old.sessions new.sessions same n.holds (given (slots old)) (contents_of at.all) (staging_of at.all names)
        office.volatile at.sessions items next) (claimed_same office names at) at.sound)

    pub runs_stage_dropped : (number index : ℕ) (held : OpenStage S) → Some index ≡ stage_place old number
        → slice_get old.sessions.stages.items.items index ≡ Some held
        → new.sessions.stages.items.items ≡ remove old.sessions.stages.items.items index
        → new.sessions.stages.next ≡ old.sessions.stages.next → Runs old (StageDrop number) (Ok Done) new
    runs_stage_dropped number index held e there items next =
        runs_opened old new (StageDrop number) (stays_sessions old new only) (counted_sessions old new only) (λ e. e) Done
        (λ office names at.
        let found = stage_found old office names at number index held e there in
        record {
          now = record office.volatile { stages = remove office.stages index };
          names' = names;
          judged = drop_judged office number (record { index = index; value = found.value }) found.is_at;
          renamed = refl;
          alike = alike_still names;
          sessions = AreSessions-stage_taken old.sessions new.sessions same n.holds (given (slots old)) (contents_of at.all)
              (staging_of at.all names) office.volatile at.sessions index items next;
          claimed = claimed_same office names at;
        }) refl

  -- no number is left
  pub runs_stage_spent : (old : StoreParts D N S d n) (session : SessionName) (index : ℕ) → Some index ≡ dump_place old session
      → 2 ^ 64 - 1 ≤ old.sessions.stages.next → Runs old (StageOpen session) (Err (Broken NumbersSpent)) old
  runs_stage_spent old session index e none = runs_broken old (StageOpen session) NumbersSpent (λ office names at.
      let dump = dump_there old office names at session index e in
      open_judged office session names.next_stage (record { index = index; value = dump.0 }) dump.1 true
      (spent names.next_stage (subst (λ (k : ℕ). 2 ^ 64 - 1 ≤ k) at.sessions.numbers.stage none)))

  -- ---- a piece

  module _ (old : StoreParts D N S d n) (number index : ℕ) (held : OpenStage S) (e : Some index ≡ stage_place old number)
      (there : slice_get old.sessions.stages.items.items index ≡ Some held) (bytes : List ℕ) where
    -- whether it is too large, by the stage's size
    over_is : (office : Office) (names : Names) (at : IsRunning old office names) (over : Bool)
        → nat_lt content_limit (held.size + length bytes) ≡ over
        → nat_lt content_limit (length (stage_found old office names at number index held e there).value.bytes + length bytes) ≡ over
    over_is office names at over is =
        ap (λ (k : ℕ). nat_lt content_limit (k + length bytes)) (sym (stage_found old office names at number index held e there).is.size)
        ∙ is

    abbrev judged_by : (office : Office) (names : Names) (at : IsRunning old office names) (bad over : Bool)
        → StagePieceEvent.is_bad_piece bytes ≡ bad → nat_lt content_limit (held.size + length bytes) ≡ over
        → StagePieceEvent.with_piece number bytes office.stages
        ≡ taken_if office number (record { index = index; value = (stage_found old office names at number index held e there).value })
        (stage_found old office names at number index held e there).is_at bytes bad over
    judged_by office names at bad over is_bad is_over =
        let found = stage_found old office names at number index held e there in
        piece_judged office number (record { index = index; value = found.value }) found.is_at bytes bad over is_bad
        (over_is office names at over is_over)

    pub runs_piece_bad : StagePieceEvent.is_bad_piece bytes ≡ true → Runs old (StagePiece number bytes) (Err (Broken BadPiece)) old
    runs_piece_bad bad = runs_broken old (StagePiece number bytes) BadPiece (λ office names at.
        ap (λ (j : Judged (List Stage)). j >>= stages_done office)
        (judged_by office names at true (nat_lt content_limit (held.size + length bytes)) bad refl))

    pub runs_piece_over : StagePieceEvent.is_bad_piece bytes ≡ false → nat_lt content_limit (held.size + length bytes) ≡ true
        → Runs old (StagePiece number bytes) (Err (Broken (PutRule FileTooLarge))) old
    runs_piece_over fine over = runs_broken old (StagePiece number bytes) (PutRule FileTooLarge) (λ office names at.
        ap (λ (j : Judged (List Stage)). j >>= stages_done office) (judged_by office names at false true fine over))

    module _ (new : StoreParts D N S d n) (only : OnlyPiece old new) (same : OnlyStages old.sessions new.sessions)
        (staged : IsStaged old number new) (next : new.sessions.stages.next ≡ old.sessions.stages.next) {failed : Type 0}
        (counted : Counted (d.fault_count old.journal.disk) (d.fault_count new.journal.disk) failed) where
      -- the file of no other stage
      others : (office : Office) (names : Names) (at : IsRunning old office names) (other : ℕ)
          → other ≢ (stage_found old office names at number index held e there).value.number
          → (staged at.all at.told_is).now (F.Stage other) ≡ at.all (F.Stage other)
      others office names at other apart =
          (staged at.all at.told_is).others (F.Stage other)
          (stage_apart other number
          (λ same. apart (same ∙ sym (stage_found old office names at number index held e there).number_is)))

      -- the piece stands behind the bytes that were there
      abbrev pub IsBehind : Type 0
      IsBehind = (all : Files) (before : List ℕ) → told old.journal ≡ Some all → length before ≡ held.size
          → (0 < held.size → all (F.Stage number) ≡ Some before)
          → told new.journal ≡ Some (with_bytes all (F.Stage number) (Some (before ++ bytes)))

      pub runs_piece_taken : (failed → ⊥) → new.journal.halted ≡ old.journal.halted → StagePieceEvent.is_bad_piece bytes ≡ false
          → nat_lt content_limit (held.size + length bytes) ≡ false → IsBehind
          → IsExtended n.holds held bytes old.sessions.stages.items.items index new.sessions.stages.items.items
          → Runs old (StagePiece number bytes) (Ok Done) new
      runs_piece_taken fine stays good fits behind extended =
          runs_pieced old new number bytes only staged (claims_in-stages old.sessions new.sessions same) counted fine stays
          (λ office names at.
          let found = stage_found old office names at number index held e there in
          let staged' = staged at.all at.told_is in
          record {
            stages = slice_set office.stages index (StagePieceEvent.with_bytes found.value bytes);
            judged = judged_by office names at false false good fits;
            sessions = AreSessions-stage_extended old.sessions new.sessions same n.holds (given (slots old)) (contents_of at.all)
                (staging_of at.all names) office.volatile at.sessions index found.value found.there (staging_of staged'.now names).staged
                (others office names at) held bytes there extended next (file office names at);
          })
        where
          file : (office : Office) (names : Names) (at : IsRunning old office names)
              → (staged at.all at.told_is).now (F.Stage (stage_found old office names at number index held e there).value.number)
              ≡ Some ((stage_found old office names at number index held e there).value.bytes ++ bytes)
          file office names at =
              let found = stage_found old office names at number index held e there in
              ap (λ (k : ℕ). (staged at.all at.told_is).now (F.Stage k)) found.number_is
              ∙ now_is (staged at.all at.told_is).now at.all (F.Stage number) (found.value.bytes ++ bytes) (told new.journal)
              (staged at.all at.told_is).told_is
              (behind at.all found.value.bytes at.told_is (sym found.is.size)
              (λ some. ap (λ (k : ℕ). at.all (F.Stage k)) (sym found.number_is)
              ∙ found.is.file (subst (λ (k : ℕ). 0 < k) found.is.size some)))

      pub runs_piece_lost : failed → new.sessions.stages.items.items ≡ remove old.sessions.stages.items.items index
          → Runs old (StagePiece number bytes) (Err DiskFault) new
      runs_piece_lost is items =
          runs_piece_failed old new number bytes only staged (claims_in-stages old.sessions new.sessions same) counted is
          (λ office names at.
          let found = stage_found old office names at number index held e there in
          subst (λ (place : Option ℕ). HoldsStages old number new staged office names at (StagePieceEvent.dropped office.stages place))
          (sym found.place)
          (AreSessions-stage_dropped old.sessions new.sessions same n.holds (given (slots old)) (contents_of at.all)
          (staging_of at.all names)
          office.volatile at.sessions index found.value found.there (staging_of (staged at.all at.told_is).now names).staged
          (others office names at) items next))
