-- A put of a stage that repeats another ends the stage, if it is one of the dump.
--     left_found, left_none      the stages without the one that memory finds, or none
--     runs_again      the put is Done, and the stage ended
use Rattle.std.specs.Prelude.{◌≡◌, ◌==◌, ℕ, Bool, true, false, not, List, Option, Some, None, Ok, slice_get, if◌then◌else◌}
use Rattle.std.specs.List.{position_from, remove}
use Rattle.std.specs.Option.{option_map_or}
use Rattle.std.proofs.Common.{refl, sym, ap, ◌∙◌, subst}
use Rattle.disk_trait.specs.declared.disk.Disk.{Ghosts as DiskGhosts}
use Rattle.pool_name.specs.declared.namer.Namer.{Ghosts as NamerGhosts}
use Rattle.receipts.specs.declared.session.SessionName.{SessionName}
use Rattle.receipts.specs.declared.session.Token.{Token}
use Rattle.receipts.specs.Session.{is_same_session}
use Rattle.pool_changes.specs.Slots.{claims_of}
use Rattle.open_sessions.specs.declared.sessions.OpenDump.{OpenDump}
use Rattle.open_sessions.specs.declared.stages.OpenStage.{OpenStage}
use Rattle.open_sessions.specs.Opened.{OnlyStages, AreSessions}
use Rattle.open_sessions.specs.SessionLaws.{stage_index-sessions, claims_in-stages}
use Rattle.open_sessions.specs.StageCallLaws.{AreSessions-stages_kept, AreSessions-stage_taken}
use Rattle.office_model.specs.declared.answer.Answer.TheVariants.{Done}
use Rattle.office_model.specs.declared.event.Event.TheVariants.{Put}
use Rattle.office_model.specs.declared.event.PutItem.TheVariants.{Staged}
use Rattle.office_model.specs.declared.event.StagedFile.{StagedFile}
use Rattle.office_model.specs.declared.refusal.BrokenRule.TheVariants.{NoSession}
use Rattle.office_model.specs.Meaning.{Judged, ◌>>=◌, ◌>>◌, breaks}
use Rattle.office_model.specs.Office.{Office, Stage, Names, stage_index, stage_content}
use Rattle.office_model.specs.Parts.{At, at as stage_in}
use Rattle.office_model.specs.PlacesLaws.{position-found}
use Rattle.office_model.specs.events.Put as PutEvent
use Rattle.office_files.specs.Pooled.{contents_of}
use Rattle.store_parts.specs.declared.parts.StoreParts.{StoreParts}
use Rattle.store_parts.specs.Held.{given}
use Rattle.store_parts.specs.States.{slots, staging_of, IsRunning}
use Rattle.store_parts.specs.Runs.{Runs}
use Rattle.store_parts.specs.FoundLaws.{dump_place, stage_place, IsStageFound, stage_found}
use Rattle.store_parts.specs.OpenLaws.{OnlySessions, alike_still, stays_sessions, counted_sessions, runs_opened}
use Rattle.store_dumps.specs.declared.tokens.EditToken.TheVariants.{Kept}
use Rattle.store_dumps.specs.Tokens.{judged_token}
use Rattle.store_dumps.specs.TokenLaws.{carried_kept, still_named_if}
use Rattle.store_stages.specs.Ending.{without_if, without_stage}

-- ---- in memory

module _ {S : Type 0} (stages : List (OpenStage S)) (session : SessionName) (number : ℕ) where
  abbrev without_at : Option ℕ → List (OpenStage S)
  without_at place = option_map_or (λ at. option_map_or (without_if stages session at) (slice_get stages at) stages) place stages

  abbrev without_found : ℕ → Option (OpenStage S) → List (OpenStage S)
  without_found at found = option_map_or (without_if stages session at) found stages

  -- by whether it is one of the dump
  pub without_there : (at : ℕ) (held : OpenStage S) → Some at ≡ position_from (λ (stage : OpenStage S). stage.number == number) 0 stages
      → slice_get stages at ≡ Some held → (same : Bool) → is_same_session held.dump session ≡ same
      → without_stage stages session number ≡ (if same then remove stages at else stages)
  without_there at held e there same is =
      ap without_at (sym e) ∙ ap (without_found at) there ∙ ap (λ (b : Bool). if b then remove stages at else stages) is

  pub left_found : (at : ℕ) → Some at ≡ position_from (λ (stage : OpenStage S). stage.number == number) 0 stages
      → ((held : OpenStage S) → slice_get stages at ≡ Some held → is_same_session held.dump session ≡ true)
      → remove stages at ≡ without_stage stages session number
  left_found at e of_dump =
      let w = position-found (λ (stage : OpenStage S). stage.number == number) stages at (sym e) in
      sym (without_there at w.0 e w.1 true (of_dump w.0 w.1))

  pub left_none : ((at : ℕ) (held : OpenStage S) → Some at ≡ position_from (λ (stage : OpenStage S). stage.number == number) 0 stages
      → slice_get stages at ≡ Some held → is_same_session held.dump session ≡ false) → stages ≡ without_stage stages session number
  left_none none = step (position_from (λ (stage : OpenStage S). stage.number == number) 0 stages) refl
    where
      step : (place : Option ℕ) → position_from (λ (stage : OpenStage S). stage.number == number) 0 stages ≡ place
          → stages ≡ without_stage stages session number
      step None e = sym (ap without_at e)
      step (Some at) e =
          let w = position-found (λ (stage : OpenStage S). stage.number == number) stages at e in
          sym (without_there at w.0 (sym e) w.1 false (none at w.0 (sym e) w.1))

-- ---- in the model

-- if the stage is one of the dump, or not, or isn't there
abbrev of_found : SessionName → Judged (At Stage) → List Stage → List Stage
of_found session found stages =
    PutEvent.without_stage (found >>= λ stage. breaks NoSession (not (is_same_session stage.value.dump session)) >> Ok stage) stages

module _ {D N S : Type 0} {d : DiskGhosts D} {n : NamerGhosts N S} where
  module _ (old new : StoreParts D N S d n) (session : SessionName) (file : StagedFile) (same : OnlyStages old.sessions new.sessions)
      (items : new.sessions.stages.items.items ≡ without_stage old.sessions.stages.items.items session file.stage)
      (next : new.sessions.stages.next ≡ old.sessions.stages.next) (office : Office) (names : Names) (at : IsRunning old office names) where
    abbrev model_left : List Stage
    model_left = PutEvent.without_stage (PutEvent.stage_of office.stages session file.stage) office.stages

    abbrev Are : List Stage → Type 0
    Are stages = AreSessions n.holds (given (slots old)) (contents_of at.all) (staging_of at.all names)
        (record office.volatile { stages = stages }) new.sessions

    kept : new.sessions.stages.items.items ≡ old.sessions.stages.items.items → Are office.stages
    kept is = AreSessions-stages_kept old.sessions new.sessions same n.holds (given (slots old)) (contents_of at.all)
        (staging_of at.all names) office.volatile at.sessions is next

    place_same : stage_index office.stages file.stage ≡ stage_place old file.stage
    place_same = stage_index-sessions n.holds (staging_of at.all names).staged office.stages old.sessions.stages.items.items
        at.sessions.stages file.stage

    there : (p : ℕ) (held : OpenStage S) (e : Some p ≡ stage_place old file.stage)
        → slice_get old.sessions.stages.items.items p ≡ Some held → (of_dump : Bool) → is_same_session held.dump session ≡ of_dump
        → Are model_left
    there p held e at_p of_dump is =
        let f : IsStageFound old office names at file.stage p held = stage_found old office names at file.stage p held e at_p in
        let same_dump : is_same_session f.value.dump session ≡ of_dump =
        ap (λ (s : SessionName). is_same_session s session) (sym f.is.dump) ∙ is in
        let left : without_stage old.sessions.stages.items.items session file.stage
        ≡ (if of_dump then remove old.sessions.stages.items.items p else old.sessions.stages.items.items) =
        without_there old.sessions.stages.items.items session file.stage p held e at_p of_dump is in
        subst Are (sym (ap (λ (j : Judged (At Stage)). of_found session j office.stages) f.is_at
        ∙ ap (λ (b : Bool). PutEvent.without_stage (breaks NoSession (not b) >> Ok (record { index = p; value = f.value })) office.stages) same_dump))
        (by_dump of_dump (items ∙ left))
      where
        by_dump : (b : Bool)
            → new.sessions.stages.items.items ≡ (if b then remove old.sessions.stages.items.items p else old.sessions.stages.items.items)
            → Are (PutEvent.without_stage (breaks NoSession (not b) >> Ok (record {
              index = p;
              value = (stage_found old office names at file.stage p held e at_p).value;
            })) office.stages)
        by_dump true is = AreSessions-stage_taken old.sessions new.sessions same n.holds (given (slots old)) (contents_of at.all)
            (staging_of at.all names) office.volatile at.sessions p is next
        by_dump false is = kept is

    sessions_left : Are model_left
    sessions_left = step (stage_place old file.stage) refl
      where
        step : (place : Option ℕ) → stage_place old file.stage ≡ place → Are model_left
        step None e =
            subst Are (sym (ap (λ (p : Option ℕ). of_found session (stage_in NoSession office.stages p) office.stages) (place_same ∙ e)))
            (kept (items ∙ ap (without_at old.sessions.stages.items.items session file.stage) e))
        step (Some p) e =
            let w = position-found (λ (stage : OpenStage S). stage.number == file.stage) old.sessions.stages.items.items p e in
            there p w.0 (sym e) w.1 (is_same_session w.0.dump session) refl

  module _ (old : StoreParts D N S d n) (session : SessionName) (path : List ℕ) (file : StagedFile) (token : Option Token) (index : ℕ)
      (dump : OpenDump) (e : Some index ≡ dump_place old session) (there_is : slice_get old.sessions.dumps.items index ≡ Some dump) where
    -- an earlier put or removal had its token
    pub runs_again : judged_token dump.kept token ≡ Kept → (new : StoreParts D N S d n) → OnlySessions old new
        → OnlyStages old.sessions new.sessions
        → new.sessions.stages.items.items ≡ without_stage old.sessions.stages.items.items session file.stage
        → new.sessions.stages.next ≡ old.sessions.stages.next → Runs old (Put session path (Staged file) token) (Ok Done) new
    runs_again kept new only same items next = runs_opened old new (Put session path (Staged file) token) (stays_sessions old new only)
        (counted_sessions old new only) (λ e. e) Done
        (λ office names at. record {
          now = record office.volatile {
            stages = PutEvent.without_stage (PutEvent.stage_of office.stages session file.stage) office.stages;
          };
          names' = names;
          judged = carried_kept old session token index dump e there_is office names at (PutEvent.repeated session (Staged file) office)
              (PutEvent.put session path (Staged file) office names) kept;
          renamed = (
            refl,
            still_named_if office names (PutEvent.carried session path (Staged file) token office names)
                (stage_content office.stages file.stage),
          );
          alike = alike_still names;
          sessions = sessions_left old new session file same items next office names at;
          claimed = λ id.
              ap (λ (p : StoreParts D N S d n). claims_of (slots p id)) only ∙ at.claimed id
              ∙ sym (claims_in-stages old.sessions new.sessions same id);
        }) refl
