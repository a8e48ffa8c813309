-- What memory finds of what is open, and the model with it.
--     dump_there      the model has a dump where memory has one
--     stage_found, reader_found      the stage or the reader of the model that one of memory is
use Rattle.std.specs.Prelude.{◌≡◌, ◌==◌, ℕ, Option, Some, Ok, slice_get}
use Rattle.std.specs.List.{position_from}
use Rattle.std.proofs.Common.{sym, ◌∙◌}
use Rattle.std.proofs.lemmas.Bool.Decides.{Decides-eqb}
use Rattle.disk_trait.specs.declared.disk.Disk.{Ghosts as DiskGhosts}
use Rattle.pool_name.specs.declared.namer.Namer.{Ghosts as NamerGhosts}
use Rattle.open_sessions.specs.declared.stages.OpenStage.{OpenStage}
use Rattle.open_sessions.specs.declared.readers.OpenReader.{OpenReader}
use Rattle.open_sessions.specs.Opened.{IsStage, IsReader}
use Rattle.open_sessions.specs.SessionLaws.{dump_index-sessions, stage_index-sessions, reader_index-sessions}
use Rattle.office_model.specs.declared.refusal.BrokenRule.TheVariants.{NoSession}
use Rattle.receipts.specs.declared.session.SessionName.{SessionName}
use Rattle.receipts.specs.Session.{is_same_session}
use Rattle.office_model.specs.Office.{Office, Dump, Stage, Reader, Names, dump_index, stage_index, reader_index}
use Rattle.office_model.specs.Parts.{dump_at, stage_at, reader_at}
use Rattle.office_model.specs.PlacesLaws.{position-found}
use Rattle.office_model.specs.laws.Judging.{at_found}
use Rattle.office_files.specs.Pooled.{contents_of}
use Rattle.store_parts.specs.declared.parts.StoreParts.{StoreParts}
use Rattle.store_parts.specs.Held.{given}
use Rattle.store_parts.specs.States.{slots, staging_of, IsRunning}

module _ {D N S : Type 0} {d : DiskGhosts D} {n : NamerGhosts N S} where
  -- where memory finds each
  abbrev pub dump_place : StoreParts D N S d n → SessionName → Option ℕ
  dump_place parts name = position_from (λ dump. is_same_session dump.name name) 0 parts.sessions.dumps.items

  abbrev pub stage_place : StoreParts D N S d n → ℕ → Option ℕ
  stage_place parts number = position_from (λ stage. stage.number == number) 0 parts.sessions.stages.items.items

  abbrev pub reader_place : StoreParts D N S d n → ℕ → Option ℕ
  reader_place parts number = position_from (λ reader. reader.number == number) 0 parts.sessions.readers.items.items

  module _ (parts : StoreParts D N S d n) (office : Office) (names : Names) (at : IsRunning parts office names) where
    pub dump_there : (name : SessionName) (index : ℕ) → Some index ≡ dump_place parts name
        → (dump : Dump) × (dump_at office.dumps name ≡ Ok (record { index = index; value = dump }))
    dump_there name index e =
        let place : dump_index office.dumps name ≡ Some index =
        dump_index-sessions (given (slots parts)) (contents_of at.all) office.dumps parts.sessions.dumps.items at.sessions.dumps name
        ∙ sym e in
        let found = position-found (λ (dump : Dump). is_same_session dump.name name) office.dumps index place in
        (found.0, at_found NoSession office.dumps (dump_index office.dumps name) index found.0 place found.1)

    -- the stage of the model that is open in memory at an index
    pub record IsStageFound (number index : ℕ) (held : OpenStage S) : Type 0 where
      pub value : Stage
      pub place : stage_index office.stages number ≡ Some index
      pub there : slice_get office.stages index ≡ Some value
      pub is_at : stage_at office.stages number ≡ Ok (record { index = index; value = value })
      pub is : IsStage n.holds (staging_of at.all names).staged value held
      pub number_is : value.number ≡ number

    pub stage_found : (number index : ℕ) (held : OpenStage S) → Some index ≡ stage_place parts number
        → slice_get parts.sessions.stages.items.items index ≡ Some held → IsStageFound number index held
    stage_found number index held e there =
        let place : stage_index office.stages number ≡ Some index =
        stage_index-sessions n.holds (staging_of at.all names).staged office.stages parts.sessions.stages.items.items at.sessions.stages
        number
        ∙ sym e in
        let found = position-found (λ (stage : Stage). stage.number == number) office.stages index place in
        record {
          value = found.0;
          place = place;
          there = found.1;
          is_at = at_found NoSession office.stages (stage_index office.stages number) index found.0 place found.1;
          is = at.sessions.stages.each index found.0 held found.1 there;
          number_is = (Decides-eqb found.0.number number).0 found.2;
        }

    -- the reader of the model that is open in memory at an index
    pub record IsReaderFound (number index : ℕ) (held : OpenReader S) : Type 0 where
      pub value : Reader
      pub there : slice_get office.readers index ≡ Some value
      pub is_at : reader_at office.readers number ≡ Ok (record { index = index; value = value })
      pub is : IsReader n.holds (given (slots parts)) (contents_of at.all) value held

    pub reader_found : (number index : ℕ) (held : OpenReader S) → Some index ≡ reader_place parts number
        → slice_get parts.sessions.readers.items.items index ≡ Some held → IsReaderFound number index held
    reader_found number index held e there =
        let place : reader_index office.readers number ≡ Some index =
        reader_index-sessions (given (slots parts)) (contents_of at.all) n.holds office.readers parts.sessions.readers.items.items
        at.sessions.readers number ∙ sym e in
        let found = position-found (λ (reader : Reader). reader.number == number) office.readers index place in
        record {
          value = found.0;
          there = found.1;
          is_at = at_found NoSession office.readers (reader_index office.readers number) index found.0 place found.1;
          is = at.sessions.readers.each index found.0 held found.1 there;
        }
