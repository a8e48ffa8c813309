-- The dump of an office that an open dump is.
--     place_of dumps name      where memory finds the open dump of a name
--     place_is      the model finds it there, too
--     IsFound, dump_found      what the model has there
use Rattle.std.specs.Prelude.{◌≡◌, ℕ, List, Option, Some, Ok, slice_get}
use Rattle.std.specs.List.{position_from}
use Rattle.std.proofs.Common.{sym, ◌∙◌}
use Rattle.disk_trait.specs.declared.disk.Disk.{Ghosts as DiskGhosts}
use Rattle.pool_name.specs.declared.namer.Namer.{Ghosts as NamerGhosts}
use Rattle.open_sessions.specs.declared.sessions.OpenDump.{OpenDump}
use Rattle.open_sessions.specs.Opened.{IsDump}
use Rattle.open_sessions.specs.SessionLaws.{dump_index-sessions}
use Rattle.receipts.specs.Session.{is_same_session}
use Rattle.receipts.specs.declared.session.SessionName.{SessionName}
use Rattle.office_model.specs.declared.refusal.BrokenRule.TheVariants.{NoSession}
use Rattle.office_model.specs.Office.{Office, Dump, Names, dump_index}
use Rattle.office_model.specs.Parts.{dump_at}
use Rattle.office_model.specs.laws.Judging.{at_found}
use Rattle.office_model.specs.PairsLaws.{other_at}
use Rattle.office_files.specs.Pooled.{contents_of}
use Rattle.store_parts.specs.declared.parts.StoreParts.{StoreParts}
use Rattle.store_parts.specs.Held.{given}
use Rattle.store_parts.specs.States.{slots, IsRunning}

abbrev pub place_of : List OpenDump → SessionName → Option ℕ
place_of dumps name = position_from (λ dump. is_same_session dump.name name) 0 dumps

module _ {D N S : Type 0} {d : DiskGhosts D} {n : NamerGhosts N S} where
  module _ (old : StoreParts D N S d n) (session : SessionName) where
    -- the model looks where memory looked
    pub place_is : (place : Option ℕ) → place ≡ place_of old.sessions.dumps.items session
        → (office : Office) (names : Names) → IsRunning old office names → dump_index office.dumps session ≡ place
    place_is place e office names at =
        dump_index-sessions (given (slots old)) (contents_of at.all) office.dumps old.sessions.dumps.items at.sessions.dumps session ∙ sym e

    -- the dump of the model that an open dump is
    pub record IsFound (index : ℕ) (dump : OpenDump) (office : Office) (names : Names) (at : IsRunning old office names) : Type 0 where
      pub value : Dump
      pub there : slice_get office.dumps index ≡ Some value
      pub is_at : dump_at office.dumps session ≡ Ok (record { index = index; value = value })
      pub is : IsDump (given (slots old)) (contents_of at.all) value dump

    pub dump_found : (index : ℕ) (dump : OpenDump) → Some index ≡ place_of old.sessions.dumps.items session
        → slice_get old.sessions.dumps.items index ≡ Some dump
        → (office : Office) (names : Names) (at : IsRunning old office names) → IsFound index dump office names at
    dump_found index dump e there office names at =
        let w = other_at old.sessions.dumps.items office.dumps index dump (sym at.sessions.dumps.counted) there in
        record {
          value = w.0;
          there = w.1;
          is_at = at_found NoSession office.dumps (dump_index office.dumps session) index w.0 (place_is (Some index) e office names at) w.1;
          is = at.sessions.dumps.each index w.0 dump w.1 there;
        }
