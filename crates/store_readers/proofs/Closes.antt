-- What a close leaves.
use Rattle.std.specs.Prelude.{◌≡◌, ◌≤◌, ℕ, Some, Ok, Err, slice_get}
use Rattle.std.specs.List.{remove}
use Rattle.std.proofs.Common.{refl, arith}
use Rattle.disk_trait.specs.declared.ids.PoolId.{PoolId}
use Rattle.disk_trait.specs.declared.disk.Disk.{Ghosts as DiskGhosts}
use Rattle.pool_name.specs.declared.namer.Namer.{Ghosts as NamerGhosts}
use Rattle.pool_changes.specs.Slots.{claims_of}
use Rattle.open_sessions.specs.declared.readers.OpenReader.{OpenReader}
use Rattle.open_sessions.specs.Opened.{OnlyReaders}
use Rattle.open_sessions.specs.SessionLaws.{claims_in_readers-remove}
use Rattle.open_sessions.specs.ReaderCallLaws.{AreSessions-reader_taken, claims_in-reader_taken}
use Rattle.office_model.specs.declared.answer.Answer.TheVariants.{Done}
use Rattle.office_model.specs.declared.event.Event.TheVariants.{CloseFile}
use Rattle.office_model.specs.declared.refusal.BrokenRule.TheVariants.{NoSession}
use Rattle.office_model.specs.Office.{Office, Names}
use Rattle.office_model.specs.Parts.{reader_at}
use Rattle.office_model.specs.events.CloseFile as CloseFileEvent
use Rattle.office_files.specs.Pooled.{contents_of}
use Rattle.store_parts.specs.declared.parts.StoreParts.{StoreParts}
use Rattle.store_parts.specs.Held.{given}
use Rattle.store_parts.specs.States.{slots, IsRunning, staging_of}
use Rattle.store_parts.specs.Runs.{Runs}
use Rattle.store_parts.specs.FoundLaws.{reader_place, reader_found}
use Rattle.store_parts.specs.OpenLaws.{alike_still}
use Rattle.store_dumps.specs.Claims.{LetsGo, claims_of_content}
use Rattle.store_readers.specs.Opening.{OnlyOpen}
use Rattle.store_readers.proofs.Running.{near_lost, quiet_same, counted_same, still_stays, Makes, runs_made}

-- there is no such reader
pub no_reader_close : (number : ℕ) (office : Office) (names : Names) → reader_at office.readers number ≡ Err NoSession
    → CloseFileEvent.carried number office ≡ Err NoSession
no_reader_close number office names e = rw e refl

module _ {D N S : Type 0} {d : DiskGhosts D} {n : NamerGhosts N S} (old : StoreParts D N S d n) (number : ℕ) (new : StoreParts D N S d n)
    (index : ℕ) (reader : OpenReader S) (e : Some index ≡ reader_place old number)
    (there : slice_get old.sessions.readers.items.items index ≡ Some reader) (only : OnlyOpen old new)
    (go : ((id : PoolId) → claims_of_content reader.content id ≤ claims_of (slots old id))
    → LetsGo (λ id. claims_of_content reader.content id) (slots old) (slots new))
    (readers : new.sessions.readers.items.items ≡ remove old.sessions.readers.items.items index)
    (next : new.sessions.readers.next ≡ old.sessions.readers.next) (others : OnlyReaders old.sessions new.sessions) where
  closed : (office : Office) (names : Names) → IsRunning old office names → Makes old (CloseFile number) Done office names new
  closed office names at =
      let gone : LetsGo (λ id. claims_of_content reader.content id) (slots old) (slots new) =
      go (λ id. omega (arith, at.claimed id, claims_in_readers-remove old.sessions.readers.items.items id index reader there)) in
      let found = reader_found old office names at number index reader e there in
      record {
        at = at;
        stays = still_stays old new only (near_lost (slots old) (slots new) (λ id. claims_of_content reader.content id) gone);
        opens = record {
          now = record office.volatile { readers = remove office.readers index };
          names' = names;
          judged = rw found.is_at refl;
          renamed = refl;
          alike = alike_still names;
          sessions = AreSessions-reader_taken old.sessions new.sessions others n.holds (given (slots old)) (contents_of at.all)
              (staging_of at.all names) office.volatile at.sessions index readers next;
          claimed = λ id. omega (
            arith,
            (gone id).claims,
            at.claimed id,
            claims_in-reader_taken old.sessions new.sessions others id index reader there readers,
          );
        };
      }

  pub runs_closed : Runs old (CloseFile number) (Ok Done) new
  runs_closed =
      runs_made old old new (CloseFile number) (quiet_same old new only) only.halted {failed = ⊥} (counted_same old new only) (λ e. e) Done
      closed refl
