-- Laws of specs/Committing.
use Rattle.std.specs.Prelude.{◌≡◌, ℕ, Some, slice_get}
use Rattle.std.proofs.Common.{sym}
use Rattle.disk_trait.specs.declared.disk.Disk.{Ghosts as DiskGhosts}
use Rattle.pool_name.specs.declared.namer.Namer.{Ghosts as NamerGhosts}
use Rattle.open_sessions.specs.declared.sessions.OpenDump.{OpenDump}
use Rattle.office_model.specs.Office.{Office, Names}
use Rattle.office_model.specs.PairsLaws.{other_at}
use Rattle.store_parts.specs.declared.parts.StoreParts.{StoreParts}
use Rattle.store_parts.specs.States.{IsRunning}
use Rattle.store_commits.specs.Committing.{IsMeant}

module _ {D N S : Type 0} {d : DiskGhosts D} {n : NamerGhosts N S} where
  pub meant : (parts : StoreParts D N S d n) (place : ℕ) (session : OpenDump) (office : Office) (names : Names)
      (at : IsRunning parts office names) → slice_get parts.sessions.dumps.items place ≡ Some session
      → IsMeant parts place session office names at
  meant parts place session office names at e =
      let w = other_at parts.sessions.dumps.items office.dumps place session (sym at.sessions.dumps.counted) e in
      let hosted = at.sound.hosted place w.0 w.1 in
      record {
        dump = w.0;
        there = w.1;
        is = at.sessions.dumps.each place w.0 session w.1 e;
        host = hosted.host;
        here = hosted.is_host;
        number = hosted.has_number;
        unspent = hosted.unspent;
      }
