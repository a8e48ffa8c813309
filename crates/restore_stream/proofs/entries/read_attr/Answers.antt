-- Five fields, one behind the other.
use Rattle.std.proofs.Common.{ap, ◌∙◌}
use Rattle.std.specs.Int.{w64}
use Rattle.std.proofs.lemmas.Int.{to_z-of_z}
use Rattle.restore_stream.specs.Streams.{attr_layout}
use Rattle.restore_stream.proofs.ReadingLaws.{reads_again, limited_fits}
use Rattle.restore_stream.proofs.EntryLaws.{mode_refuses, uid_refuses, gid_refuses, mtime_refuses, nanos_refuses, attr_came}
use Rattle.restore_stream.proofs.entries.read_attr.Goals as goal

pub returns-in_err-mode-clause-read : goal.returns-in_err-mode-clause-read
returns-in_err-mode-clause-read g c =
    reads_again attr_layout c.args.start _ _ (λ attr. attr) _ _ c.from_residual.ensures.1 (mode_refuses _ _ c.in_err-mode.ensures.read)

pub returns-in_err-uid-clause-read : goal.returns-in_err-uid-clause-read
returns-in_err-uid-clause-read g c =
    reads_again attr_layout c.args.start _ _ (λ attr. attr) _ _ c.from_residual-in_err-uid.ensures.1
    (uid_refuses _ _ c.in_ok-mode.ensures.read c.in_err-uid.ensures.read)

pub returns-in_err-gid-clause-read : goal.returns-in_err-gid-clause-read
returns-in_err-gid-clause-read g c =
    reads_again attr_layout c.args.start _ _ (λ attr. attr) _ _ c.from_residual-in_err-gid.ensures.1
    (gid_refuses _ _ c.in_ok-mode.ensures.read c.in_ok-uid.ensures.read c.in_err-gid.ensures.read)

pub returns-in_err-mtime-clause-read : goal.returns-in_err-mtime-clause-read
returns-in_err-mtime-clause-read g c =
    reads_again attr_layout c.args.start _ _ (λ attr. attr) _ _ c.from_residual-in_err-mtime.ensures.1
    (mtime_refuses _ _ c.in_ok-mode.ensures.read c.in_ok-uid.ensures.read c.in_ok-gid.ensures.read c.in_err-mtime.ensures.read)

pub returns-in_err-nanos-clause-read : goal.returns-in_err-nanos-clause-read
returns-in_err-nanos-clause-read g c =
    reads_again attr_layout c.args.start _ _ (λ attr. attr) _ _ c.from_residual-in_err-nanos.ensures.1
    (nanos_refuses _ _ c.in_ok-mode.ensures.read c.in_ok-uid.ensures.read c.in_ok-gid.ensures.read c.in_ok-mtime.ensures.read
    c.in_err-nanos.ensures.read)

pub returns-clause-read : goal.returns-clause-read
returns-clause-read g c =
    attr_came _
    (c.new.ensures ∙ ap (λ z. record {
      mode = c.in_ok-mode.mode;
      uid = c.in_ok-uid.uid;
      gid = c.in_ok-gid.gid;
      mtime = z;
      nanos = c.in_ok-nanos.nanos;
    })
    (to_z-of_z w64 c.in_ok-mtime.mtime (limited_fits _ _ _ _ c.in_ok-mtime.ensures.read).0))
    c.in_ok-mode.ensures.read c.in_ok-uid.ensures.read c.in_ok-gid.ensures.read c.in_ok-mtime.ensures.read
    c.in_ok-nanos.ensures.read
