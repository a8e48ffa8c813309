use Rattle.std.proofs.Common.{ap, ◌∙◌, refl}
use Rattle.disk_trait.specs.Images.{FileSet}
use Rattle.disk_trait.specs.Log.{Call, calls_of}
use Rattle.disk_trait.proofs.Records.{kept_after, kept_files, kept_uncertain, kept_elapses}
use Rattle.disk_trait.proofs.log.Log.miss.Goals as goal

pub returns-in-Ok-clause-same : goal.returns-in-Ok-clause-same
returns-in-Ok-clause-same c =
    let kept = kept_after refl (ap (calls_of c.args.self.now.bytes.items) c.reserve.ensures.items) refl c.note.ensures.start_same c.note.ensures.calls_more in
    kept_files c.args.self.now c.note.new.self (Call.Missed c.args.file) kept.0 kept.1

pub returns-in-Ok-clause-certain : goal.returns-in-Ok-clause-certain
returns-in-Ok-clause-certain c =
    let kept = kept_after refl (ap (calls_of c.args.self.now.bytes.items) c.reserve.ensures.items) refl c.note.ensures.start_same c.note.ensures.calls_more in
    record { each = λ asked out. ap (λ (set : FileSet). set asked) (kept_uncertain c.args.self.now c.note.new.self (Call.Missed c.args.file) kept.1) ∙ out }

pub returns-in-Ok-clause-time : goal.returns-in-Ok-clause-time
returns-in-Ok-clause-time c =
    let kept = kept_after refl (ap (calls_of c.args.self.now.bytes.items) c.reserve.ensures.items) refl c.note.ensures.start_same c.note.ensures.calls_more in
    kept_elapses c.args.self.now c.note.new.self (Call.Missed c.args.file) kept.0 kept.1
