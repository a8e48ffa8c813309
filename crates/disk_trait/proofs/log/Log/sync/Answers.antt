use Rattle.std.proofs.Common.{ap, ◌∙◌}
use Rattle.disk_trait.specs.Images.{FileSet}
use Rattle.disk_trait.specs.Log.{Call}
use Rattle.disk_trait.proofs.Records.{kept_files, kept_uncertain, kept_elapses}
use Rattle.disk_trait.proofs.log.Log.sync.Goals as goal

pub returns-clause-same : goal.returns-clause-same
returns-clause-same c = kept_files c.args.self.now c.keep.new.self (Call.Synced) c.keep.ensures.start_same c.keep.ensures.calls_more

pub returns-clause-durable : goal.returns-clause-durable
returns-clause-durable c = record { each = λ asked out. ap (λ (set : FileSet). set asked) (kept_uncertain c.args.self.now c.keep.new.self (Call.Synced) c.keep.ensures.calls_more) ∙ out }

pub returns-clause-time : goal.returns-clause-time
returns-clause-time c = kept_elapses c.args.self.now c.keep.new.self (Call.Synced) c.keep.ensures.start_same c.keep.ensures.calls_more
