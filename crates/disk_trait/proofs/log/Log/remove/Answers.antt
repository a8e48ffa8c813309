use Rattle.std.proofs.Common.{None, ap, ◌∙◌}
use Rattle.disk_trait.specs.Images.{FileSet}
use Rattle.disk_trait.specs.Log.{Call}
use Rattle.disk_trait.proofs.Records.{kept_files, kept_uncertain, kept_elapses}
use Rattle.disk_trait.proofs.log.Log.remove.Goals as goal

pub returns-clause-told : goal.returns-clause-told
returns-clause-told c = kept_files c.args.self.now c.keep.new.self (Call.Changed c.args.file None) c.keep.ensures.start_same c.keep.ensures.calls_more

pub returns-clause-certain : goal.returns-clause-certain
returns-clause-certain c = record { each = λ asked out. ap (λ (set : FileSet). set asked) (kept_uncertain c.args.self.now c.keep.new.self (Call.Changed c.args.file None) c.keep.ensures.calls_more) ∙ out }

pub returns-clause-time : goal.returns-clause-time
returns-clause-time c = kept_elapses c.args.self.now c.keep.new.self (Call.Changed c.args.file None) c.keep.ensures.start_same c.keep.ensures.calls_more
