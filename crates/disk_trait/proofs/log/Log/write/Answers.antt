use Rattle.std.proofs.Common.{List, Some, ap, ◌∙◌}
use Rattle.disk_trait.specs.Images.{FileSet}
use Rattle.disk_trait.specs.Log.{Call}
use Rattle.disk_trait.proofs.Records.{kept_after, kept_files, kept_uncertain, kept_elapses}
use Rattle.disk_trait.proofs.log.Log.write.Goals as goal

pub returns-clause-told : goal.returns-clause-told
returns-clause-told c =
    let kept = kept_after c.lay-span.ensures.start_same c.lay-span.ensures.calls_same (ap (λ (b : List _). Call.Changed c.args.file (Some b)) c.lay-span.ensures.held) c.keep.ensures.start_same c.keep.ensures.calls_more in
    kept_files c.args.self.now c.keep.new.self (Call.Changed c.args.file (Some c.args.bytes.now)) kept.0 kept.1

pub returns-clause-certain : goal.returns-clause-certain
returns-clause-certain c =
    let kept = kept_after c.lay-span.ensures.start_same c.lay-span.ensures.calls_same (ap (λ (b : List _). Call.Changed c.args.file (Some b)) c.lay-span.ensures.held) c.keep.ensures.start_same c.keep.ensures.calls_more in
    record { each = λ asked out. ap (λ (set : FileSet). set asked) (kept_uncertain c.args.self.now c.keep.new.self (Call.Changed c.args.file (Some c.args.bytes.now)) kept.1) ∙ out }

pub returns-clause-time : goal.returns-clause-time
returns-clause-time c =
    let kept = kept_after c.lay-span.ensures.start_same c.lay-span.ensures.calls_same (ap (λ (b : List _). Call.Changed c.args.file (Some b)) c.lay-span.ensures.held) c.keep.ensures.start_same c.keep.ensures.calls_more in
    kept_elapses c.args.self.now c.keep.new.self (Call.Changed c.args.file (Some c.args.bytes.now)) kept.0 kept.1
