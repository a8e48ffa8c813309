use Rattle.std.proofs.Common.{◌≡◌, ap, ◌∙◌}
use Rattle.disk_trait.specs.declared.log.Log.{Log}
use Rattle.disk_trait.specs.declared.memory.MemoryDisk.{MemoryDisk}
use Rattle.disk_trait.specs.Files.{Files, piece}
use Rattle.disk_trait.specs.Log.{log_files}
use Rattle.disk_trait.proofs.Memories.{still, told_one}
use Rattle.disk_trait.proofs.memory.MemoryDiskDisk.read_at.Goals as goal

pub returns-then-is_listed-clause-time : goal.returns-then-is_listed-clause-time
returns-then-is_listed-clause-time c = still c.args.self.now _ (ap (λ (disk : MemoryDisk). disk.log) c.fault.ensures.counted ∙ ap (λ (disk : MemoryDisk). disk.log) c.is_listed.ensures.called)

pub returns-in-Ok-clause-found : goal.returns-in-Ok-clause-found
returns-in-Ok-clause-found c = λ all told.
    told_one (log_files c.args.self.now.log) all (λ (files : Files). c.in-Ok.found ≡ piece (files c.args.file) c.args.from c.args.room) told
    (c.in-Ok.ensures ∙ ap (λ (log : Log). piece (log_files log c.args.file) c.args.from c.args.room) (ap (λ (disk : MemoryDisk). disk.log) c.is_listed.ensures.called))

pub returns-in-Ok-clause-time : goal.returns-in-Ok-clause-time
returns-in-Ok-clause-time c = still c.args.self.now _ (ap (λ (disk : MemoryDisk). disk.log) c.is_listed.ensures.called)

pub returns-in-Err-clause-time : goal.returns-in-Err-clause-time
returns-in-Err-clause-time c = still c.args.self.now _ (ap (λ (disk : MemoryDisk). disk.log) c.is_listed.ensures.called)
