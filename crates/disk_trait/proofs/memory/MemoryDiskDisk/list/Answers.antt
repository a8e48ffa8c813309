use Rattle.std.proofs.Common.{ap, ◌∙◌}
use Rattle.disk_trait.specs.declared.memory.MemoryDisk.{MemoryDisk}
use Rattle.disk_trait.proofs.Memories.{still}
use Rattle.disk_trait.proofs.memory.MemoryDiskDisk.list.Goals as goal

pub returns-then-is_listed-clause-time : goal.returns-then-is_listed-clause-time
returns-then-is_listed-clause-time c = still c.args.self.now _ (ap (λ (disk : MemoryDisk). disk.log) c.fault.ensures.counted ∙ ap (λ (disk : MemoryDisk). disk.log) c.is_listed.ensures.called)

pub returns-in-Ok-clause-time : goal.returns-in-Ok-clause-time
returns-in-Ok-clause-time c = still c.args.self.now _ (ap (λ (disk : MemoryDisk). disk.log) c.is_listed.ensures.called)

pub returns-in-Err-clause-time : goal.returns-in-Err-clause-time
returns-in-Err-clause-time c = still c.args.self.now _ (ap (λ (disk : MemoryDisk). disk.log) c.is_listed.ensures.called)
