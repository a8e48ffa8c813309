use Rattle.std.proofs.Common.{Some, None, ap, ◌∙◌}
use Rattle.disk_trait.specs.declared.log.Log.{Log}
use Rattle.disk_trait.specs.declared.memory.MemoryDisk.{MemoryDisk}
use Rattle.disk_trait.specs.Files.{Files, with_bytes}
use Rattle.disk_trait.specs.Log.{log_files}
use Rattle.disk_trait.proofs.Memories.{elapses}
use Rattle.disk_trait.proofs.memory.MemoryDiskDisk.remove.Goals as goal

pub returns-then-is_refused-clause-time : goal.returns-then-is_refused-clause-time
returns-then-is_refused-clause-time c = elapses c.args.self.now _ c.fault.new.self.log (ap (λ (disk : MemoryDisk). disk.log) c.fault.ensures.counted ∙ ap (λ (disk : MemoryDisk). disk.log) c.is_refused.ensures.called) c.miss.ensures.time

pub returns-clause-told : goal.returns-clause-told
returns-clause-told c = ap (λ (files : Files). Some files) (c.remove.ensures.told ∙ ap (λ (log : Log). with_bytes (log_files log) c.args.file None) (ap (λ (disk : MemoryDisk). disk.log) c.is_refused.ensures.called))

pub returns-clause-time : goal.returns-clause-time
returns-clause-time c = elapses c.args.self.now _ c.is_refused.new.self.log (ap (λ (disk : MemoryDisk). disk.log) c.is_refused.ensures.called) c.remove.ensures.time
