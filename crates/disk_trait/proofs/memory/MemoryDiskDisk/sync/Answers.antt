use Rattle.std.proofs.Common.{Some, ap, ◌∙◌}
use Rattle.disk_trait.specs.declared.memory.MemoryDisk.{MemoryDisk}
use Rattle.disk_trait.specs.Files.{Files}
use Rattle.disk_trait.specs.Log.{log_files}
use Rattle.disk_trait.proofs.Memories.{elapses}
use Rattle.disk_trait.proofs.memory.MemoryDiskDisk.sync.Goals as goal

pub returns-clause-same : goal.returns-clause-same
returns-clause-same c = ap (λ (files : Files). Some files) (c.sync.ensures.same ∙ ap log_files (ap (λ (disk : MemoryDisk). disk.log) c.is_refused.ensures.called))

pub returns-clause-time : goal.returns-clause-time
returns-clause-time c = elapses c.args.self.now _ c.is_refused.new.self.log (ap (λ (disk : MemoryDisk). disk.log) c.is_refused.ensures.called) c.sync.ensures.time
