use Rattle.disk_trait.specs.Log.{log_start, log_calls, log_files}
use Rattle.disk_trait.proofs.Memories.{left_at}
use Rattle.disk_trait.proofs.memory.MemoryDisk.image.Goals as goal

pub returns-in-Ok-clause-left : goal.returns-in-Ok-clause-left
returns-in-Ok-clause-left c = λ since before.
    left_at (log_start c.args.self.now.log) (log_calls c.args.self.now.log) c.args.moment since c.args.choice (log_files c.in-Ok.log) before c.requires c.in-Ok.ensures.files
