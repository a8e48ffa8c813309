use Rattle.disk_trait.proofs.Records.{rebuilt_of}
use Rattle.disk_trait.proofs.log.Log.rebuilt.Goals as goal

pub returns-in-Ok-replay : goal.returns-in-Ok-replay
returns-in-Ok-replay c =
    rebuilt_of c.new-files.ensures c.as_slice-bytes.ensures.value c.as_slice.ensures.value c.as_slice-2.ensures.value c.in-Ok.ensures c.in-Ok-replay.ensures
