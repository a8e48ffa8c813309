use Rattle.std.proofs.Common.{◌≡◌, drop}
use Rattle.disk_trait.specs.Maps.{files_of}
use Rattle.disk_trait.specs.Log.{calls_of, files_after}
use Rattle.disk_trait.proofs.log.replay.Given as goal

abbrev pub invariant-loop-entry : goal.invariant-loop-entry
invariant-loop-entry l =
    files_after (files_of l.files) (calls_of l.bytes (drop l.entry-index l.entries)) ≡ files_after (files_of l.initial.files) (calls_of l.bytes l.entries)
