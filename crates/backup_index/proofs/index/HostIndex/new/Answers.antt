-- Lines that break no rule are sound.
use Rattle.std.proofs.Common.{sym, subst}
use Rattle.backup_index.specs.Lines.{IsSound}
use Rattle.backup_index.specs.LinesLaws.{sound_from_none}
use Rattle.backup_index.proofs.index.HostIndex.new.Goals as goal

pub from_sound-requires : goal.from_sound-requires
from_sound-requires c = subst (IsSound c.args.next) c.lines-2.ensures (sound_from_none _ _ (sym c.in-None.ensures))
