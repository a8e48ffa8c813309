-- The line follows the others.
use Rattle.backup_index.proofs.EditLaws.{append_sound}
use Rattle.backup_index.proofs.index.HostIndex.append.Goals as goal

pub invariant_of-self-in-None : goal.invariant_of-self-in-None
invariant_of-self-in-None c = append_sound _ _ _ _ c.args.line c.number_behind-next.ensures.value c.number_behind-next.ensures.small c.self.invariant c.in-None.ensures c.in_ok-push-in-None.ensures.ok
