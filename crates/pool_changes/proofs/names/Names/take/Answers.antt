use Rattle.std.proofs.Common.{◌∙◌, None}
use Rattle.pool_changes.specs.Slots.{slots_in}
use Rattle.pool_changes.specs.SlotsLaws.{set_at}
use Rattle.pool_changes.proofs.Naming.{good_updated}
use Rattle.pool_changes.proofs.names.Names.take.Goals as goal

pub invariant_of-self : goal.invariant_of-self
invariant_of-self c =
    let both = good_updated (slots_in c.args.self.now.map) (slots_in c.remove.new.self) c.args.id None c.remove.ensures.updates.0 (λ e. absurd (cc)) (λ e. absurd (cc)) c.args.self.now.named c.args.self.now.sized in
    record { named = both.0; sized = both.1 }

pub returns-clause-set : goal.returns-clause-set
returns-clause-set c = λ asked. c.remove.ensures.updates.0 asked ∙ set_at c.args.id asked _ _
