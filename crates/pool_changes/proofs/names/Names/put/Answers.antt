use Rattle.std.proofs.Common.{◌≡◌, ◌<◌, ◌∙◌, true, Some, sym, ap, subst}
use Rattle.pool_changes.specs.declared.slot.Slot.{Slot}
use Rattle.pool_changes.specs.Slots.{slots_in, with_slot, is_given, size_of}
use Rattle.pool_changes.specs.SlotsLaws.{set_at}
use Rattle.pool_changes.proofs.Naming.{good_put}
use Rattle.pool_changes.proofs.names.Names.put.Goals as goal

pub invariant_of-self : goal.invariant_of-self
invariant_of-self c =
    let both = good_put c.insert.result c.args.self.now.map c.insert.new.self c.args.id c.of.result c.insert.ensures.updates c.insert.ensures.err c.is_name.ensures
    (subst (λ (slot : Slot). is_given (Some slot) ≡ true → 0 < size_of (Some slot)) (sym c.of.ensures) c.requires) c.args.self.now.named c.args.self.now.sized in
    record { named = both.0; sized = both.1 }

pub returns-in-Ok-clause-ok : goal.returns-in-Ok-clause-ok
returns-in-Ok-clause-ok c = λ asked. c.in-Ok.ensures.updates.0 asked ∙ set_at c.args.id asked _ _ ∙ ap (λ (slot : Slot). with_slot (slots_in c.args.self.now.map) c.args.id (Some slot) asked) c.of.ensures
