use Rattle.std.proofs.Common.{◌≡◌, ◌∙◌, sym, ap, subst, refl, false, [], Ok, Err}
use Rattle.office_model.specs.declared.refusal.Refusal.TheVariants.{Memory}
use Rattle.office_model.specs.Ids.{Ids}
use Rattle.office_model.specs.Office.{Office, AreGivenOut, with_ids}
use Rattle.office_model.specs.Step.{IsStep}
use Rattle.tree_office.specs.declared.names.Numbers.{Numbers}
use Rattle.tree_office.specs.Names.{AreNames, Named, state_of, ids_named, pooled_in}
use Rattle.tree_office.specs.Steps.{IsMemoryStep, judged_by}
use Rattle.tree_office.proofs.StepLaws.{names_refused, step_unmoved, step_moved, names_moved}
use Rattle.tree_office.proofs.tree_office.TreeOffice.move_contents.Goals as goal

pub apply-requires : goal.apply-requires
apply-requires g c = subst (λ (n : Numbers). AreGivenOut n.stage n.reader c.self.inside.office.volatile) (sym c.numbers-numbers.ensures) c.self.invariant.given

pub invariant_of-self : goal.invariant_of-self
invariant_of-self g c =
    let made = subst (λ (n : Numbers). IsMemoryStep (judged_by g.N.Namer.digest_of false n c.args.event.now c.self.inside.office) c.self.inside.office (Ok c.in-Ok.answer) c.apply.new.self) c.numbers-numbers.ensures c.in-Ok.ensures in
    let ids = c.take_ids.ensures ∙ ap (λ (all : Ids). with_ids c.apply.new.self (pooled_in c.apply.new.self.pool all)) c.in_ok-ids.ensures in
    subst (λ (o : Office). AreNames g.N.Namer.digest_of o c.self.inside.table) (sym ids)
    (names_moved g.N.Namer.digest_of c.self.inside.office c.self.inside.table c.self.invariant c.sound.ensures c.args.event.now c.requires c.in-Ok.answer c.apply.new.self made)

pub returns-in-Ok-clause-step : goal.returns-in-Ok-clause-step
returns-in-Ok-clause-step g c =
    let made = subst (λ (n : Numbers). IsMemoryStep (judged_by g.N.Namer.digest_of false n c.args.event.now c.self.inside.office) c.self.inside.office (Ok c.in-Ok.answer) c.apply.new.self) c.numbers-numbers.ensures c.in-Ok.ensures in
    let ids = c.take_ids.ensures ∙ ap (λ (all : Ids). with_ids c.apply.new.self (pooled_in c.apply.new.self.pool all)) c.in_ok-ids.ensures in
    subst (λ (o : Office). IsStep (state_of g.N.Namer.digest_of c.args.self.now) c.args.event.now (Ok c.in-Ok.answer)
    (state_of g.N.Namer.digest_of (record { office = o; table = c.self.inside.table }))) (sym ids)
    (subst (λ (s : Named). IsStep (state_of g.N.Namer.digest_of s) c.args.event.now (Ok c.in-Ok.answer)
    (state_of g.N.Namer.digest_of (record { office = with_ids c.apply.new.self (pooled_in c.apply.new.self.pool (ids_named [] c.self.inside.table.names)); table = c.self.inside.table }))) c.self.view_is
    (step_moved g.N.Namer.digest_of c.self.inside.office c.self.inside.table c.self.invariant c.sound.ensures c.args.event.now c.requires c.in-Ok.answer c.apply.new.self made))

pub invariant_of-self-in-Err-1 : goal.invariant_of-self-in-Err-1
invariant_of-self-in-Err-1 g c =
    names_refused g.N.Namer.digest_of c.self.inside.office c.self.inside.table c.self.invariant _ c.in-Err.refusal c.apply.new.self c.in-Err.ensures

pub returns-in-Err-clause-step : goal.returns-in-Err-clause-step
returns-in-Err-clause-step g c =
    let left = subst (λ (n : Numbers). IsMemoryStep (judged_by g.N.Namer.digest_of false n c.args.event.now c.self.inside.office) c.self.inside.office (Err c.in-Err.refusal) c.apply.new.self) c.numbers-numbers.ensures c.in-Err.ensures in
    subst (λ (s : Named). IsStep (state_of g.N.Namer.digest_of s) c.args.event.now (Err c.in-Err.refusal)
    (state_of g.N.Namer.digest_of (record { office = c.apply.new.self; table = c.self.inside.table }))) c.self.view_is
    (step_unmoved g.N.Namer.digest_of c.self.inside.office c.self.inside.table c.self.invariant c.sound.ensures c.args.event.now c.requires c.in-Err.refusal c.apply.new.self left)
