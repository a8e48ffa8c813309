use Rattle.std.proofs.Common.{◌≡◌, Ok, sym, subst}
use Rattle.office_model.specs.declared.event.Event.TheVariants.{StageOpen}
use Rattle.office_model.specs.Office.{AreGivenOut}
use Rattle.office_model.specs.Step.{IsStep}
use Rattle.office_model.specs.events.StageOpen.{carried}
use Rattle.tree_office.specs.declared.names.Numbers.{Numbers}
use Rattle.tree_office.specs.Names.{AreNames, Named, Table, with_stage_counted, state_of}
use Rattle.tree_office.proofs.StepLaws.{stage_counts, names_stage_open, step_stage_open}
use Rattle.tree_office.proofs.tree_office.TreeOffice.stage_open.Goals as goal

pub stage_open-requires : goal.stage_open-requires
stage_open-requires g c = subst (λ (n : Numbers). AreGivenOut n.stage n.reader c.self.inside.office.volatile) (sym c.numbers.ensures) c.self.invariant.given

pub count_stage-requires : goal.count_stage-requires
count_stage-requires g c = stage_counts c.args.session c.self.inside.table.numbers.stage c.self.inside.office (record { answer = c.in_ok-answer.answer; after = c.stage_open.new.self })
    (subst (λ (n : Numbers). carried c.args.session n.stage c.self.inside.office ≡ Ok (record { answer = c.in_ok-answer.answer; after = c.stage_open.new.self })) c.numbers.ensures c.in_ok-answer.ensures)

pub invariant_of-self-2 : goal.invariant_of-self-2
invariant_of-self-2 g c = subst (AreNames g.N.Namer.digest_of c.stage_open.new.self) (sym c.count_stage.ensures)
    (names_stage_open g.N.Namer.digest_of c.self.inside.office c.self.inside.table c.self.invariant c.args.session c.in_ok-answer.answer c.stage_open.new.self c.sound.ensures
    (subst (λ (n : Numbers). carried c.args.session n.stage c.self.inside.office ≡ Ok (record { answer = c.in_ok-answer.answer; after = c.stage_open.new.self })) c.numbers.ensures c.in_ok-answer.ensures))

pub returns-clause-step : goal.returns-clause-step
returns-clause-step g c =
    subst (λ (t : Table). IsStep (state_of g.N.Namer.digest_of c.args.self.now) (StageOpen c.args.session) (Ok c.in_ok-answer.answer)
    (state_of g.N.Namer.digest_of (record { office = c.stage_open.new.self; table = t }))) (sym c.count_stage.ensures)
    (subst (λ (s : Named). IsStep (state_of g.N.Namer.digest_of s) (StageOpen c.args.session) (Ok c.in_ok-answer.answer)
    (state_of g.N.Namer.digest_of (record { office = c.stage_open.new.self; table = with_stage_counted c.self.inside.table }))) c.self.view_is
    (step_stage_open g.N.Namer.digest_of c.self.inside.office c.self.inside.table c.self.invariant c.args.session c.in_ok-answer.answer c.stage_open.new.self
    (subst (λ (n : Numbers). carried c.args.session n.stage c.self.inside.office ≡ Ok (record { answer = c.in_ok-answer.answer; after = c.stage_open.new.self })) c.numbers.ensures c.in_ok-answer.ensures)))
