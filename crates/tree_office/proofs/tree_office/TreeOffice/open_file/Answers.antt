use Rattle.std.proofs.Common.{◌≡◌, Ok, sym, subst}
use Rattle.office_model.specs.declared.event.Event.TheVariants.{OpenFile}
use Rattle.office_model.specs.Office.{AreGivenOut}
use Rattle.office_model.specs.Step.{IsStep}
use Rattle.office_model.specs.events.OpenFile.{carried}
use Rattle.tree_office.specs.declared.names.Numbers.{Numbers}
use Rattle.tree_office.specs.Names.{AreNames, Named, Table, with_reader_counted, state_of}
use Rattle.tree_office.proofs.StepLaws.{reader_counts, names_open_file, step_open_file}
use Rattle.tree_office.proofs.tree_office.TreeOffice.open_file.Goals as goal

pub open_file-requires : goal.open_file-requires
open_file-requires g c = subst (λ (n : Numbers). AreGivenOut n.stage n.reader c.self.inside.office.volatile) (sym c.numbers-numbers.ensures) c.self.invariant.given

pub count_reader-requires : goal.count_reader-requires
count_reader-requires g c = reader_counts c.args.name.now c.args.number c.args.path.now c.self.inside.table.numbers.reader c.self.inside.office (record { answer = c.in_ok-answer.answer; after = c.open_file.new.self })
    (subst (λ (n : Numbers). carried c.args.name.now c.args.number c.args.path.now n.reader c.self.inside.office ≡ Ok (record { answer = c.in_ok-answer.answer; after = c.open_file.new.self })) c.numbers-numbers.ensures c.in_ok-answer.ensures)

pub invariant_of-self-2 : goal.invariant_of-self-2
invariant_of-self-2 g c = subst (AreNames g.N.Namer.digest_of c.open_file.new.self) (sym c.count_reader.ensures)
    (names_open_file g.N.Namer.digest_of c.self.inside.office c.self.inside.table c.self.invariant c.args.name.now c.args.number c.args.path.now c.in_ok-answer.answer c.open_file.new.self c.sound.ensures
    (subst (λ (n : Numbers). carried c.args.name.now c.args.number c.args.path.now n.reader c.self.inside.office ≡ Ok (record { answer = c.in_ok-answer.answer; after = c.open_file.new.self })) c.numbers-numbers.ensures c.in_ok-answer.ensures))

pub returns-clause-step : goal.returns-clause-step
returns-clause-step g c =
    subst (λ (t : Table). IsStep (state_of g.N.Namer.digest_of c.args.self.now) (OpenFile c.args.name.now c.args.number c.args.path.now) (Ok c.in_ok-answer.answer)
    (state_of g.N.Namer.digest_of (record { office = c.open_file.new.self; table = t }))) (sym c.count_reader.ensures)
    (subst (λ (s : Named). IsStep (state_of g.N.Namer.digest_of s) (OpenFile c.args.name.now c.args.number c.args.path.now) (Ok c.in_ok-answer.answer)
    (state_of g.N.Namer.digest_of (record { office = c.open_file.new.self; table = with_reader_counted c.self.inside.table }))) c.self.view_is
    (step_open_file g.N.Namer.digest_of c.self.inside.office c.self.inside.table c.self.invariant c.args.name.now c.args.number c.args.path.now c.in_ok-answer.answer c.open_file.new.self
    (subst (λ (n : Numbers). carried c.args.name.now c.args.number c.args.path.now n.reader c.self.inside.office ≡ Ok (record { answer = c.in_ok-answer.answer; after = c.open_file.new.self })) c.numbers-numbers.ensures c.in_ok-answer.ensures)))
