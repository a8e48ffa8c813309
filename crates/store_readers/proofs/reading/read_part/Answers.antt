use Rattle.std.proofs.Common.{Ok, Err, refl, ap}
use Rattle.office_model.specs.declared.answer.Answer.TheVariants.{Part}
use Rattle.store_parts.specs.RefusalLaws.{runs_broken_by}
use Rattle.store_parts.specs.RefusedLaws.{runs_no_reader}
use Rattle.store_readers.proofs.Heres.{no_reader_said, has_reader}
use Rattle.store_readers.proofs.Passing.{there_is, none_found, no_reader_read, gives_found, part_end, part_known}
use Rattle.store_readers.proofs.reading.read_part.Goals as goal

pub returns-in_err-at-clause-runs : goal.returns-in_err-at-clause-runs
returns-in_err-at-clause-runs g c = runs_broken_by _ _ _ _ _ _ c.from_residual.ensures.1 c.in_err-at.ensures.rule
    (runs_no_reader _ _ _ c.in_err-at.ensures.none (no_reader_read c.args.number))

pub returns-in-End-clause-runs : goal.returns-in-End-clause-runs
returns-in-End-clause-runs g c =
    let w = there_is c.args.parts.now.sessions.readers.items.items c.in_ok-at.at c.in_ok-at.ensures.within in
    part_end c.args.parts.now c.args.number c.in_ok-at.at w.0 c.in_ok-at.ensures.found w.1 (c.in-End.ensures.next w.0 w.1) c.new.result c.new.ensures

pub returns-in-Piece-clause-runs : goal.returns-in-Piece-clause-runs
returns-in-Piece-clause-runs g c = c.give_piece.ensures.runs c.args.number c.in_ok-at.ensures.found

pub returns-in-Wrong-clause-runs : goal.returns-in-Wrong-clause-runs
returns-in-Wrong-clause-runs g c =
    let w = there_is c.args.parts.now.sessions.readers.items.items c.in_ok-at.at c.in_ok-at.ensures.within in
    part_known c.args.parts.now c.args.number c.in_ok-at.at w.0 c.in_ok-at.ensures.found w.1 c.in-Wrong.content c.in-Wrong.digest
    (c.in-Wrong.ensures.next w.0 w.1) c.wrong_content.result c.wrong_content.ensures

pub returns-in_err-at-clause-gives : goal.returns-in_err-at-clause-gives
returns-in_err-at-clause-gives g c = λ at reader found there. absurd (none_found c.in_err-at.ensures.none found)

pub returns-in-End-clause-gives : goal.returns-in-End-clause-gives
returns-in-End-clause-gives g c =
    gives_found c.args.parts.now _ c.args.number c.in_ok-at.at c.in_ok-at.ensures.found _ (Ok (Part c.new.result)) (λ reader there. c.in-End.ensures.next reader there)
    (λ reader there. (ap Part c.new.ensures, refl))

pub returns-in-Piece-clause-gives : goal.returns-in-Piece-clause-gives
returns-in-Piece-clause-gives g c =
    gives_found c.args.parts.now _ c.args.number c.in_ok-at.at c.in_ok-at.ensures.found _ _ (λ reader there. c.in-Piece.ensures.next reader there)
    c.give_piece.ensures.gives

pub returns-in-Wrong-clause-gives : goal.returns-in-Wrong-clause-gives
returns-in-Wrong-clause-gives g c =
    gives_found c.args.parts.now _ c.args.number c.in_ok-at.at c.in_ok-at.ensures.found _ _ (λ reader there. c.in-Wrong.ensures.next reader there)
    (λ reader there. (c.wrong_content.ensures, refl))

pub returns-in_err-at-clause-here : goal.returns-in_err-at-clause-here
returns-in_err-at-clause-here g c = no_reader_said c.args.parts.now c.args.number c.from_residual.result _ c.from_residual.ensures.1

pub returns-in-End-clause-here : goal.returns-in-End-clause-here
returns-in-End-clause-here g c =
    let w = there_is c.args.parts.now.sessions.readers.items.items c.in_ok-at.at c.in_ok-at.ensures.within in
    has_reader c.args.parts.now c.args.number c.in_ok-at.at w.0 c.in_ok-at.ensures.found w.1 (Ok (Part c.new.result))

pub returns-in-Piece-clause-here : goal.returns-in-Piece-clause-here
returns-in-Piece-clause-here g c =
    let w = there_is c.args.parts.now.sessions.readers.items.items c.in_ok-at.at c.in_ok-at.ensures.within in
    has_reader c.args.parts.now c.args.number c.in_ok-at.at w.0 c.in_ok-at.ensures.found w.1 c.give_piece.result

pub returns-in-Wrong-clause-here : goal.returns-in-Wrong-clause-here
returns-in-Wrong-clause-here g c =
    let w = there_is c.args.parts.now.sessions.readers.items.items c.in_ok-at.at c.in_ok-at.ensures.within in
    has_reader c.args.parts.now c.args.number c.in_ok-at.at w.0 c.in_ok-at.ensures.found w.1 (Err c.wrong_content.result)
