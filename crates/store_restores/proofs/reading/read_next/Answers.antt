use Rattle.std.proofs.Common.{Ok, Err, refl, ap}
use Rattle.office_model.specs.declared.answer.Answer.TheVariants.{Next as NextAnswer}
use Rattle.store_parts.specs.RefusalLaws.{runs_broken_by}
use Rattle.store_parts.specs.RefusedLaws.{runs_no_restore}
use Rattle.store_restores.proofs.Nexts.{there_is, no_restore_next, next_removal, next_entry, next_memory, next_known, none_found, gives_found}
use Rattle.store_restores.proofs.Heres.{no_restore_said, has_restore}
use Rattle.store_restores.proofs.reading.read_next.Goals as goal

pub returns-in_err-at-clause-runs : goal.returns-in_err-at-clause-runs
returns-in_err-at-clause-runs g c = runs_broken_by _ _ _ _ _ _ c.from_residual.ensures.1 c.in_err-at.ensures.rule
    (runs_no_restore _ _ _ c.in_err-at.ensures.none (no_restore_next c.args.restore))

pub returns-in-Ok-clause-runs : goal.returns-in-Ok-clause-runs
returns-in-Ok-clause-runs g c =
    let w = there_is c.args.parts.now.sessions.restores.items c.in_ok-at.at c.in_ok-at.ensures.within in
    next_removal c.args.parts.now c.args.restore c.in_ok-at.at w.0 c.in_ok-at.ensures.found w.1 _
    (record { journal = refl; pool = refl; catalog = refl; counts = refl; partials = refl; views = refl; halted = refl })
    c.in-Removal.row (c.in-Removal.ensures.is w.0 w.1) (c.in-Ok.ensures.moves w.0 w.1) c.in-Ok.frame (c.in-Ok.ensures.frame w.0 w.1)

pub returns-in-Err-clause-runs : goal.returns-in-Err-clause-runs
returns-in-Err-clause-runs g c =
    next_memory c.args.parts.now c.args.restore _
    (record { journal = refl; pool = refl; catalog = refl; counts = refl; partials = refl; views = refl; halted = refl }) c.in-Err.ensures.err

pub returns-in-Ok-give_entry-clause-runs : goal.returns-in-Ok-give_entry-clause-runs
returns-in-Ok-give_entry-clause-runs g c =
    let w = there_is c.args.parts.now.sessions.restores.items c.in_ok-at.at c.in_ok-at.ensures.within in
    next_entry c.args.parts.now c.args.restore c.in_ok-at.at w.0 c.in_ok-at.ensures.found w.1 _
    (record { journal = refl; pool = refl; catalog = refl; counts = refl; partials = refl; views = refl; halted = refl })
    c.in-Entry.row (c.in-Entry.ensures.is w.0 w.1) (c.in-Ok-give_entry.ensures.moves w.0 w.1) c.in-Ok-give_entry.frame (c.in-Ok-give_entry.ensures.frame w.0 w.1)

pub returns-in-Err-give_entry-clause-runs : goal.returns-in-Err-give_entry-clause-runs
returns-in-Err-give_entry-clause-runs g c =
    next_memory c.args.parts.now c.args.restore _
    (record { journal = refl; pool = refl; catalog = refl; counts = refl; partials = refl; views = refl; halted = refl }) c.in-Err-give_entry.ensures.err

pub returns-in-Piece-clause-runs : goal.returns-in-Piece-clause-runs
returns-in-Piece-clause-runs g c = c.give_piece.ensures.runs c.args.restore c.in_ok-at.ensures.found

pub returns-in-Wrong-clause-runs : goal.returns-in-Wrong-clause-runs
returns-in-Wrong-clause-runs g c =
    let w = there_is c.args.parts.now.sessions.restores.items c.in_ok-at.at c.in_ok-at.ensures.within in
    next_known c.args.parts.now c.args.restore c.in_ok-at.at w.0 c.in_ok-at.ensures.found w.1 c.in-Wrong.content c.in-Wrong.digest
    (c.in-Wrong.ensures.is w.0 w.1) c.wrong_content.result c.wrong_content.ensures

pub returns-in_err-at-clause-gives : goal.returns-in_err-at-clause-gives
returns-in_err-at-clause-gives g c = λ at session found there. absurd (none_found c.in_err-at.ensures.none found)

pub returns-in-Ok-clause-gives : goal.returns-in-Ok-clause-gives
returns-in-Ok-clause-gives g c =
    gives_found c.args.parts.now _ c.args.restore c.in_ok-at.at c.in_ok-at.ensures.found _ _ (λ session there. c.in-Removal.ensures.is session there)
    (λ session there. (ap NextAnswer (c.in-Ok.ensures.frame session there), c.in-Ok.ensures.moves session there))

pub returns-in-Err-clause-gives : goal.returns-in-Err-clause-gives
returns-in-Err-clause-gives g c =
    gives_found c.args.parts.now _ c.args.restore c.in_ok-at.at c.in_ok-at.ensures.found _ _ (λ session there. c.in-Removal.ensures.is session there)
    (λ session there. (refl, c.in-Err.ensures.err))

pub returns-in-Ok-give_entry-clause-gives : goal.returns-in-Ok-give_entry-clause-gives
returns-in-Ok-give_entry-clause-gives g c =
    gives_found c.args.parts.now _ c.args.restore c.in_ok-at.at c.in_ok-at.ensures.found _ _ (λ session there. c.in-Entry.ensures.is session there)
    (λ session there. (ap NextAnswer (c.in-Ok-give_entry.ensures.frame session there), c.in-Ok-give_entry.ensures.moves session there))

pub returns-in-Err-give_entry-clause-gives : goal.returns-in-Err-give_entry-clause-gives
returns-in-Err-give_entry-clause-gives g c =
    gives_found c.args.parts.now _ c.args.restore c.in_ok-at.at c.in_ok-at.ensures.found _ _ (λ session there. c.in-Entry.ensures.is session there)
    (λ session there. (refl, c.in-Err-give_entry.ensures.err))

pub returns-in-Piece-clause-gives : goal.returns-in-Piece-clause-gives
returns-in-Piece-clause-gives g c =
    gives_found c.args.parts.now _ c.args.restore c.in_ok-at.at c.in_ok-at.ensures.found _ _ (λ session there. c.in-Piece.ensures.is session there)
    c.give_piece.ensures.gives

pub returns-in-Wrong-clause-gives : goal.returns-in-Wrong-clause-gives
returns-in-Wrong-clause-gives g c =
    gives_found c.args.parts.now _ c.args.restore c.in_ok-at.at c.in_ok-at.ensures.found _ _ (λ session there. c.in-Wrong.ensures.is session there)
    (λ session there. (c.wrong_content.ensures, refl))

pub returns-in_err-at-clause-here : goal.returns-in_err-at-clause-here
returns-in_err-at-clause-here g c = no_restore_said c.args.parts.now c.args.restore c.from_residual.result _ c.from_residual.ensures.1

pub returns-in-Ok-clause-here : goal.returns-in-Ok-clause-here
returns-in-Ok-clause-here g c =
    let w = there_is c.args.parts.now.sessions.restores.items c.in_ok-at.at c.in_ok-at.ensures.within in
    has_restore c.args.parts.now c.args.restore c.in_ok-at.at w.0 c.in_ok-at.ensures.found w.1 (Ok (NextAnswer c.in-Ok.frame))

pub returns-in-Ok-give_entry-clause-here : goal.returns-in-Ok-give_entry-clause-here
returns-in-Ok-give_entry-clause-here g c =
    let w = there_is c.args.parts.now.sessions.restores.items c.in_ok-at.at c.in_ok-at.ensures.within in
    has_restore c.args.parts.now c.args.restore c.in_ok-at.at w.0 c.in_ok-at.ensures.found w.1 (Ok (NextAnswer c.in-Ok-give_entry.frame))

pub returns-in-Piece-clause-here : goal.returns-in-Piece-clause-here
returns-in-Piece-clause-here g c =
    let w = there_is c.args.parts.now.sessions.restores.items c.in_ok-at.at c.in_ok-at.ensures.within in
    has_restore c.args.parts.now c.args.restore c.in_ok-at.at w.0 c.in_ok-at.ensures.found w.1 c.give_piece.result

pub returns-in-Wrong-clause-here : goal.returns-in-Wrong-clause-here
returns-in-Wrong-clause-here g c =
    let w = there_is c.args.parts.now.sessions.restores.items c.in_ok-at.at c.in_ok-at.ensures.within in
    has_restore c.args.parts.now c.args.restore c.in_ok-at.at w.0 c.in_ok-at.ensures.found w.1 (Err c.wrong_content.result)
