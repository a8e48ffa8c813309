use Rattle.std.proofs.Common.{refl, sym}
use Rattle.store_checks.proofs.Pieces.{piece_refused, piece_past, piece_given, piece_failed, gives_past, gives_read, gives_failed, not_failed}
use Rattle.store_checks.proofs.giving.pool_piece.Goals as goal

pub returns-in-None-clause-runs : goal.returns-in-None-clause-runs
returns-in-None-clause-runs g c = piece_refused c.args.parts.now c.args.id c.args.from (sym c.in-None.ensures)

pub returns-in-None-clause-gives : goal.returns-in-None-clause-gives
returns-in-None-clause-gives g c = (refl, sym c.in-None.ensures)

pub returns-then-from-size-clause-runs : goal.returns-then-from-size-clause-runs
returns-then-from-size-clause-runs g c =
    piece_past c.args.parts.now c.args.id c.args.from c.in-Some.size (sym c.in-Some.ensures) c.if-from-size.true c.new.result
    c.new.ensures

pub returns-then-from-size-clause-gives : goal.returns-then-from-size-clause-gives
returns-then-from-size-clause-gives g c =
    gives_past c.args.parts.now c.args.id c.args.from c.in-Some.size (sym c.in-Some.ensures) c.if-from-size.true c.new.result
    c.new.ensures

pub returns-in-Ok-clause-runs : goal.returns-in-Ok-clause-runs
returns-in-Ok-clause-runs g c =
    piece_given c.args.parts.now c.args.id c.args.from c.in-Some.size (sym c.in-Some.ensures) c.if-from-size.false c.room_of.result c.room_of.ensures
    c.read_piece.new.parts c.in-Ok.ensures.looks c.in-Ok.ensures.counted (not_failed _) c.in-Ok.part c.in-Ok.ensures.piece

pub returns-in-Ok-clause-gives : goal.returns-in-Ok-clause-gives
returns-in-Ok-clause-gives g c =
    gives_read c.args.parts.now c.args.id c.args.from c.in-Some.size (sym c.in-Some.ensures) c.if-from-size.false c.room_of.result c.room_of.ensures c.in-Ok.part
    c.in-Ok.ensures.whole c.in-Ok.ensures.piece

pub returns-in-Err-clause-runs : goal.returns-in-Err-clause-runs
returns-in-Err-clause-runs g c =
    piece_failed c.args.parts.now c.args.id c.args.from c.in-Some.size (sym c.in-Some.ensures) c.if-from-size.false c.room_of.result c.room_of.ensures
    c.read_piece.new.parts c.in-Err.ensures.looks c.in-Err.refusal c.in-Err.ensures.fault c.in-Err.ensures.counted

pub returns-in-Err-clause-gives : goal.returns-in-Err-clause-gives
returns-in-Err-clause-gives g c =
    gives_failed c.args.parts.now c.args.id c.args.from c.in-Some.size (sym c.in-Some.ensures) c.if-from-size.false c.room_of.result c.room_of.ensures
    c.in-Err.refusal c.in-Err.ensures.fault
