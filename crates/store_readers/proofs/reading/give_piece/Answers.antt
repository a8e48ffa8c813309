use Rattle.std.proofs.Common.{refl, inl}
use Rattle.store_readers.proofs.Passing.{there_is, not_failed, mid_within, old_there, passed_within, room_fits, passes_part, gives_part, finds_wrong, mid_there, part_fault, part_made, part_wrong}
use Rattle.store_readers.proofs.reading.give_piece.Goals as goal

pub returns-in-Err-clause-runs : goal.returns-in-Err-clause-runs
returns-in-Err-clause-runs g c = λ number e.
    let w = there_is c.args.parts.now.sessions.readers.items.items c.args.at c.requires.there in
    part_fault c.args.parts.now number c.args.at w.0 e w.1 c.args.asked.now (c.requires.is w.0 w.1) c.read_piece.new.parts
    c.in-Err.ensures.looks c.in-Err.refusal c.in-Err.ensures.fault c.in-Err.ensures.counted

pub returns-in-Err-clause-gives : goal.returns-in-Err-clause-gives
returns-in-Err-clause-gives g c = λ reader there. inl (c.in-Err.ensures.fault, c.in-Err.ensures.looks.sessions_same)

pub pass_part-requires-clause-there : goal.pass_part-requires-clause-there
pass_part-requires-clause-there g c = mid_within c.args.parts.now c.read_piece.new.parts c.in-Ok.ensures.looks c.args.at c.requires.there

pub pass_part-requires-clause-room : goal.pass_part-requires-clause-room
pass_part-requires-clause-room g c = λ reader there.
    room_fits reader c.args.asked.now
    (c.requires.is reader (old_there c.args.parts.now c.read_piece.new.parts c.in-Ok.ensures.looks c.args.at reader there))
    c.requires.fits c.as_slice.result.now c.in-Ok.part c.as_slice.ensures c.in-Ok.ensures.whole

pub wrong_at-requires : goal.wrong_at-requires
wrong_at-requires g c =
    let w = there_is c.args.parts.now.sessions.readers.items.items c.args.at c.requires.there in
    passed_within g.N.Namer.holds g.N.Namer.digest_of w.0 c.as_slice.result.now c.read_piece.new.parts.sessions.readers.items.items
    c.pass_part.new.readers.items.items c.args.at
    (mid_within c.args.parts.now c.read_piece.new.parts c.in-Ok.ensures.looks c.args.at c.requires.there)
    (c.pass_part.ensures.passed w.0 (mid_there c.args.parts.now c.read_piece.new.parts c.in-Ok.ensures.looks c.args.at w.0 w.1))

pub returns-in-None-clause-runs : goal.returns-in-None-clause-runs
returns-in-None-clause-runs g c = λ number e.
    let w = there_is c.args.parts.now.sessions.readers.items.items c.args.at c.requires.there in
    part_made c.args.parts.now number c.args.at w.0 e w.1 c.args.asked.now (c.requires.is w.0 w.1) c.read_piece.new.parts _
    c.in-Ok.ensures.looks
    (record { journal = refl; pool = refl; catalog = refl; counts = refl; partials = refl; views = refl; halted = refl; sessions = record { dumps = refl; restores = refl; stages = refl; sequence = refl } })
    c.in-Ok.ensures.counted (not_failed _) c.in-Ok.part
    (passes_part c.args.parts.now c.read_piece.new.parts c.in-Ok.ensures.looks c.args.at w.0 w.1 c.args.asked.now c.in-Ok.part
    c.in-Ok.ensures.piece c.in-Ok.ensures.whole _ (record { dumps = refl; restores = refl; stages = refl; sequence = refl })
    c.as_slice.result.now c.as_slice.ensures c.pass_part.ensures.passed c.pass_part.ensures.next)

pub returns-in-Some-clause-runs : goal.returns-in-Some-clause-runs
returns-in-Some-clause-runs g c = λ number e.
    let w = there_is c.args.parts.now.sessions.readers.items.items c.args.at c.requires.there in
    part_wrong c.args.parts.now number c.args.at w.0 e w.1 c.args.asked.now (c.requires.is w.0 w.1) c.read_piece.new.parts _
    c.in-Ok.ensures.looks
    (record { journal = refl; pool = refl; catalog = refl; counts = refl; partials = refl; views = refl; halted = refl; sessions = record { dumps = refl; restores = refl; stages = refl; sequence = refl } })
    c.in-Ok.ensures.counted (not_failed _) c.in-Ok.part
    (passes_part c.args.parts.now c.read_piece.new.parts c.in-Ok.ensures.looks c.args.at w.0 w.1 c.args.asked.now c.in-Ok.part
    c.in-Ok.ensures.piece c.in-Ok.ensures.whole _ (record { dumps = refl; restores = refl; stages = refl; sequence = refl })
    c.as_slice.result.now c.as_slice.ensures c.pass_part.ensures.passed c.pass_part.ensures.next)
    c.in-Some.digest c.in-Some.ensures c.wrong_content.result c.wrong_content.ensures

pub returns-in-None-clause-gives : goal.returns-in-None-clause-gives
returns-in-None-clause-gives g c = λ reader there.
    gives_part c.args.parts.now _ c.args.at reader there c.args.asked.now c.in-Ok.part
    (passes_part c.args.parts.now c.read_piece.new.parts c.in-Ok.ensures.looks c.args.at reader there c.args.asked.now c.in-Ok.part
    c.in-Ok.ensures.piece c.in-Ok.ensures.whole _ (record { dumps = refl; restores = refl; stages = refl; sequence = refl })
    c.as_slice.result.now c.as_slice.ensures c.pass_part.ensures.passed c.pass_part.ensures.next) c.in-None.ensures

pub returns-in-Some-clause-gives : goal.returns-in-Some-clause-gives
returns-in-Some-clause-gives g c = λ reader there.
    finds_wrong c.args.parts.now _ c.args.at reader there c.args.asked.now c.in-Ok.part
    (passes_part c.args.parts.now c.read_piece.new.parts c.in-Ok.ensures.looks c.args.at reader there c.args.asked.now c.in-Ok.part
    c.in-Ok.ensures.piece c.in-Ok.ensures.whole _ (record { dumps = refl; restores = refl; stages = refl; sequence = refl })
    c.as_slice.result.now c.as_slice.ensures c.pass_part.ensures.passed c.pass_part.ensures.next) c.in-Some.digest c.in-Some.ensures
    c.wrong_content.result c.wrong_content.ensures
