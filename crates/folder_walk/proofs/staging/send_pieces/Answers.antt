use Rattle.std.specs.Prelude.{Some, None}
use Rattle.std.specs.Option.{ForSome}
use Rattle.std.proofs.Common.{refl, ◌∙◌, subst, arith}
use Rattle.folder_trait.specs.Folders.{IsPieceRead}
use Rattle.folder_walk.proofs.StageSteps.{takes_first, takes_more, takes_all, takes_gone, takes_short, takes_unread, takes_refused}
use Rattle.folder_walk.proofs.staging.send_pieces.Goals as goal

pub loop-from-init : goal.loop-from-init
loop-from-init g c = record {
  takes = takes_first g.P.Port.moves g.met.P.Port.joined g.met.P.Port.none (g.F.Folder.tree c.args.folder.now) c.args.path.now c.args.size c.args.stage
      c.args.port.now;
  same = refl;
  faultless = refl;
}

pub returns-in-Err-clause-takes : goal.returns-in-Err-clause-takes
returns-in-Err-clause-takes g c =
    takes_unread g.P.Port.moves g.met.P.Port.joined g.met.P.Port.none (g.F.Folder.tree c.args.folder.now) c.args.path.now c.args.size c.args.stage
    c.args.port.now c.loop-from.port c.loop-from.from c.in-Err.fault c.loop-from.invariant.takes c.in-Err.ensures.unrefused

pub returns-in-None-clause-takes : goal.returns-in-None-clause-takes
returns-in-None-clause-takes g c =
    takes_gone g.P.Port.moves g.met.P.Port.joined g.met.P.Port.none (g.F.Folder.tree c.args.folder.now) c.args.path.now c.args.size c.args.stage
    c.args.port.now c.loop-from.port c.loop-from.from c.next_room-room.result c.loop-from.invariant.takes
    (subst (λ told. ForSome told (λ tree. IsPieceRead tree c.args.path.now c.loop-from.from c.next_room-room.result None)) c.loop-from.invariant.same
    (subst (λ found. ForSome (g.F.Folder.tree c.loop-from.folder) (λ tree. IsPieceRead tree c.args.path.now c.loop-from.from c.next_room-room.result found))
    c.in-None.is c.in-Ok.ensures.found))

pub returns-then-is_empty-clause-takes : goal.returns-then-is_empty-clause-takes
returns-then-is_empty-clause-takes g c =
    takes_short g.P.Port.moves g.met.P.Port.joined g.met.P.Port.none (g.F.Folder.tree c.args.folder.now) c.args.path.now c.args.size c.args.stage
    c.args.port.now c.loop-from.port c.loop-from.from c.next_room-room.result c.in-Some.bytes c.loop-from.invariant.takes c.loop-from-test.true
    c.next_room-room.ensures
    (subst (λ told. ForSome told (λ tree. IsPieceRead tree c.args.path.now c.loop-from.from c.next_room-room.result (Some c.in-Some.bytes)))
    c.loop-from.invariant.same
    (subst (λ found. ForSome (g.F.Folder.tree c.loop-from.folder) (λ tree. IsPieceRead tree c.args.path.now c.loop-from.from c.next_room-room.result found))
    c.in-Some.is c.in-Ok.ensures.found))
    (c.is_empty.ensures.0 c.if-is_empty.true)

pub returns-in-Err-send_piece-clause-takes : goal.returns-in-Err-send_piece-clause-takes
returns-in-Err-send_piece-clause-takes g c =
    takes_refused g.P.Port.moves g.met.P.Port.joined g.met.P.Port.none (g.F.Folder.tree c.args.folder.now) c.args.path.now c.args.size c.args.stage
    c.args.port.now c.loop-from.port c.send_piece.new.port c.loop-from.from c.next_room-room.result c.in-Some.bytes c.in-Err-send_piece.fault
    c.loop-from.invariant.takes c.loop-from-test.true c.next_room-room.ensures
    (subst (λ told. ForSome told (λ tree. IsPieceRead tree c.args.path.now c.loop-from.from c.next_room-room.result (Some c.in-Some.bytes)))
    c.loop-from.invariant.same
    (subst (λ found. ForSome (g.F.Folder.tree c.loop-from.folder) (λ tree. IsPieceRead tree c.args.path.now c.loop-from.from c.next_room-room.result found))
    c.in-Some.is c.in-Ok.ensures.found))
    c.in-Err-send_piece.ensures.err

pub loop-from-preserved : goal.loop-from-preserved
loop-from-preserved g c = record {
  takes = takes_more g.P.Port.moves g.met.P.Port.joined g.met.P.Port.none (g.F.Folder.tree c.args.folder.now) c.args.path.now c.args.size c.args.stage
      c.args.port.now c.loop-from.port c.send_piece.new.port c.loop-from.from c.next_room-room.result c.in-Some.bytes c.loop-from.invariant.takes
      c.loop-from-test.true c.next_room-room.ensures
      (subst (λ told. ForSome told (λ tree. IsPieceRead tree c.args.path.now c.loop-from.from c.next_room-room.result (Some c.in-Some.bytes)))
      c.loop-from.invariant.same
      (subst (λ found. ForSome (g.F.Folder.tree c.loop-from.folder) (λ tree. IsPieceRead tree c.args.path.now c.loop-from.from c.next_room-room.result found))
      c.in-Some.is c.in-Ok.ensures.found))
      c.in-Ok-send_piece.ensures.ok;
  same = c.in-Ok.ensures.same ∙ c.loop-from.invariant.same;
  faultless = c.in-Ok.ensures.counted.stays (λ failed. first_of (cc, grind arith)) ∙ c.loop-from.invariant.faultless;
}

pub returns-clause-takes : goal.returns-clause-takes
returns-clause-takes g c =
    takes_all g.P.Port.moves g.met.P.Port.joined g.met.P.Port.none (g.F.Folder.tree c.args.folder.now) c.args.path.now c.args.size c.args.stage
    c.args.port.now c.loop-from.port c.loop-from.from c.loop-from.invariant.takes c.loop-from-test.false
