use Rattle.std.proofs.Common.{rules, Ok, Err}
use Rattle.http_wire.specs.Wires.{left_of}
use Rattle.browse_http.proofs.StageLemmas.{CallsBody-more, CallsBody-stop, CallsBody-last, CallsBody-refused}
use Rattle.browse_http.proofs.stages.put_pieces.Goals as goal

pub returns-in-Err-clause-calls : goal.returns-in-Err-clause-calls
returns-in-Err-clause-calls g c =
    c.loop-piece.invariant.calls c.drop_stage.new.port c.next_piece.new.body (left_of c.next_piece.new.wire) (Err c.in-Err.stop)
    (CallsBody-stop c.args.put c.args.stage _ _ _ _ c.next_piece.new.body _ _ _ c.drop_stage.ensures.0 c.in-Err.ensures.stops c.drop_stage.ensures.1)

pub returns-then-len-lt-PIECE_SIZE-clause-calls : goal.returns-then-len-lt-PIECE_SIZE-clause-calls
returns-then-len-lt-PIECE_SIZE-clause-calls g c =
    c.loop-piece.invariant.calls c.put_last.new.port c.next_piece.new.body (left_of c.next_piece.new.wire) (Ok c.put_last.result)
    (CallsBody-last c.args.put c.args.stage _ _ _ _ _ _ _ _ _ c.in-Ok.ensures.read (search rules) c.put_last.ensures)

pub loop-piece-preserved : goal.loop-piece-preserved
loop-piece-preserved g c =
    let so_far = c.loop-piece.invariant in
    record {
      calls = λ new body' left' result later.
          so_far.calls new body' left' result
          (CallsBody-more c.args.put c.args.stage _ g.met.P.Port.joined _ _ _ _ _ _ _ _ _ _ c.in-Ok-send_piece.ensures.ok.0 result c.in-Ok.ensures.read (search rules)
          c.in-Ok-send_piece.ensures.ok.1 later);
      written = search rules;
      same = search rules;
    }

pub returns-in-Err-send_piece-clause-calls : goal.returns-in-Err-send_piece-clause-calls
returns-in-Err-send_piece-clause-calls g c =
    c.loop-piece.invariant.calls c.send_piece.new.port c.drop_rest.new.body (left_of c.drop_rest.new.wire) c.drop_rest.result
    (CallsBody-refused c.args.put c.args.stage _ _ _ _ _ _ _ _ _ _ _ c.drop_rest.result c.in-Ok.ensures.read (search rules) c.in-Err-send_piece.ensures.err
    c.drop_rest.ensures.dropped)
