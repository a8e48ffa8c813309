-- One more piece, or all of them.
use Rattle.std.proofs.Common.{rules, subst, sym, ap, ◌∙◌, ◌+◌, length}
use Rattle.tree_frames.specs.Frames.{pieces}
use Rattle.restore_stream.specs.Streams.{pieces_layout}
use Rattle.restore_stream.specs.Reading.{Finds}
use Rattle.restore_stream.proofs.ReadingLaws.{reads_again}
use Rattle.restore_stream.proofs.PieceReading.{one_piece, piece_stops, pieces_read, piece_longer}
use Rattle.restore_stream.proofs.reading.read_pieces.Goals as goal

pub returns-in_err-piece-clause-read : goal.returns-in_err-piece-clause-read
returns-in_err-piece-clause-read g c =
    reads_again (pieces_layout c.args.size) c.args.start _ _ (λ got. pieces got.0) _ _ c.from_residual.ensures.1
    (piece_stops c.piece_len-count.result _ c.loop-alloc.invariant.read (search rules) (search rules) c.in_err-piece.ensures.read)

pub loop-alloc-smaller : goal.loop-alloc-smaller
loop-alloc-smaller g c =
    piece_longer c.args.size c.piece_len-count.result c.loop-alloc.bytes.items _ _ (search rules)
    (search rules) c.in_ok-piece.ensures.read (search rules)

pub loop-alloc-preserved : goal.loop-alloc-preserved
loop-alloc-preserved g c = record {
  read = one_piece c.piece_len-count.result _ _ _ c.loop-alloc.invariant.read (search rules) (search rules) c.in_ok-piece.ensures.read
      (search rules) (search rules);
  written = c.read_piece.ensures.written ∙ c.loop-alloc.invariant.written;
  sent = c.read_piece.ensures.sent ∙ c.loop-alloc.invariant.sent;
  same = search rules;
}

pub returns-clause-read : goal.returns-clause-read
returns-clause-read g c =
    subst (λ bytes. Finds (pieces_layout c.args.size) (g.S.Faults.left c.args.source.now) (pieces bytes)
    (g.S.Faults.left c.loop-alloc.source))
    (sym c.from_vec.ensures) (pieces_read c.loop-alloc.invariant.read (search rules)).0

pub returns-clause-behind : goal.returns-clause-behind
returns-clause-behind g c =
    (pieces_read c.loop-alloc.invariant.read (search rules)).1
    ∙ ap (λ bytes. c.args.start + length ((pieces_layout c.args.size).print (pieces bytes))) (sym c.from_vec.ensures)
