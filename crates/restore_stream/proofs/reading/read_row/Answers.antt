-- An entry, and the pieces of its file.
use Rattle.std.proofs.Common.{ap, ◌∙◌, ◌+◌, length}
use Rattle.tree_frames.specs.Frames.{pieces}
use Rattle.restore_stream.specs.Streams.{row_layout, pieces_layout}
use Rattle.restore_stream.proofs.ReadingLaws.{reads_again}
use Rattle.restore_stream.proofs.RowReading.{entry_refuses, pieces_refuse, row_came, row_behind, sized, sized_refuses, first_at}
use Rattle.restore_stream.proofs.reading.read_row.Goals as goal

pub returns-in_err-path-clause-read : goal.returns-in_err-path-clause-read
returns-in_err-path-clause-read g c =
    reads_again (row_layout c.args.tree.now) c.args.start _ _ (λ got. got.0) _ _ c.from_residual.ensures.1
    (entry_refuses _ c.in_err-path.ensures.read)

pub returns-in_err-bytes-clause-read : goal.returns-in_err-bytes-clause-read
returns-in_err-bytes-clause-read g c =
    reads_again (row_layout c.args.tree.now) c.args.start _ _ (λ got. got.0) _ _ c.from_residual-in_err-bytes.ensures.1
    (pieces_refuse _ c.in_ok-path.ensures.read (first_at _ _ _ c.in_ok-first_piece.ensures.sum c.entry_len.ensures)
    (sized_refuses _ c.size_of.ensures c.in_err-bytes.ensures.read))

pub returns-clause-read : goal.returns-clause-read
returns-clause-read g c =
    row_came c.in_ok-bytes.bytes _ c.new.result _ c.new.ensures c.item_of.ensures (c.in_ok-bytes.ensures.len ∙ c.size_of.ensures)
    c.in_ok-path.ensures.read
    (sized _ c.size_of.ensures c.in_ok-bytes.ensures.read)

pub returns-clause-behind : goal.returns-clause-behind
returns-clause-behind g c =
    row_behind c.in_ok-path.node c.in_ok-bytes.bytes _ c.new.result _ c.args.start
    c.in_ok-first_piece.first_piece _ c.new.ensures c.item_of.ensures
    (c.in_ok-bytes.ensures.len ∙ c.size_of.ensures) (first_at _ _ _ c.in_ok-first_piece.ensures.sum c.entry_len.ensures)
    (c.in_ok-bytes.ensures.behind
    ∙ ap (λ n. c.in_ok-first_piece.first_piece + length ((pieces_layout n).print (pieces c.in_ok-bytes.bytes))) c.size_of.ensures)
