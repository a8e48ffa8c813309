-- Which frame is given, by what is left.
use Rattle.std.proofs.Common.{rules, refl, ◌∙◌}
use Rattle.restore_stream.proofs.FrameLaws.{ended, piece_given, end_given, row_given, no_bytes, piece_fits}
use Rattle.restore_stream.proofs.frames.FrameCursor.next_frame.Goals as goal

pub returns-then-self-clause-none : goal.returns-then-self-clause-none
returns-then-self-clause-none c none = ended _ _ _ _ _ c.if-self.true c.self.view_is

pub returns-then-self-gt0-clause-next : goal.returns-then-self-gt0-clause-next
returns-then-self-gt0-clause-next c =
    piece_given c.self.inside.rest.now _ _ _ _ _ _ c.if-self.false c.if-self-gt0.true
    (c.in_ok-piece.ensures ∙ c.split_piece.ensures.front) c.split_piece.ensures.behind c.self.view_is

pub returns-in-empty-clause-next : goal.returns-in-empty-clause-next
returns-in-empty-clause-next c = end_given c.self.inside.rest.now _ _ _ _ c.if-self.false (no_bytes _ c.if-self-gt0.false)
    (search rules) c.self.view_is

pub returns-in_ok-node-in-len1-up-clause-next : goal.returns-in_ok-node-in-len1-up-clause-next
returns-in_ok-node-in-len1-up-clause-next c =
    row_given c.self.inside.rest.now c.self.inside.rows.now _ c.row-item.result _ _ _ _ _ _ c.if-self.false (no_bytes _ c.if-self-gt0.false)
    c.in-len1-up.len_at_least c.row-item.is refl (search rules) (search rules) (search rules) c.self.view_is

pub returns-then-self-gt0-clause-fits : goal.returns-then-self-gt0-clause-fits
returns-then-self-gt0-clause-fits c =
    piece_fits c.self.inside.rest.now _ c.if-self-gt0.true (c.in_ok-piece.ensures ∙ c.split_piece.ensures.front)
