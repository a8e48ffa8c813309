use Rattle.std.proofs.Common.{rules, ◌∙◌}
use Rattle.browse_http.proofs.StageLemmas.{ReadsAll-last, ReadsAll-more, ReadsSome-more, kept-first}
use Rattle.browse_http.proofs.bodies.read_kept.Goals as goal

pub returns-then-len-lt-PIECE_SIZE-clause-all : goal.returns-then-len-lt-PIECE_SIZE-clause-all
returns-then-len-lt-PIECE_SIZE-clause-all g c =
    (c.in-Ok.piece.items, ReadsAll-last _ _ _ _ _ c.in-Ok.ensures.read (search rules), c.truncate.ensures.items)

pub returns-in-Ok-skip_rest-clause-all : goal.returns-in-Ok-skip_rest-clause-all
returns-in-Ok-skip_rest-clause-all g c =
    let rest = c.in-Ok-skip_rest.ensures.all in (
      _,
      ReadsAll-more _ _ _ _ _ _ _ _ c.in-Ok.ensures.read (search rules) rest.1,
      c.truncate-in-Ok-skip_rest.ensures.items ∙ kept-first _ _ _ c.requires (search rules),
    )

pub returns-in-Err-skip_rest-clause-some : goal.returns-in-Err-skip_rest-clause-some
returns-in-Err-skip_rest-clause-some g c = ReadsSome-more _ _ _ _ _ _ _ c.in-Ok.ensures.read (search rules) c.in-Err-skip_rest.ensures.some
