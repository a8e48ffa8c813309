use Rattle.std.proofs.Common.{rules}
use Rattle.browse_http.proofs.StageLemmas.{ReadsAll-last, ReadsAll-more, ReadsSome-more}
use Rattle.browse_http.proofs.bodies.skip_rest.Goals as goal

pub returns-then-len-lt-PIECE_SIZE-clause-all : goal.returns-then-len-lt-PIECE_SIZE-clause-all
returns-then-len-lt-PIECE_SIZE-clause-all g c =
    c.loop-piece.invariant.all _ _ _ (ReadsAll-last _ _ _ _ _ c.in-Ok.ensures.read (search rules))

pub loop-piece-preserved : goal.loop-piece-preserved
loop-piece-preserved g c =
    let so_far = c.loop-piece.invariant in
    record {
      all = λ body' left' got later. so_far.all body' left' _ (ReadsAll-more _ _ _ _ _ _ _ _ c.in-Ok.ensures.read (search rules) later);
      some = λ left' stop later. so_far.some left' stop (ReadsSome-more _ _ _ _ _ _ _ c.in-Ok.ensures.read (search rules) later);
      written = search rules;
      same = search rules;
    }
