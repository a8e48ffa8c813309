use Rattle.std.proofs.Common.{rules, sym, ◌∙◌}
use Rattle.http_bodies.proofs.ReadLemmas.{FillsPiece-step, StopsAfter-step, FillsPiece-none, ReadsPiece-filled}
use Rattle.http_bodies.proofs.pieces.fill.Goals as goal

pub loop-alloc-preserved : goal.loop-alloc-preserved
loop-alloc-preserved g c =
    let so_far = c.loop-alloc.invariant in
    let steps = c.in-Ok.ensures.steps in
    record {
      fits = search rules;
      fills = λ body' left' has fills. so_far.fills body' left' has (FillsPiece-step _ _ _ _ _ _ _ _ _ steps fills);
      stops = λ left' stop stops. so_far.stops left' stop (StopsAfter-step _ _ _ _ _ _ _ _ steps stops);
      written = search rules;
      same = search rules;
    }

pub returns-clause-read : goal.returns-clause-read
returns-clause-read g c =
    ReadsPiece-filled _ _ _ _ _ _ c.requires
    (c.loop-alloc.invariant.fills _ _ _
    (FillsPiece-none c.loop-alloc.body c.loop-alloc.piece.items _ _ (search rules) c.loop-alloc.invariant.fits
    (sym c.is_filled.ensures ∙ (search rules))))
