use Rattle.std.proofs.Common.{◌∙◌, ◌∷◌, [], ◌++◌, refl, sym, ap, append_assoc}
use Rattle.std.proofs.lemmas.List.{nil_from_length}
use Rattle.std.specs.Vec.Iter.{into_iter_items}
use Rattle.folder_walk.proofs.DumpSteps.{removed_more, removed_all, removed_part}
use Rattle.folder_walk.proofs.dumping.remove_all.Goals as goal

pub loop-path-init : goal.loop-path-init
loop-path-init g c = record { left = refl; moved = g.met.P.Port.none c.args.port.now }

pub loop-path-preserved : goal.loop-path-preserved
loop-path-preserved g c = record {
  left = append_assoc c.loop-path.yielded (c.in-Some.path ∷ []) (into_iter_items c.next.new.self)
      ∙ ap (λ xs. c.loop-path.yielded ++ xs) (sym c.in-Some.ensures.steps.0) ∙ c.loop-path.invariant.left;
  moved = removed_more g.P.Port.moves g.met.P.Port.joined c.args.dump c.args.port.now c.loop-path.port c.remove.new.port c.loop-path.yielded
      c.in-Some.path c.loop-path.invariant.moved c.in-Ok.ensures.ok;
}

pub returns-in-Err-clause-removes : goal.returns-in-Err-clause-removes
returns-in-Err-clause-removes g c =
    removed_part g.P.Port.moves g.met.P.Port.joined c.args.dump c.args.port.now c.loop-path.port c.remove.new.port c.args.gone.items c.loop-path.yielded
    c.in-Some.path (into_iter_items c.next.new.self) c.in-Err.fault
    (ap (λ xs. c.loop-path.yielded ++ xs) (sym c.in-Some.ensures.steps.0) ∙ c.loop-path.invariant.left ∙ c.into_iter-path-iterator.ensures.into_iter_gives.0)
    c.loop-path.invariant.moved c.in-Err.ensures.err

pub returns-clause-removes : goal.returns-clause-removes
returns-clause-removes g c =
    removed_all g.P.Port.moves g.met.P.Port.joined c.args.dump c.args.port.now c.loop-path.port c.args.gone.items c.loop-path.yielded
    (into_iter_items c.loop-path.path-iterator) (c.loop-path.invariant.left ∙ c.into_iter-path-iterator.ensures.into_iter_gives.0)
    (nil_from_length (into_iter_items c.loop-path.path-iterator) (sym c.loop-path.path-iterator.rest.ok.0 ∙ c.in-None.ensures.steps.0))
    c.loop-path.invariant.moved
