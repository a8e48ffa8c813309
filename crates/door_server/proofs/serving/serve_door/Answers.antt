use Rattle.std.proofs.Common.{◌∙◌, refl}
use Rattle.door_server.proofs.ServingLemmas.{Counted-end, ServesDoor-none, ServesDoor-append}
use Rattle.door_server.proofs.serving.serve_door.Goals as goal

pub loop-end-init : goal.loop-end-init
loop-end-init g c = record { so_far = ServesDoor-none _ _ _ g.met.P.Port.none _ _ _ _ _ _ refl refl; same = refl }

pub loop-end-preserved : goal.loop-end-preserved
loop-end-preserved g c = record {
  so_far = ServesDoor-append _ _ _ g.met.P.Port.joined _ _ _ _ _ _ _ _ _ _ _ _ c.loop-end.invariant.so_far c.in-None.ensures.serves;
  same = c.in-None.ensures.counted.stays (λ e. let no : ⊥ = cc (e) in no) ∙ c.loop-end.invariant.same;
}

pub returns-in-Some-clause-serves : goal.returns-in-Some-clause-serves
returns-in-Some-clause-serves g c =
    ServesDoor-append _ _ _ g.met.P.Port.joined _ _ _ _ _ _ _ _ _ _ _ _ c.loop-end.invariant.so_far c.in-Some.ensures.serves

pub returns-in-Some-clause-counted : goal.returns-in-Some-clause-counted
returns-in-Some-clause-counted g c = Counted-end _ _ _ _ c.loop-end.invariant.same c.in-Some.ensures.counted
