use Rattle.std.specs.Prelude.{slice_index_or}
use Rattle.std.proofs.Common.{rules}
use Rattle.door_server.specs.declared.worker.Caller.{Caller}
use Rattle.door_server.specs.Served.{ServesCaller}
use Rattle.door_server.proofs.Zips.{zip_at, same_both}
use Rattle.door_server.proofs.beside.serve_callers.Goals as goal

pub returns : goal.returns
returns g c =
    let Row : Type 0 = Caller g.row.P.Denot g.row.T.Denot g.row.C.Denot g.row.G.Denot in
    let Serves : Row → Row → Type 0 = ServesCaller c.args.interface.now.defaults g.P.Port.moves g.T.Link.Faults g.T.Door.coming
    g.T.Door.given_back g.T.Door.faults g.C.Clock.moments in
    zip_at Serves c.args.callers.now c.for_each_mut.new.s c.for_each_mut.auto.s
    (λ i d less. let at = (c.for_each_mut.ensures i d less).1 in
    let said : Serves at.argument.now at.after_call.now = search rules in
    same_both Serves (slice_index_or c.args.callers.now i d) (slice_index_or c.for_each_mut.new.s i d) at.argument.now
    at.after_call.now at.argument_is at.left said)
