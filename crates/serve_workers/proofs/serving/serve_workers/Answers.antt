use Rattle.std.proofs.Common.{◌≡◌, ◌∷◌, [], All, length, map, sym, ap, subst, ◌∙◌, arith}
use Rattle.std.proofs.lemmas.List.Elements.{All-map}
use mir.Syntax.{named, of_param}
use denote.Exit.{no, unseen}
use denote.Param.{param, copied}
use denote.Param.Send.{IsSend, IsSync, Quiet-if, sendable}
use Rattle.std.specs.contracts.result.Result as Result
use Rattle.std.specs.contracts.snapshot.Snapshot as Snapshot
use Rattle.office_model.specs.contracts.answer.Answer as Answer
use Rattle.office_model.specs.contracts.event.Event as Event
use Rattle.office_model.specs.contracts.refusal.Refusal as Refusal
use Rattle.turn_lock.specs.contracts.lock.BetweenCalls as BetweenCalls
use Rattle.turn_lock.specs.contracts.lock.BetweenCallsRestingView.TheImpl as Between
use Rattle.turn_lock.specs.contracts.object.View as View
use Rattle.turn_lock.specs.contracts.steps.Held as Held
use Rattle.turn_lock.specs.contracts.steps.TicketRule as TicketRule
use Rattle.turn_lock.specs.contracts.steps.TicketRuleTableRuleHeldAskAnswerViewAskAnswerSnapshot.TheImpl as Rule
use Rattle.turn_port.specs.contracts.locked.LockedStore as LockedStore
use Rattle.turn_port.specs.contracts.locked.LockedStoreObject.TheImpl as LockedObject
use Rattle.serve_workers.proofs.Sent.{store_goes, held_goes, caller_goes}
use Rattle.turn_lock.specs.History.{caller}
use Rattle.serve_workers.specs.Seated.{AreSeated}
use Rattle.serve_workers.specs.Workers.{ServesAll}
use Rattle.serve_workers.proofs.SeatedLaws.{as_many}
use Rattle.serve_workers.proofs.WorkersLaws.{map_map, refilled, own_after, served_all}
use Rattle.serve_workers.proofs.serving.serve_workers.Goals as goal

pub serve_callers-requires-send-P : goal.serve_callers-requires-send-P
serve_callers-requires-send-P g c κs within =
    let disk = c.type_bounds.send-D in
    let namer = c.type_bounds.send-N in
    let state = c.type_bounds.send-N-State in
    let runtime = c.type_bounds.sync-R in
    let d : IsSend (param 0 g.row.D) = search sendable in
    let n : IsSend (copied 1 g.row.N) = record { owned = namer.owned; leaving = λ k x w. tt } in
    let s : IsSend (param 6 g.row.N-State) = search sendable in
    let r : IsSync (param 5 g.row.R) = search sendable in
    let store = LockedStore.the_row (param 0 g.row.D) (copied 1 g.row.N) (param 6 g.row.N-State) g.D.Disk g.N.Namer in
    let reply = Result.the_row Answer.the_row Refusal.the_row in
    let object = LockedObject.ghosts (param 0 g.row.D) (copied 1 g.row.N) (param 6 g.row.N-State) g.D.Disk LockedObject.no_dict g.N.Namer
    LockedObject.no_dict g.N.Clone LockedObject.no_dict LockedObject.no_dict LockedObject.no_dict in
    let port = caller_goes (record { mir = named 3; lft = κs.1.1.1.0 }) (Held.the_row store Event.the_row reply)
    (View.the_row store Event.the_row reply) (Snapshot.the_row store) (TicketRule.the_row store) BetweenCalls.the_row (param 5 g.row.R)
    (Between.ghosts store Event.the_row reply) (Rule.ghosts store Event.the_row reply object Rule.no_dict Rule.no_dict)
    (held_goes store (store_goes (param 0 g.row.D) (copied 1 g.row.N) (param 6 g.row.N-State) g.D.Disk g.N.Namer d n s)) r in
    record { owned = port.owned; leaving = λ k. Quiet-if (k (of_param 0)) _ unseen (port.leaving no) (λ x w. tt) }

pub rise_workers-workers-requires-clause-room : goal.rise_workers-workers-requires-clause-room
rise_workers-workers-requires-clause-room g c =
    let room = c.in-Some.ensures.room in
    let many = as_many (λ port. port.pass.seat.table_id) (λ port. port.pass.seat.me.0) c.in-Ok.made.1.seat.table_id 0 c.args.workers.items
    c.seat_workers-callers.result.items c.seat_workers-callers.ensures.seated in
    let given = c.seat_workers-callers.result.ok in
    let taken = c.args.workers.ok in
    let counted = c.len.ensures in (
      omega (arith, room.1, many, given, taken, counted),
      omega (arith, room.2, many, given, taken, counted),
    )

pub close_store-store-requires-clause-others : goal.close_store-store-requires-clause-others
close_store-store-requires-clause-others g c =
    let table = c.in-Ok.made.1.seat.table_id in
    let seat = c.seat_workers-callers in
    let after = c.serve_callers.new.callers in
    let refill = refilled seat.result.len seat.result.items after (c.serve_callers.auto.callers ∙ c.as_mut_slice.ensures.len) in
    let seated = subst (λ cs. AreSeated (λ port. port.pass.seat.table_id) (λ port. port.pass.seat.me.0) table 0 c.args.workers.items cs)
    (sym c.as_mut_slice.ensures.value) seat.ensures.seated in
    let owned = own_after (λ port. port.pass.seat.table_id) (λ port. port.pass.seat.me.0) c.args.interface.now.defaults g.T.Link.Faults
    g.T.Door.coming g.T.Door.given_back g.T.Door.faults g.C.Clock.moments table 0 c.args.workers.items c.as_mut_slice.result.now after
    seated c.serve_callers.ensures in
    subst (λ passes. All (λ p. p.seat.table_id ≡ c.in-Ok.made.0.table.shared.table_id) passes)
    (sym (c.rise_workers-workers.ensures.passes ∙ ap (map (λ caller. caller.port.pass)) refill))
    (All-map (λ p. p.seat.table_id ≡ c.in-Ok.made.0.table.shared.table_id) (λ caller. caller.port.pass) after
    (λ k d less. owned k d less ∙ c.in-Ok.ensures.own))

pub returns-clause-ok : goal.returns-clause-ok
returns-clause-ok g c =
    let seat = c.seat_workers-callers in
    let first = seat.new.first.seat.me.0 in
    let opened = c.in-Ok.ensures.opening.0 in
    let table = c.in-Ok.made.1.seat.table_id in
    let after = c.serve_callers.new.callers in
    let rise = c.rise_workers-workers.ensures in
    let refill = refilled seat.result.len seat.result.items after (c.serve_callers.auto.callers ∙ c.as_mut_slice.ensures.len) in
    let seated = subst (λ cs. AreSeated (λ port. port.pass.seat.table_id) (λ port. port.pass.seat.me.0) table 0 c.args.workers.items cs)
    (sym c.as_mut_slice.ensures.value) seat.ensures.seated in
    let counted : c.args.workers.len ≡ length c.args.workers.items = omega (arith, c.args.workers.ok) in
    subst (λ workers. ServesAll c.args.interface.now.defaults g.T.Link.Faults g.T.Door.coming g.T.Door.given_back g.T.Door.faults g.C.Clock.moments
    c.args.store c.close_store-store.result c.args.workers.items workers) (sym (rise.workers ∙ ap (map (λ caller. caller.worker)) refill))
    (served_all (λ port. port.pass.seat.table_id) (λ port. port.pass.seat.me.0) c.args.interface.now.defaults g.T.Link.Faults g.T.Door.coming
    g.T.Door.given_back g.T.Door.faults g.C.Clock.moments c.args.store c.close_store-store.result first table c.args.workers.items
    c.as_mut_slice.result.now after (map (λ p. p.seat.me.0) c.rise_workers-workers.result.1.items)
    (opened.0, seat.ensures.opening ∙ opened.1, opened.2) (seat.ensures.split ∙ ap (λ n. caller [] n [] ∷ []) counted) seated
    c.serve_callers.ensures
    (ap (map (λ p. p.seat.me.0)) (rise.passes ∙ ap (map (λ caller. caller.port.pass)) refill)
    ∙ map_map (λ p. p.seat.me.0) (λ caller. caller.port.pass) after) c.close_store-store.ensures.all)
