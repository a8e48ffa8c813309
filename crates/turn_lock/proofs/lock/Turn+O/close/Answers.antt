use Rattle.std.proofs.Common.{◌≡◌, ◌++◌, List, map, ap, sym, ◌∙◌}
use Rattle.std.proofs.lemmas.List.Elements.{All-map}
use Rattle.turn_lock.specs.declared.object.Entry.{Entry}
use Rattle.turn_lock.specs.History.{StoodIn, callers_of}
use Rattle.turn_lock.proofs.Keeps.{same_home}
use Rattle.turn_lock.proofs.Callers.{no_others, fits_append, fits_of}
use Rattle.turn_lock.proofs.lock.Turn+O.close.Goals as goal

pub returns : goal.returns
returns g c =
    let t = c.wait_for_turn.ensures.taken in
    let me = c.draw_ticket-ticket.new.pass.me.0 in
    let log : List (Entry g.row.O-Ask.Denot g.row.O-Answer.Denot) = me.seen ++ t.1 in
    let same : t.0 ≡ c.take_object-object.result = same_home t.0 c.take_object-object.result
    (sym (ap (λ m. m.1) t.2) ∙ c.take_object-object.ensures.object) in
    let drawn = ap (λ m. m.0) c.draw_ticket-ticket.ensures.drawn in
    let opening_is = ap (λ v. v.opening) drawn ∙ c.meet_all-seat.ensures.opened in
    let stood : StoodIn log c.meet_all-seat.result.seat.me.0 = (
      (t.1, ap (λ v. v.seen ++ t.1) drawn),
      rw (← ap (λ v. v.callers) drawn) t.4,
    ) in
    let b = c.meet_all-seat.ensures.stood log stood in
    let all = c.args.pass.seat.me.0.callers in
    let others = callers_of (map (λ p. p.seat.me.0) c.args.others.items) in (
      log,
      rw (← opening_is, ← same) t.3,
      b.0,
      All-map (StoodIn log) (λ p. p.seat.me.0) c.args.others.items b.1,
      λ returned. no_others (all ++ others) log (fits_append log all others b.0.1
          (fits_of (λ p. p.seat.me.0) log c.args.others.items b.1)) returned,
    )
