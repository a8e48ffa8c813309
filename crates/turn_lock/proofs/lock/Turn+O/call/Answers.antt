use Rattle.std.proofs.Common.{◌≡◌, ◌++◌, ap, refl, sym, ◌∙◌}
use Rattle.turn_lock.specs.History.{own_number}
use Rattle.turn_lock.proofs.Callers.{stands_more}
use Rattle.turn_lock.proofs.Keeps.{same_home}
use Rattle.turn_lock.proofs.lock.Turn+O.call.Goals as goal

pub pass_on-requires-clause-object : goal.pass_on-requires-clause-object
pass_on-requires-clause-object g c =
    let t = c.wait_for_turn.ensures.taken in
    let me = c.draw_ticket-ticket.new.pass.me.0 in
    let view_is = ap (λ m. m.0) c.put_object_back.ensures.in_slot ∙ ap (λ m. m.0) c.take_object-object.ensures.out ∙ ap (λ m. m.0) t.2 in
    let same : t.0 ≡ c.take_object-object.result = same_home t.0 c.take_object-object.result
    (sym (ap (λ m. m.1) t.2) ∙ c.take_object-object.ensures.object) in (
      c.act-answer.new.self,
      ap (λ m. m.1) c.put_object_back.ensures.in_slot,
      rw view_is (stands_more g.O.Object.stands me.opening c.take_object-object.result c.act-answer.new.self (me.seen ++ t.1) _
          (λ from. c.act-answer.ensures from (me.seen ++ t.1) (own_number me.callers)) (rw (← same) t.3)),
    )

pub returns-clause-call : goal.returns-clause-call
returns-clause-call g c =
    let t = c.wait_for_turn.ensures.taken in
    let me = c.draw_ticket-ticket.new.pass.me.0 in
    let old = c.args.pass.now.seat.me.0 in
    let e = c.pass_on.ensures.ended in
    let view_is = ap (λ m. m.0) c.put_object_back.ensures.in_slot ∙ ap (λ m. m.0) c.take_object-object.ensures.out ∙ ap (λ m. m.0) t.2 in
    let drawn = ap (λ m. m.0) c.draw_ticket-ticket.ensures.drawn in
    let seen_before = ap (λ v. v.seen) view_is ∙ ap (λ v. v.seen ++ t.1) drawn in
    let callers_before = ap (λ v. v.callers) view_is ∙ ap (λ v. v.callers) drawn in
    let opening_before = ap (λ v. v.opening) view_is ∙ ap (λ v. v.opening) drawn in
    let same : t.0 ≡ c.take_object-object.result = same_home t.0 c.take_object-object.result
    (sym (ap (λ m. m.1) t.2) ∙ c.take_object-object.ensures.object) in (
      t.1,
      ap (λ m. m.0.seen) e ∙ (rw (seen_before, callers_before) refl),
      ap (λ m. m.0.callers) e ∙ (rw callers_before refl),
      rw e c.pass_on.ensures.fits,
      (
        c.act-answer.new.self,
        rw (e, view_is, ← ap (λ v. v.opening) drawn)
            (stands_more g.O.Object.stands me.opening c.take_object-object.result c.act-answer.new.self (me.seen ++ t.1) _
            (λ from. c.act-answer.ensures from (me.seen ++ t.1) (own_number me.callers)) (rw (← same) t.3)),
      ),
      ap (λ m. m.0.opening) e ∙ opening_before,
    )
