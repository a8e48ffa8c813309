use Rattle.std.proofs.Common.{◌≡◌, suc, ◌+◌, ◌∷◌, [], ◌++◌, length, refl, sym, ap, subst, ◌∙◌, append_assoc, arith}
use Rattle.std.proofs.lemmas.List.{length-append}
use Rattle.std.specs.Vec.Iter.{into_iter_items}
use Rattle.turn_lock.specs.History.{caller, with_child, new_child}
use Rattle.serve_workers.specs.Seated.{AreSeated}
use Rattle.serve_workers.proofs.SeatedLaws.{seated_more}
use Rattle.serve_workers.proofs.seating.seat_workers.Goals as goal

pub loop-worker-preserved : goal.loop-worker-preserved
loop-worker-preserved g c =
    let inv = c.loop-worker.invariant in
    let step = c.in-Some.ensures.steps in
    let kept = c.pass-pass.ensures.kept in
    let given = c.pass-pass.ensures.given in
    let pushed = c.push_reserved.ensures in
    let done = c.loop-worker.yielded in
    let worker = c.in-Some.worker in
    let seated = c.loop-worker.callers.items in
    let left = into_iter_items c.next.new.self in
    let fewer : length (into_iter_items c.loop-worker.worker-iterator) ≡ suc (length left) = ap length step.0 in
    let longer : length c.push_reserved.new.self.items ≡ length seated + 1 = ap length pushed.items ∙ length-append seated (_ ∷ []) in
    let one_more : length done + 1 ≡ length (done ++ worker ∷ []) = sym (length-append done (worker ∷ [])) in
    let last : length done ≡ 0 + length done = omega arith in record {
      left = append_assoc done (worker ∷ []) left ∙ ap (λ l. done ++ l) (sym step.0) ∙ inv.left;
      count = omega (arith, step.1, inv.count, fewer);
      room = omega (arith, inv.room, fewer, longer, pushed.capacity);
      own = kept.0 ∙ inv.own;
      opening = ap (λ m. m.0.opening) kept.2 ∙ inv.opening;
      split = ap (λ m. m.0.callers) kept.2 ∙ ap with_child inv.split ∙ ap (λ n. caller [] n [] ∷ []) one_more;
      seated = subst (λ cs. AreSeated (λ port. port.pass.seat.table_id) (λ port. port.pass.seat.me.0) c.args.first.now.seat.table_id 0
          (done ++ worker ∷ []) cs) (sym pushed.items)
          (seated_more (λ port. port.pass.seat.table_id) (λ port. port.pass.seat.me.0) c.args.first.now.seat.table_id 0 (length done) done
          seated worker _ inv.seated last (record {
            own = ap (λ p. p.seat.table_id) c.new-port.ensures ∙ given.0 ∙ inv.own;
            callers = ap (λ p. p.seat.me.0.callers) c.new-port.ensures ∙ ap (λ m. m.0.callers) given.1 ∙ ap new_child inv.split;
            worker_is = refl;
          }));
    }
