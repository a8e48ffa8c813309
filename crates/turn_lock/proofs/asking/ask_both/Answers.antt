use Rattle.std.proofs.Common.{◌≡◌, ◌∷◌, [], ◌++◌, All, Some, map, ap, subst, ◌∙◌}
use Rattle.std.proofs.lemmas.List.Elements.{All-head}
use Rattle.turn_lock.specs.History.{StoodIn, Fits, AllReturned, NoOtherCalls, callers_of, with_child, new_child, stands_from}
use Rattle.turn_lock.specs.Asked.{with_calls}
use Rattle.turn_lock.proofs.ManyCalls.{left_caller, right_caller, both_stood}
use Rattle.turn_lock.proofs.asking.ask_both.Goals as goal

pub returns-clause-ok : goal.returns-clause-ok
returns-clause-ok g c =
    let j = c.ask_beside-left_answers in
    let left = c.args.left.now in
    let right = c.args.right.now in
    let xs = j.result.0.0.items in
    let ys = j.result.1.0.items in
    let first = j.result.0.1 in
    let second = j.result.1.1 in
    let one = j.ensures.first in
    let two = j.ensures.second in
    let made = c.in-Ok-new.ensures.ok.1 in
    let kept = c.pass-second.ensures.kept.2 in
    let given = c.pass-second.ensures.given.1 in
    let opening_is : first.seat.me.0.opening ≡ Some c.args.object = one.2 ∙ ap (λ m. m.0.opening) kept ∙ ap (λ m. m.0.opening) made in
    let one_is : first.seat.me.0.callers ≡ left_caller left right xs ys ∷ [] =
    one.0 ∙ ap (λ m. with_calls left xs m.0.callers) kept ∙ ap (λ m. with_calls left xs (with_child m.0.callers)) made in
    let two_is : second.seat.me.0.callers ≡ right_caller left right xs ys ∷ [] =
    two.0 ∙ ap (λ m. with_calls right ys m.0.callers) given ∙ ap (λ m. with_calls right ys (new_child m.0.callers)) made in
    let items_is : c.push_reserved.new.self.items ≡ second ∷ [] =
    c.push_reserved.ensures.items ∙ ap (λ l. l ++ second ∷ []) c.in-Ok-with_capacity-2.ensures.items in
    let end = c.close-object.ensures in
    let fits_two : Fits end.0 second.seat.me.0.callers =
    (All-head (StoodIn end.0) second.seat.me.0 [] (subst (λ items. All (StoodIn end.0) (map (λ p. p.seat.me.0) items)) items_is end.3)).1 in
    let only : AllReturned (first.seat.me.0.callers ++ (second.seat.me.0.callers ++ []))
    → NoOtherCalls (first.seat.me.0.callers ++ (second.seat.me.0.callers ++ [])) end.0 =
    subst (λ items. AllReturned (first.seat.me.0.callers ++ callers_of (map (λ p. p.seat.me.0) items))
    → NoOtherCalls (first.seat.me.0.callers ++ callers_of (map (λ p. p.seat.me.0) items)) end.0) items_is end.4 in (
      end.0,
      subst (λ p. stands_from g.O.Object.stands p c.close-object.result end.0) opening_is end.1,
      j.ensures.counted_first,
      j.ensures.counted_second,
      both_stood left right xs ys end.0 first.seat.me.0.callers second.seat.me.0.callers one_is two_is end.2.1 fits_two only,
    )
