use Rattle.std.proofs.Common.{arith, ◌≡◌, ◌++◌, ◌∷◌, [], Some, refl, ap, sym, ◌∙◌, append-nil, append_assoc, length}
use Rattle.std.proofs.lemmas.List.Elements.{All-nil, All-cons, All-pop, All-same}
use Rattle.turn_lock.specs.History.{StoodIn}
use Rattle.turn_lock.proofs.Callers.{met_stood, empty_is}
use Rattle.turn_lock.proofs.lock.Turn+O.meet_all.Goals as goal

pub loop-other-init : goal.loop-other-init
loop-other-init g c = (c.requires.own, c.requires.others, ([], sym (append-nil c.args.others.items), refl, λ log stood. (stood, All-nil _)))

pub loop-other-preserved : goal.loop-other-preserved
loop-other-preserved g c =
    let i = c.loop-other.invariant in
    let other = c.in-Some.other in
    let e : c.loop-other.others.items ≡ c.pop.new.self.items ++ other ∷ [] = c.in-Some.ensures.items in (
      c.meet.ensures.own.0 ∙ i.0,
      (All-pop (λ p. p.seat.table_id ≡ c.args.self.now.table.shared.table_id) c.loop-other.others.items c.pop.new.self.items
          (Some other) e i.1).0,
      (
        other ∷ i.2.0,
        i.2.1 ∙ ap (λ l. l ++ i.2.0) e ∙ append_assoc c.pop.new.self.items (other ∷ []) i.2.0,
        c.meet.ensures.met.5 ∙ i.2.2,
        λ log stood.
            let now = c.meet.new.pass.seat.me.0 in
            let b = met_stood g.O.Object.stands c.loop-other.pass.seat.me.0 other.seat.me.0 now log c.meet.ensures.met stood in
            let s = i.2.3 log b.0 in
            (s.0, All-cons (λ p. StoodIn log p.seat.me.0) other i.2.0 b.1 s.1),
      ),
    )

pub returns-clause-opened : goal.returns-clause-opened
returns-clause-opened g c = c.loop-other.invariant.2.2

pub returns-clause-stood : goal.returns-clause-stood
returns-clause-stood g c =
    let i = c.loop-other.invariant in
    let none_left : length c.loop-other.others.items ≡ 0 = omega (arith, c.loop-other.others.ok, c.in_default.ensures.cases.0) in
    let all : c.args.others.items ≡ i.2.0 = i.2.1 ∙ ap (λ l. l ++ i.2.0) (empty_is c.loop-other.others.items none_left) in
    λ log stood. let s = i.2.3 log stood in (s.0, All-same (λ p. StoodIn log p.seat.me.0) c.args.others.items i.2.0 all s.1)
