-- Laws of calls over a connection: none, one, and one after the other.
use Rattle.std.specs.Prelude.{◌≡◌, ℕ, Bool, List, [], ◌∷◌, ◌++◌, map, Option, Some, None, refl}
use Rattle.std.specs.List.{AllByRecursion}
use Rattle.std.proofs.Common.{arith, sym, ap, subst, ◌∙◌, append_assoc, append-nil}
use Rattle.std.proofs.lemmas.List.{map-append}
use Rattle.fault_counts.specs.Counts.{Counted, Rose}
use Rattle.stream_traits.specs.Seen.{LinkSeen}
use Rattle.http_client.specs.Requests.{Ask}
use Rattle.office_model.specs.declared.event.Event.{Event}
use Rattle.office_model.specs.declared.refusal.Refusal.{Refusal}
use Rattle.office_model.specs.Meaning.{Reply}
use Rattle.office_model.specs.Step.{Call}
use Rattle.peer_exchange.specs.Several.{Exchange, AreExchanged}
use Rattle.peer_exchange.specs.SeveralLaws.{AreExchanged-none, AreExchanged-joined}
use Rattle.peer_talk.specs.Mirror.{Response}
use Rattle.remote_port.specs.declared.end.PortEnd.{PortEnd}
use Rattle.remote_port.specs.declared.end.PortEnd.TheVariants as End
use Rattle.remote_port.specs.Hearing.{most}
use Rattle.remote_port.specs.Speaks.{Connection, Turn, heard, unasked, barred, heard_in, lost_call, call_of, IsTurn, exchange_of, EndsWith, Speaks}

some-none : {A : Type 0} (a : A) → Some a ≡ None → ⊥
some-none a e = cc

-- the count of faults stays
pub Counted-same : (count : ℕ) (P : Type 0) → (P → ⊥) → Counted count count P
Counted-same count P never = record { later = omega arith; rose = λ p. absurd (never p); stays = λ _. refl }

heard-append : (xs ys : List Turn) → heard_in (xs ++ ys) ≡ heard_in xs ++ heard_in ys
heard-append [] ys = refl
heard-append (heard h ∷ xs) ys = ap (λ hs. h ∷ hs) (heard-append xs ys)
heard-append (unasked event ∷ xs) ys = heard-append xs ys
heard-append (barred event ∷ xs) ys = heard-append xs ys

module _ (may : Event → Bool) (request_of : Event → Ask) (refusal_of : Event → Refusal) (Says : Event → Response → Reply → Type 0) where
  -- the calls of such turns and of such lost events
  abbrev calls : List Turn → List Event → List Call
  calls turns lost = map (call_of may request_of refusal_of Says) turns ++ map lost_call lost

  abbrev exchanges : List Turn → List Exchange
  exchanges turns = map (exchange_of may request_of refusal_of Says) (heard_in turns)

  -- no calls lead nowhere
  pub Speaks-none : (p : Connection) → Speaks may request_of refusal_of Says p p []
  Speaks-none p = record {
    turns = [];
    lost = [];
    calls_are = refl;
    are = tt;
    mid = p.seen;
    exchanged = AreExchanged-none most p.seen;
    ends = λ goes. subst (λ (e : Option PortEnd). EndsWith may request_of refusal_of Says p.seen p.seen [] e) (sym goes) refl;
    silent = λ end is. (refl, refl);
    counted = Counted-same p.seen.faults _ (λ both. some-none End.Link (sym both.1 ∙ both.0));
  }

  are-append : (xs ys : List Turn) → AllByRecursion (IsTurn may request_of refusal_of Says) xs
      → AllByRecursion (IsTurn may request_of refusal_of Says) ys → AllByRecursion (IsTurn may request_of refusal_of Says) (xs ++ ys)
  are-append [] ys a b = b
  are-append (x ∷ xs) ys a b = (a.0, are-append xs ys a.1 b)

  exchanges-append : (xs ys : List Turn) → exchanges (xs ++ ys) ≡ exchanges xs ++ exchanges ys
  exchanges-append xs ys =
      ap (map (exchange_of may request_of refusal_of Says)) (heard-append xs ys)
      ∙ map-append (exchange_of may request_of refusal_of Says) (heard_in xs) (heard_in ys)

  -- more that was lost behind an end
  ends-more : (old new : LinkSeen) (lost more : List Event) (end : PortEnd) (is : Option PortEnd) → is ≡ Some end
      → EndsWith may request_of refusal_of Says old new lost is → EndsWith may request_of refusal_of Says old new (lost ++ more) is
  ends-more old new [] more end None same ends = absurd (some-none end (sym same))
  ends-more old new [] more end (Some e) same ends = absurd ends
  ends-more old new (event ∷ events) more end None same ends = absurd ends
  ends-more old new (event ∷ events) more end (Some e) same ends = ends

  -- where the port goes on nothing was lost
  goes-on : (old new : LinkSeen) (lost : List Event) (is : Option PortEnd) → is ≡ None
      → EndsWith may request_of refusal_of Says old new lost is → (lost ≡ []) × (new ≡ old)
  goes-on old new [] None same ends = (refl, ends)
  goes-on old new [] (Some e) same ends = absurd ends
  goes-on old new (event ∷ events) None same ends = absurd ends
  goes-on old new (event ∷ events) (Some e) same ends = absurd (some-none e same)

  module _ (p q r : Connection) (xs ys : List Call) (x : Speaks may request_of refusal_of Says p q xs)
      (y : Speaks may request_of refusal_of Says q r ys) where
    -- the first calls ended the port
    behind-end : (end : PortEnd) → q.end ≡ Some end → Speaks may request_of refusal_of Says p r (xs ++ ys)
    behind-end end is =
        let s : (r ≡ q) × (y.turns ≡ []) = y.silent end is in
        record {
          turns = x.turns;
          lost = x.lost ++ y.lost;
          calls_are = (λ i. x.calls_are i ++ (y.calls_are ∙ ap (λ (ts : List Turn). calls ts y.lost) s.1) i)
              ∙ append_assoc (map (call_of may request_of refusal_of Says) x.turns) (map lost_call x.lost) (map lost_call y.lost)
              ∙ ap (λ cs. map (call_of may request_of refusal_of Says) x.turns ++ cs) (sym (map-append lost_call x.lost y.lost));
          are = x.are;
          mid = x.mid;
          exchanged = x.exchanged;
          ends = λ goes. subst (λ (c : Connection). EndsWith may request_of refusal_of Says x.mid c.seen (x.lost ++ y.lost) c.end) (sym s.0)
              (ends-more x.mid q.seen x.lost y.lost end q.end is (x.ends goes));
          silent = λ first over. (s.0 ∙ (x.silent first over).0, (x.silent first over).1);
          counted = subst (λ (c : Connection). Counted p.seen.faults c.seen.faults ((p.end ≡ None) × (c.end ≡ Some End.Link))) (sym s.0) x.counted;
        }

    -- it goes on behind them
    going-on : p.end ≡ None → q.end ≡ None → Speaks may request_of refusal_of Says p r (xs ++ ys)
    going-on first is =
        let e : (x.lost ≡ []) × (q.seen ≡ x.mid) = goes-on x.mid q.seen x.lost q.end is (x.ends first) in
        let same : q.seen.faults ≡ p.seen.faults = x.counted.stays (λ both. some-none End.Link (sym both.1 ∙ is)) in
        record {
          turns = x.turns ++ y.turns;
          lost = y.lost;
          calls_are = (λ i. (x.calls_are ∙ ap (λ (es : List Event). calls x.turns es) e.0
              ∙ append-nil (map (call_of may request_of refusal_of Says) x.turns)) i ++ y.calls_are i)
              ∙ sym (append_assoc (map (call_of may request_of refusal_of Says) x.turns) (map (call_of may request_of refusal_of Says) y.turns) (map lost_call y.lost))
              ∙ ap (λ cs. cs ++ map lost_call y.lost) (sym (map-append (call_of may request_of refusal_of Says) x.turns y.turns));
          are = are-append x.turns y.turns x.are y.are;
          mid = y.mid;
          exchanged = subst (λ (es : List Exchange). AreExchanged most p.seen y.mid es) (sym (exchanges-append x.turns y.turns))
              (AreExchanged-joined most p.seen q.seen y.mid (exchanges x.turns) (exchanges y.turns)
              (subst (λ (s : LinkSeen). AreExchanged most p.seen s (exchanges x.turns)) (sym e.1) x.exchanged) y.exchanged);
          ends = λ _. y.ends is;
          silent = λ end over. absurd (some-none end (sym over ∙ first));
          counted = record {
            later = omega (arith, same, y.counted.later);
            rose = λ both. let rose : Rose q.seen.faults r.seen.faults = y.counted.rose (is, both.1) in omega (arith, same, rose);
            stays = λ no. y.counted.stays (λ both. no (first, both.1)) ∙ same;
          };
        }

    by-start : (end : Option PortEnd) → p.end ≡ end → q.end ≡ None → Speaks may request_of refusal_of Says p r (xs ++ ys)
    by-start None first is = going-on first is
    by-start (Some end) over is =
        absurd (some-none end (sym over ∙ sym (ap (λ (c : Connection). c.end) (x.silent end over).0) ∙ is))

    by-end : (end : Option PortEnd) → q.end ≡ end → Speaks may request_of refusal_of Says p r (xs ++ ys)
    by-end None is = by-start p.end refl is
    by-end (Some end) is = behind-end end is

    -- calls, and then others
    pub Speaks-append : Speaks may request_of refusal_of Says p r (xs ++ ys)
    Speaks-append = by-end q.end refl
