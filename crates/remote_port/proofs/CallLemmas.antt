-- One call over a connection.
use Rattle.std.specs.Prelude.{◌≡◌, Bool, true, false, [], ◌∷◌, Option, Some, None, is_some, Ok, Err, IsErrOf, refl}
use Rattle.std.proofs.Common.{sym, ap, subst, ◌∙◌}
use Rattle.std.proofs.lemmas.Bool.{true≢false}
use Rattle.fault_counts.specs.Counts.{Counted}
use Rattle.http_client.specs.Requests.{Ask}
use Rattle.office_model.specs.declared.event.Event.{Event}
use Rattle.office_model.specs.declared.refusal.Refusal.{Refusal}
use Rattle.office_model.specs.declared.refusal.Refusal.TheVariants.{Memory}
use Rattle.office_model.specs.Meaning.{Reply}
use Rattle.peer_exchange.specs.SeveralLaws.{AreExchanged-none, AreExchanged-one}
use Rattle.peer_talk.specs.Mirror.{Response}
use Rattle.remote_port.specs.declared.end.PortEnd.{PortEnd}
use Rattle.remote_port.specs.declared.end.PortEnd.TheVariants as End
use Rattle.remote_port.specs.Hearing.{most, HasResponse, EndsBy}
use Rattle.remote_port.specs.Speaks.{Connection, heard, unasked, barred, EndsWith, Speaks}
use Rattle.remote_port.specs.SpeaksLaws.{Counted-same}

some-none : {A : Type 0} (a : A) → Some a ≡ None → ⊥
some-none a e = cc

some-is : {A : Type 0} (a : A) (o : Option A) → o ≡ Some a → o ≡ None → ⊥
some-is a o e f = some-none a (sym e ∙ f)

same-some : {A : Type 0} (a b : A) → Some a ≡ Some b → a ≡ b
same-some a b e = cc

-- the port hasn't ended
pub goes-on : (end : Option PortEnd) → is_some end ≡ false → end ≡ None
goes-on None is = refl
goes-on (Some end) is = absurd (true≢false is)

module _ (may : Event → Bool) (request_of : Event → Ask) (refusal_of : Event → Refusal) (Says : Event → Response → Reply → Type 0) where
  -- nothing is said once the port has ended
  call-silent : (p : Connection) (event : Event) (end : PortEnd) → p.end ≡ Some end
      → Speaks may request_of refusal_of Says p p ((event, Err Memory) ∷ [])
  call-silent p event end over = record {
    turns = [];
    lost = event ∷ [];
    calls_are = refl;
    are = tt;
    mid = p.seen;
    exchanged = AreExchanged-none most p.seen;
    ends = λ goes. absurd (some-is end p.end over goes);
    silent = λ _ _. (refl, refl);
    counted = Counted-same p.seen.faults _ (λ both. some-is end p.end over both.0);
  }

  pub call-ended : (p : Connection) (event : Event) → is_some p.end ≡ true
      → Speaks may request_of refusal_of Says p p ((event, Err Memory) ∷ [])
  call-ended p event is = by p.end refl
    where
      by : (end : Option PortEnd) → p.end ≡ end → Speaks may request_of refusal_of Says p p ((event, Err Memory) ∷ [])
      by None none = absurd (true≢false (sym is ∙ ap is_some none))
      by (Some end) over = call-silent p event end over

  goes : (p : Connection) → p.end ≡ None → EndsWith may request_of refusal_of Says p.seen p.seen [] p.end
  goes p going = subst (λ (e : Option PortEnd). EndsWith may request_of refusal_of Says p.seen p.seen [] e) (sym going) refl

  -- there was no memory for the request
  pub call-unasked : (p : Connection) (event : Event) → p.end ≡ None → Speaks may request_of refusal_of Says p p ((event, Err Memory) ∷ [])
  call-unasked p event going = record {
    turns = unasked event ∷ [];
    lost = [];
    calls_are = refl;
    are = (tt, tt);
    mid = p.seen;
    exchanged = AreExchanged-none most p.seen;
    ends = λ _. goes p going;
    silent = λ end over. absurd (some-is end p.end over going);
    counted = Counted-same p.seen.faults _ (λ both. some-is End.Link p.end both.1 going);
  }

  -- there is no request for it
  pub call-barred : (p : Connection) (event : Event) (refusal : Refusal) → p.end ≡ None → may event ≡ false → refusal ≡ refusal_of event
      → Speaks may request_of refusal_of Says p p ((event, Err refusal) ∷ [])
  call-barred p event refusal going none is = record {
    turns = barred event ∷ [];
    lost = [];
    calls_are = ap (λ (r : Refusal). (event, Err r) ∷ []) is;
    are = (none, tt);
    mid = p.seen;
    exchanged = AreExchanged-none most p.seen;
    ends = λ _. goes p going;
    silent = λ end over. absurd (some-is end p.end over going);
    counted = Counted-same p.seen.faults _ (λ both. some-is End.Link p.end both.1 going);
  }

  -- a reply was heard
  pub call-heard : (p q : Connection) (event : Event) (reply : Reply) → p.end ≡ None → q.end ≡ None → may event ≡ true
      → HasResponse request_of Says p.seen q.seen event (Ok reply)
      → Counted p.seen.faults q.seen.faults (IsErrOf {T = Reply} (Ok reply) End.Link)
      → Speaks may request_of refusal_of Says p q ((event, reply) ∷ [])
  call-heard p q event reply going still fits h counted = record {
    turns = heard (record { event = event; response = h.response; reply = reply }) ∷ [];
    lost = [];
    calls_are = refl;
    are = ((fits, h.reads), tt);
    mid = q.seen;
    exchanged = AreExchanged-one most p.seen q.seen (record { ask = request_of event; status = h.response.status; body = h.response.body }) h.answers;
    ends = λ _. subst (λ (e : Option PortEnd). EndsWith may request_of refusal_of Says q.seen q.seen [] e) (sym still) refl;
    silent = λ end over. absurd (some-is end p.end over going);
    counted = record {
      later = counted.later;
      rose = λ both. absurd (some-is End.Link q.end both.1 still);
      stays = λ _. counted.stays (λ e. ok-err reply End.Link e);
    };
  }
    where
      ok-err : {T E : Type 0} (x : T) (e : E) → Ok x ≡ Err e → ⊥
      ok-err x e same = cc

  -- none was, and this is why
  pub call-lost : (p q : Connection) (event : Event) (end : PortEnd) → p.end ≡ None → q.end ≡ Some end → may event ≡ true
      → EndsBy request_of Says p.seen q.seen event end
      → Counted p.seen.faults q.seen.faults (IsErrOf {T = Reply} (Err end) End.Link)
      → Speaks may request_of refusal_of Says p q ((event, Err Memory) ∷ [])
  call-lost p q event end going over fits ends counted = record {
    turns = [];
    lost = event ∷ [];
    calls_are = refl;
    are = tt;
    mid = p.seen;
    exchanged = AreExchanged-none most p.seen;
    ends = λ _. subst (λ (e : Option PortEnd). EndsWith may request_of refusal_of Says p.seen q.seen (event ∷ []) e) (sym over) (fits, ends);
    silent = λ before was. absurd (some-is before p.end was going);
    counted = record {
      later = counted.later;
      rose = λ both. counted.rose (ap Err (same-some end End.Link (sym over ∙ both.1)));
      stays = λ no. counted.stays (λ e. no (going, over ∙ ap Some (err-is end End.Link e)));
    };
  }
    where
      err-is : (a b : PortEnd) → IsErrOf {T = Reply} {E = PortEnd} (Err a) b → a ≡ b
      err-is a b e = cc
